-- What is spelled is within the limit, and so are the keys and the steps of the paths of a document.
use Rattle.toml_span_lex.proofs.Common.{◌≡◌, ℕ, ◌+◌, List, [], ◌∷◌, ◌++◌, length, map, sym, ◌∙◌, subst, arith, nat_tests, common_steps, suc, ◌*◌, ◌≤◌, false, length-append, Some, None, option_map, refl, ap}
use Rattle.toml_span_lex.specs.declared.span.Span.{Span}
use Rattle.toml_span_read.specs.Data.{ParsedValue, parsed, ParsedInner, scalar, array, inline, ParsedItems, no_items, item, ParsedPairs, no_pairs, pair, ParsedAssignment, parsed_section, ParsedSection, headerless_section, SimpleKey}
use Rattle.toml_span_read.specs.declared.section.Section.{Section}
use Rattle.toml_span_read.specs.Limits.{Within, WithinInner, WithinItems, WithinPairs, WithinAssignments, WithinSection, WithinSections}
use Rattle.toml_span_read.specs.Grammar.{Spells, SpellsLines, SpellsSection, SpellsDocument, InnerWith, ItemsWith, PairsWith, AssignmentsWith, SpellsScalar}
use Rattle.toml_span_read.proofs.ReadSound.{document_sound}
use Rattle.toml_span_laws.proofs.AscendLaws.{AreParsedSections, document_sections, first_sections}
use Rattle.toml_span_tree.specs.Node as tree
use Rattle.toml_span_tree.specs.Path.{Path, key, position, Place, reached, place_of, node_at}
use Rattle.toml_span_tree.specs.Value.{view}
use Rattle.toml_span_tree.specs.declared.value.Value.{Value}
use Rattle.toml_span_laws.proofs.FirstClash.{mapped}
use Rattle.toml_span.specs.declared.claims.HeaderInfo.{HeaderInfo}
use Rattle.toml_span_read.specs.Paths.{elements_added, opened_by, section_path, enter, target, with_key, with_position}
use Rattle.toml_span.specs.Claims.{Claim, Claims, key_claims, value_claims, inner_claims, item_claims, pair_claims, assignments_claims, end_claims, header_claims, section_claims, claims_after, claims, header_info}
use Rattle.toml_span.specs.Flat.{flat}
use Rattle.toml_span_laws.specs.Laws.{keys_in}
use Rattle.toml_span.specs.Parsing.{IsTree}
use Rattle.toml_span.proofs.EachClaim.{Each, each-followed, flat-decides}

mutual
  pub value_within : (v : ParsedValue) (text : List ℕ) (limit d i j : ℕ) → Spells v text limit d i j → Within limit d v
  value_within (parsed x s) text limit d i j (few, h) = (few, inner_within x s text limit d i j h)

  inner_within : (x : ParsedInner) (s : Span) (text : List ℕ) (limit d i j : ℕ) → InnerWith SpellsScalar x s text limit d i j → WithinInner limit d x
  inner_within (scalar y) s text limit d i j h = tt
  inner_within (array vs) s text limit d i j (here, span, k, gap, h) = items_within vs text limit (d + 1) k j h
  inner_within (inline ps) s text limit d i j (here, span, k, gap, h) = pairs_within ps [] text limit (d + 1) k j h

  items_within : (vs : ParsedItems) (text : List ℕ) (limit d i j : ℕ) → ItemsWith SpellsScalar vs text limit d i j → WithinItems limit d vs
  items_within no_items text limit d i j h = tt
  items_within (item v vs) text limit d i j h = grind (arith, nat_tests, common_steps, items_within vs, value_within v)

  pairs_within : (ps : ParsedPairs) (es : List ParsedAssignment) (text : List ℕ) (limit d i j : ℕ) → PairsWith SpellsScalar ps es text limit d i j → WithinPairs limit d ps
  pairs_within no_pairs es text limit d i j h = tt
  pairs_within (pair ss v x ps) es text limit d i j h = grind (arith, nat_tests, common_steps, pairs_within ps, value_within v)

-- ---- documents

assignments_within : (evs earlier : List ParsedAssignment) (text : List ℕ) (limit i j : ℕ) → AssignmentsWith SpellsScalar evs earlier text limit i j → WithinAssignments limit evs
assignments_within [] earlier text limit i j h = tt
assignments_within (ev ∷ evs) earlier text limit i j (m, n, k, h, t, c, g, r) =
    let zero : 0 + length ev.parts ≡ length ev.parts = omega arith in
    ((h.few, rw zero (value_within ev.value text limit (length ev.parts) h.from m h.spelled)), assignments_within evs (earlier ++ (ev ∷ [])) text limit k j r)

pub section_within : (s : Section) (text : List ℕ) (limit i j : ℕ) → SpellsSection (parsed_section s) text limit i j → WithinSection limit s
section_within s text limit i j h = grind (arith, nat_tests, common_steps, assignments_within)

sections_within : (ss : List Section) (text : List ℕ) (limit i n : ℕ) → AreParsedSections (map parsed_section ss) text limit i n → WithinSections limit ss
sections_within [] text limit i n h = tt
sections_within (s ∷ ss) text limit i n h = grind (arith, nat_tests, common_steps, sections_within ss, assignments_within)

pub first_sections_within : (ss : List Section) (evs : List ParsedAssignment) (text : List ℕ) (limit i j : ℕ) → SpellsLines evs text limit i j → map parsed_section ss ≡ headerless_section evs → WithinSections limit ss
first_sections_within ss evs text limit i j (k, gap, h) is =
    grind (arith, nat_tests, common_steps, sections_within ss text limit 0 j, first_sections evs [] text limit k j j)

pub document_within : (ss : List Section) (text : List ℕ) (limit : ℕ) → SpellsDocument (map parsed_section ss) text limit → WithinSections limit ss
document_within ss text limit h = sections_within ss text limit 0 (length text) (document_sections (map parsed_section ss) text limit h)

-- ---- keys and steps of paths

-- ---- paths

-- the path has at most d more keys than a header may have parts, and at most d more steps than twice as many
abbrev Fits : ℕ → ℕ → Path → Type 0
Fits limit d p = (keys_in p ≤ limit + d) × (length p ≤ 2 * limit + d)

-- a header whose earlier parts lead to the path may continue with these ones
abbrev HasRoom : ℕ → Path → List SimpleKey → Type 0
HasRoom limit p parts = (keys_in p + length parts ≤ limit) × (length p + 2 * length parts ≤ 2 * limit)

keys-append : (p q : Path) → keys_in (p ++ q) ≡ keys_in p + keys_in q
keys-append [] q = omega arith
keys-append (key name ∷ p) q = let more = keys-append p q in omega (arith, more)
keys-append (position i ∷ p) q = let more = keys-append p q in omega (arith, more)

below : (p : Path) (k : SimpleKey) → (keys_in (with_key p k) ≡ keys_in p + 1) × (length (with_key p k) ≡ length p + 1)
below p k = (keys-append p (key k.name ∷ []), length-append p (key k.name ∷ []))

at : (p : Path) (i : ℕ) → (keys_in (with_position p i) ≡ keys_in p) × (length (with_position p i) ≡ length p + 1)
at p i = let more = keys-append p (position i ∷ []) in (omega (arith, more), length-append p (position i ∷ []))

entered : (n : ℕ) (p : Path) → (keys_in (enter n p) ≡ keys_in p) × (length (enter n p) ≤ length p + 1)
unfolding enter
entered n p = grind (arith, nat_tests, common_steps, at)

fits-key : (limit d e : ℕ) (p : Path) (k : SimpleKey) → Fits limit d p → d + 1 ≤ e → Fits limit e (with_key p k)
fits-key limit d e p k fits l = let here = below p k in (omega (arith, fits.0, here.0), omega (arith, fits.1, here.1))

fits-at : (limit d e : ℕ) (p : Path) (i : ℕ) → Fits limit d p → d + 1 ≤ e → Fits limit e (with_position p i)
fits-at limit d e p i fits l = let here = at p i in (omega (arith, fits.0, here.0), omega (arith, fits.1, here.1))

fits-on : (limit d e : ℕ) (p : Path) → Fits limit d p → d ≤ e → Fits limit e p
fits-on limit d e p fits l = (omega (arith, fits.0), omega (arith, fits.1))

-- after a part through which a header passes
passes : (limit : ℕ) (e : Path → ℕ) (p : Path) (k : SimpleKey) (parts : List SimpleKey) → HasRoom limit p (k ∷ parts) → HasRoom limit (enter (e (with_key p k)) (with_key p k)) parts
passes limit e p k parts room = grind (arith, nat_tests, common_steps, below p k, entered (e (with_key p k)) (with_key p k))

target-fits : (limit : ℕ) (e : Path → ℕ) (p : Path) (k : SimpleKey) (parts : List SimpleKey) → HasRoom limit p (k ∷ parts)
    → (keys_in (target e p (k ∷ parts)) ≤ limit) × (length (target e p (k ∷ parts)) + 1 ≤ 2 * limit)
unfolding target
target-fits limit e p k [] room = let here = below p k in (omega (arith, room.0, here.0), omega (arith, room.1, here.1))
target-fits limit e p k (l ∷ more) room = target-fits limit e (enter (e (with_key p k)) (with_key p k)) l more (passes limit e p k (l ∷ more) room)

section-fits : (limit : ℕ) (e : Path → ℕ) (b : ParsedSection) (parts : List SimpleKey) → b.header ≡ parts → (b.header ≡ [] → b.array ≡ false) → length parts ≤ limit → Fits limit 0 (section_path e b)
unfolding target
section-fits limit e b [] is plain few = rw (plain is, is) (omega arith, omega arith)
section-fits limit e b (k ∷ parts) is plain few =
    grind (arith, nat_tests, common_steps, at (target e [] (k ∷ parts)) (e (target e [] (k ∷ parts))), target-fits limit e [] k parts (omega (arith, few), omega (arith, few)))

-- ---- claims

abbrev IsWithin : ℕ → Claim → Type 0
IsWithin limit c = Fits limit limit c.path

key-depth : (limit d : ℕ) (p : Path) (parts : List SimpleKey) (v : ParsedValue) (inside : Path → Claims) → Fits limit d p → d + length parts ≤ limit
    → ((q : Path) → Fits limit (d + length parts) q → Each (IsWithin limit) (inside q)) → Each (IsWithin limit) (key_claims p parts v inside)
unfolding key_claims
key-depth limit d p [] v inside fits few h = tt
key-depth limit d p (k ∷ []) v inside fits few h = (fits-key limit d limit p k fits few, h (with_key p k) (fits-key limit d (d + 1) p k fits (omega arith)))
key-depth limit d p (k ∷ l ∷ more) v inside fits few h = (
  fits-key limit d limit p k fits (omega (arith, few)),
  key-depth limit (d + 1) (with_key p k) (l ∷ more) v inside (fits-key limit d (d + 1) p k fits (omega arith)) (omega (arith, few))
      (λ q f. h q (fits-on limit (d + 1 + length (l ∷ more)) (d + length (k ∷ l ∷ more)) q f (omega arith))),
)

deep : (limit d : ℕ) (v : ParsedValue) → Within limit d v → d ≤ limit
deep limit d (parsed k span) h = h.0

-- each bracket around a value is at most one step, and each part of a key is one
mutual
  unfolding value_claims inner_claims item_claims pair_claims

  value-depth : (limit d : ℕ) (v : ParsedValue) (p : Path) → Fits limit d p → Within limit d v → Each (IsWithin limit) (value_claims v p)
  value-depth limit d (parsed (scalar s) span) p fits h = tt
  value-depth limit d (parsed (array vs) span) p fits h = (item-depth limit d vs 0 p fits h.1, tt)
  value-depth limit d (parsed (inline ps) span) p fits h = (pair-depth limit (d + 1) ps p (fits-on limit d (d + 1) p fits (omega arith)) h.1, tt)

  item-depth : (limit d : ℕ) (vs : ParsedItems) (i : ℕ) (p : Path) → Fits limit d p → WithinItems limit (d + 1) vs → Each (IsWithin limit) (item_claims vs i p)
  item-depth limit d no_items i p fits h = tt
  item-depth limit d (item v vs) i p fits h =
      let q = with_position p i in (
        fits-at limit d limit p i fits (deep limit (d + 1) v h.0),
        each-followed (IsWithin limit) (value_claims v q) (item_claims vs (suc i) p) (value-depth limit (d + 1) v q (fits-at limit d (d + 1) p i fits (omega arith)) h.0) (item-depth limit d vs (suc i) p fits h.1),
      )

  pair-depth : (limit d : ℕ) (ps : ParsedPairs) (p : Path) → Fits limit d p → WithinPairs limit d ps → Each (IsWithin limit) (pair_claims ps p)
  pair-depth limit d no_pairs p fits h = tt
  pair-depth limit d (pair parts v extent rest) p fits h =
      each-followed (IsWithin limit) (key_claims p parts v (value_claims v)) (pair_claims rest p)
      (key-depth limit d p parts v (value_claims v) fits (deep limit (d + length parts) v h.1) (λ q f. value-depth limit (d + length parts) v q f h.1)) (pair-depth limit d rest p fits h.2)

assignments-depth : (limit : ℕ) (es before : List ParsedAssignment) (p : Path) (text : List ℕ) (i j : ℕ) → Fits limit 0 p → AssignmentsWith SpellsScalar es before text limit i j → Each (IsWithin limit) (assignments_claims es p)
unfolding assignments_claims
assignments-depth limit [] before p text i j fits h = tt
assignments-depth limit (e ∷ es) before p text i j fits (m, o, k, h, tail, clear, gap, rest) =
    each-followed (IsWithin limit) (key_claims p e.parts e.value (value_claims e.value)) (assignments_claims es p)
    (key-depth limit 0 p e.parts e.value (value_claims e.value) fits (omega (arith, h.few))
    (λ q f. value-depth limit (length e.parts) e.value q (fits-on limit (0 + length e.parts) (length e.parts) q f (omega arith)) (value_within e.value text limit (length e.parts) h.from m h.spelled)))
    (assignments-depth limit es (before ++ (e ∷ [])) p text k j fits rest)

end-depth : (limit : ℕ) (h : HeaderInfo) (p : Path) (k : SimpleKey) (entries : ℕ) → keys_in p ≤ limit → length p + 1 ≤ 2 * limit → Each (IsWithin limit) (end_claims h p k entries)
unfolding end_claims
end-depth limit h p k entries few short = grind (arith, nat_tests, common_steps, at)

header-depth : (limit : ℕ) (e : Path → ℕ) (h : HeaderInfo) (p : Path) (parts : List SimpleKey) → HasRoom limit p parts → Each (IsWithin limit) (header_claims e h p parts)
unfolding header_claims
header-depth limit e h p [] room = tt
header-depth limit e h p (k ∷ []) room = let here = below p k in end-depth limit h (with_key p k) k (e (with_key p k)) (omega (arith, room.0, here.0)) (omega (arith, room.1, here.1))
header-depth limit e h p (k ∷ l ∷ more) room =
    let q = enter (e (with_key p k)) (with_key p k) in
    let next = passes limit e p k (l ∷ more) room in
    ((omega (arith, next.0), omega (arith, next.1)), header-depth limit e h q (l ∷ more) next)

-- ---- documents

sections-depth : (limit : ℕ) (earlier bs : List ParsedSection) (text : List ℕ) (i : ℕ) → AreParsedSections bs text limit i (length text) → Each (IsWithin limit) (claims_after earlier bs)
unfolding claims_after section_claims
sections-depth limit earlier [] text i h = tt
sections-depth limit earlier (b ∷ bs) text i (s, k, j, start, few, plain, on, lines, rest) =
    let e = elements_added (opened_by earlier) in
    let P = IsWithin limit in
    each-followed P (section_claims e b) (claims_after (b ∷ earlier) bs)
    (each-followed P (header_claims e (header_info b) [] b.header) (assignments_claims b.assignments (section_path e b))
    (header-depth limit e (header_info b) [] b.header (omega (arith, few), omega (arith, few)))
    (assignments-depth limit b.assignments [] (section_path e b) text k j (section-fits limit e b b.header refl plain few) lines))
    (sections-depth limit (b ∷ earlier) bs text j rest)

-- No path of the flat document has more keys than a header and an assignment together. Its other steps are the
-- positions of entries of arrays of tables and of elements of arrays.
flat-fits : (text : List ℕ) (limit l : ℕ) (bs : List ParsedSection) (p : Path) (x : Place) → SpellsDocument bs text limit → flat l (claims bs) p ≡ Some x → Fits limit limit p
flat-fits text limit l bs [] x spelled is = (omega arith, omega arith)
flat-fits text limit l bs (s ∷ p) x spelled is =
    let each = sections-depth limit [] bs text 0 (document_sections bs text limit spelled) in
    let decides = flat-decides (IsWithin limit) l (claims bs) s p x each is in
    subst (Fits limit limit) decides.on decides.holds

pub flat-keys : (text : List ℕ) (limit l : ℕ) (bs : List ParsedSection) (p : Path) (x : Place) → SpellsDocument bs text limit → flat l (claims bs) p ≡ Some x → keys_in p ≤ 2 * limit
flat-keys text limit l bs p x spelled is = omega (arith, (flat-fits text limit l bs p x spelled is).0)

pub flat-steps : (text : List ℕ) (limit l : ℕ) (bs : List ParsedSection) (p : Path) (x : Place) → SpellsDocument bs text limit → flat l (claims bs) p ≡ Some x → length p ≤ 3 * limit
flat-steps text limit l bs p x spelled is = omega (arith, (flat-fits text limit l bs p x spelled is).1)

-- ---- the tree

pub tree-depth : (text : List ℕ) (limit : ℕ) (root : Value) (p : Path) (m : tree.Node) → IsTree text limit root → node_at p (view root) ≡ Some m → (keys_in p ≤ 2 * limit) × (length p ≤ 3 * limit)
tree-depth text limit root p m h is =
    let (bs, has, tree) = h in
    let (x, here, same) = mapped (λ r. r.1) (reached p (None, view root)) m is in
    let found = sym (tree.shows p) ∙ ap (option_map place_of) here in
    let spelled = document_sound bs text limit has.0 in
    (flat-keys text limit (length text) bs p (place_of x) spelled found, flat-steps text limit (length text) bs p (place_of x) spelled found)
