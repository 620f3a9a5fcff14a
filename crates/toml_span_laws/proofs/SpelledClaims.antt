-- What is assigned in a document is spelled, and the claims after each assignment are those of its value.
use Rattle.toml_span_lex.proofs.Common.{◌≡◌, ℕ, zero, suc, true, false, subst, List, [], ◌∷◌, refl, inl, inr, ⊤, cases_Bool, ◌+◌, ◌≤◌, ◌⊎◌, ◌++◌, length, drop, arith, sym, ap, ◌∙◌, nat_tests, common_steps}
use Rattle.toml_span_tree.specs.Path.{Path, shape_scalar}
use Rattle.toml_span_read.specs.Again.{may_follow}
use Rattle.toml_span_read.specs.Keys.{SpellsKey}
use Rattle.toml_span_read.specs.Data.{SimpleKey, ParsedValue, parsed, scalar, array, inline, ParsedItems, no_items, item, ParsedPairs, no_pairs, pair, ParsedAssignment, parsed_span, ParsedSection, from_to, last_end, headerless_section}
use Rattle.toml_span.specs.declared.claims.ClaimKind.{ClaimKind}
use Rattle.toml_span.specs.declared.claims.ClaimKind.TheVariants.{Passed, StandardTable, ArrayOfTables, TableElement, Assigned}
use Rattle.toml_span.specs.declared.claims.HeaderInfo.{HeaderInfo}
use Rattle.toml_span.specs.Claims.{Claim, Claims, no_claims, claimed, scope, header_claim, array_claims, end_claims, header_claims, followed, shape_claimed, value_shape, element, key_claims, value_claims, inner_claims, item_claims, pair_claims, assignments_claims, section_claims, claims_after, claims, header_info}
use Rattle.toml_span.specs.Flat.{by_header}
use Rattle.toml_span_read.specs.Paths.{with_key, with_position, enter, elements_added, opened_by, section_path}
use Rattle.toml_span_tree.specs.Node.{Scalar}
use Rattle.toml_span_read.specs.Grammar.{Spells, SpellsDocument, ItemsWith, PairsWith, AssignmentsWith, SectionsWith, SpellsScalar}
use Rattle.toml_span.proofs.Grafts.{followed-assoc, followed-none}
use Rattle.toml_span.proofs.EachClaim.{Each}
use Rattle.toml_span_laws.proofs.AfterValues.{after_closes, after_separator, after_tail}
use Rattle.toml_span_laws.proofs.Literal.{NoQuoteBefore, after_gap, after_blanks}
use Rattle.toml_span_laws.proofs.PlainParsed.{assignments_on}
use Rattle.toml_span_laws.proofs.Remade.{PutsValue, PutsItems, PutsPairs, PutsLines, PutsSections, in_array, in_first, in_later, in_table, in_pair, in_later_pair, in_line, in_later_line, in_section, in_later_section, sections_fit, before_headers, in_sections, items_printed, items_end, pairs_end}
use Rattle.toml_span_laws.proofs.Replacing.{value_printed}

-- ---- the claims of headers

-- claims without scopes, for each of which P holds
abbrev pub Headed : (Claim → Type 0) → Claims → Type 0
Headed P no_claims = ⊤
Headed P (claimed c cs) = P c × Headed P cs
Headed P (scope inner cs) = ⊥

-- the same for the claims of a header, if P holds for all that it may make
pub header-headed : (P : Claim → Type 0) (h : HeaderInfo) → ((s : ClaimKind) (q : Path) (k : SimpleKey) → by_header s ≡ true → P (header_claim h s q k)) → (e : Path → ℕ) (p : Path) (parts : List SimpleKey)
    → Headed P (header_claims e h p parts)
unfolding header_claims end_claims
header-headed P h all e p [] = tt
header-headed P h all e p (k ∷ []) = elim (cases_Bool h.array) [
  | inl double ↦ rw double (entry (with_key p k) (e (with_key p k)))
  | inr single ↦ rw single (all StandardTable (with_key p k) k refl, tt)
]
  where
    entry : (q : Path) (n : ℕ) → Headed P (array_claims h q k n (claimed (header_claim h TableElement (with_position q n) k) no_claims))
    entry q zero = (all ArrayOfTables q k refl, (all TableElement (with_position q 0) k refl, tt))
    entry q (suc n) = (all TableElement (with_position q (suc n)) k refl, tt)
header-headed P h all e p (k ∷ l ∷ more) =
    let q = enter (e (with_key p k)) (with_key p k) in (all Passed q k refl, header-headed P h all e q (l ∷ more))

-- ---- one claim

-- The text from one offset to another spells the value, no quote is directly before it, and what follows does not
-- continue it. With another value there, the text is a document too, if that value differs only in a scalar.
pub record Spelled (text : List ℕ) (limit : ℕ) (bs : List ParsedSection) (v : ParsedValue) : Type 0 where
  pub depth : ℕ
  pub from : ℕ
  pub to : ℕ
  pub deep : 1 ≤ depth
  pub spells : Spells v text limit depth from to
  pub clear : NoQuoteBefore text from
  pub off : may_follow (drop to text) ≡ true
  pub puts : PutsValue text limit bs depth v from to

-- the claim assigns a value that is spelled
pub record Assigns (text : List ℕ) (limit : ℕ) (bs : List ParsedSection) (c : Claim) : Type 0 where
  pub value : ParsedValue
  pub spelled : Spelled text limit bs value
  pub shape : c.place.shape ≡ value_shape value
  pub span : c.place.span ≡ parsed_span value

-- the claim does not assign: it creates a table or an array
pub record Makes (c : Claim) : Type 0 where
  pub kind : c.info.kind ≡ Assigned → ⊥
  pub shape : (s : Scalar) → c.place.shape ≡ shape_scalar s → ⊥

abbrev pub OfText : List ℕ → ℕ → List ParsedSection → Claim → Type 0
OfText text limit bs c = Assigns text limit bs c ⊎ Makes c

-- Each claim assigns a value that is spelled, and is directly followed by the claims of that value; or it does not
-- assign.
abbrev pub AllSpelled : List ℕ → ℕ → List ParsedSection → Claims → Type 0
AllSpelled text limit bs no_claims = ⊤
AllSpelled text limit bs (claimed c cs) =
    (((a : Assigns text limit bs c) × (rest : Claims) × (cs ≡ followed (value_claims a.value c.path) rest)) ⊎ Makes c) × AllSpelled text limit bs cs
AllSpelled text limit bs (scope inner cs) = AllSpelled text limit bs inner × AllSpelled text limit bs cs

spelled-followed : (text : List ℕ) (limit : ℕ) (bs : List ParsedSection) (xs ys : Claims) → AllSpelled text limit bs xs → AllSpelled text limit bs ys → AllSpelled text limit bs (followed xs ys)
unfolding followed
spelled-followed text limit bs no_claims ys h g = g
spelled-followed text limit bs (claimed c xs) ys h g = (
  elim h.0 [
    | inl (a, rest, beyond) ↦ inl (a, followed rest ys, ap (λ t. followed t ys) beyond ∙ followed-assoc (value_claims a.value c.path) rest ys)
    | inr made ↦ inr made
  ],
  spelled-followed text limit bs xs ys h.1 g,
)
spelled-followed text limit bs (scope inner xs) ys h g = (h.0, spelled-followed text limit bs xs ys h.1 g)

no-scalar : (kind : ClaimKind) (s : Scalar) → shape_claimed kind ≡ shape_scalar s → ⊥
no-scalar kind s h = grind (arith, nat_tests, common_steps)

-- claims that do not assign
made-spelled : (text : List ℕ) (limit : ℕ) (bs : List ParsedSection) (cs : Claims) → Headed Makes cs → AllSpelled text limit bs cs
made-spelled text limit bs no_claims h = tt
made-spelled text limit bs (claimed c cs) h = (inr h.0, made-spelled text limit bs cs h.1)
made-spelled text limit bs (scope inner cs) h = absurd h

-- ---- values

key-of_text : (text : List ℕ) (limit : ℕ) (bs : List ParsedSection) (p : Path) (parts : List SimpleKey) (v : ParsedValue) → Spelled text limit bs v → ((q : Path) → AllSpelled text limit bs (value_claims v q))
    → AllSpelled text limit bs (key_claims p parts v (value_claims v))
unfolding key_claims
key-of_text text limit bs p [] v s h = tt
key-of_text text limit bs p (k ∷ []) v s h =
    let q = with_key p k in (inl (record { value = v; spelled = s; shape = refl; span = refl }, no_claims, sym (followed-none (value_claims v q))), h q)
key-of_text text limit bs p (k ∷ l ∷ more) v s h = grind (arith, nat_tests, common_steps, key-of_text text limit bs (with_key p k) (l ∷ more) v s h)

element-of_text : (v : ParsedValue) (q : Path) (rest : Claims) (text : List ℕ) (limit : ℕ) (bs : List ParsedSection) → Spelled text limit bs v → AllSpelled text limit bs (value_claims v q) → AllSpelled text limit bs rest
    → AllSpelled text limit bs (claimed (element q v) (followed (value_claims v q) rest))
element-of_text v q rest text limit bs s h g =
    (inl (record { value = v; spelled = s; shape = refl; span = refl }, rest, refl), spelled-followed text limit bs (value_claims v q) rest h g)

mutual
  unfolding value_claims inner_claims item_claims pair_claims

  value-of_text : (v : ParsedValue) (p : Path) (text : List ℕ) (limit : ℕ) (bs : List ParsedSection) (d i j : ℕ) → 1 ≤ d → Spells v text limit d i j → PutsValue text limit bs d v i j → AllSpelled text limit bs (value_claims v p)
  value-of_text (parsed (scalar s) span) p text limit bs d i j deep h puts = tt
  value-of_text (parsed (array vs) span) p text limit bs d i j deep (few, (here, e, k, gap, h)) puts =
      (items-of_text vs 0 p text limit bs (d + 1) k j (omega arith) h (after_gap text 91 i k here refl gap (items_printed vs text limit (d + 1) k j h)) (in_array text limit bs vs span d i k j few here gap (items_printed vs text limit (d + 1) k j h) puts), tt)
  value-of_text (parsed (inline ps) span) p text limit bs d i j deep (few, (here, e, k, gap, h)) puts =
      (pairs-of_text ps [] p text limit bs (d + 1) k j (omega arith) h (in_table text limit bs ps span d i k j few here gap puts), tt)

  items-of_text : (vs : ParsedItems) (n : ℕ) (p : Path) (text : List ℕ) (limit : ℕ) (bs : List ParsedSection) (d i j : ℕ) → 1 ≤ d → ItemsWith SpellsScalar vs text limit d i j → NoQuoteBefore text i → PutsItems text limit bs d vs i j → AllSpelled text limit bs (item_claims vs n p)
  items-of_text no_items n p text limit bs d i j deep h clear puts = tt
  items-of_text (item v vs) n p text limit bs d i j deep (m, h, then) clear puts =
      let end = items_end vs text limit d m j then in
      let here = in_first text limit bs v vs d i m j end.0 end.1 then puts in
      element-of_text v (with_position p n) (item_claims vs (suc n) p) text limit bs
      (record {
        depth = d;
        from = i;
        to = m;
        deep = deep;
        spells = h;
        clear = clear;
        off = elim then [ inl c ↦ after_closes 93 text m j (refl, refl) (λ e. absurd (omega arith)) c.1 | inr c ↦ after_separator 44 text m c.0 (refl, refl) (λ e. absurd (omega arith)) c.1 ];
        puts = here;
      })
      (value-of_text v (with_position p n) text limit bs d i m deep h here)
      (elim then [
        | inl (e, close) ↦ rw e tt
        | inr (k, comma, rest) ↦ items-of_text vs (suc n) p text limit bs d k j deep rest (after_gap text 44 comma.at k comma.here refl comma.after (items_printed vs text limit d k j rest)) (in_later text limit bs v vs d i m k j h comma (items_printed vs text limit d k j rest) puts)
      ])

  pairs-of_text : (ps : ParsedPairs) (es : List ParsedAssignment) (p : Path) (text : List ℕ) (limit : ℕ) (bs : List ParsedSection) (d i j : ℕ) → 1 ≤ d → PairsWith SpellsScalar ps es text limit d i j → PutsPairs text limit bs d es ps i j
      → AllSpelled text limit bs (pair_claims ps p)
  pairs-of_text no_pairs es p text limit bs d i j deep h puts = tt
  pairs-of_text (pair ss v x ps) es p text limit bs d i j deep (m, (a, b, key, few, sign, h, extent), clear, then) puts =
      let f : ParsedAssignment = record { parts = ss; value = v; extent = x } in
      let end = pairs_end ps (es ++ (f ∷ [])) text limit d m j then in
      let here = in_pair text limit bs ss v x ps es d i a b m j key few sign (value_printed v text limit (d + length ss) b m h) clear end.0 end.1 then puts in
      spelled-followed text limit bs (key_claims p ss v (value_claims v)) (pair_claims ps p)
      (key-of_text text limit bs p ss v
      (record {
        depth = d + length ss;
        from = b;
        to = m;
        deep = omega arith;
        spells = h;
        clear = after_gap text 61 sign.at b sign.here refl sign.after (value_printed v text limit (d + length ss) b m h);
        off = elim then [ inl c ↦ after_closes 125 text m j (refl, refl) (λ e. absurd (omega arith)) c.1 | inr c ↦ after_separator 44 text m c.0 (refl, refl) (λ e. absurd (omega arith)) c.1 ];
        puts = here;
      })
      (λ q. value-of_text v q text limit bs (d + length ss) b m (omega arith) h here))
      (elim then [
        | inl (e, close) ↦ rw e tt
        | inr (k, comma, rest) ↦ pairs-of_text ps (es ++ (f ∷ [])) p text limit bs d k j deep rest (in_later_pair text limit bs f ps es d i m k j (a, b, key, few, sign, h, extent) clear comma puts)
      ])

-- ---- sections

pub some-part : (parts : List SimpleKey) (text : List ℕ) (i j : ℕ) → SpellsKey parts text i j → 1 ≤ length parts
some-part parts text i j h = grind (arith, nat_tests, common_steps)

assignments-of_text : (es before : List ParsedAssignment) (p : Path) (text : List ℕ) (limit : ℕ) (bs : List ParsedSection) (i j : ℕ) → AssignmentsWith SpellsScalar es before text limit i j → j ≤ length text → PutsLines text limit bs before es i j
    → AllSpelled text limit bs (assignments_claims es p)
unfolding assignments_claims
assignments-of_text [] before p text limit bs i j h fits puts = tt
assignments-of_text (e ∷ es) before p text limit bs i j (m, n, k, h, tail, clear, gap, rest) fits puts =
    let deep = some-part e.parts text i h.key_end h.key in
    let on = assignments_on es (before ++ (e ∷ [])) text limit k j rest in
    let here = in_line text limit bs e es before i m n k j h tail clear gap rest on fits puts in
    spelled-followed text limit bs (key_claims p e.parts e.value (value_claims e.value)) (assignments_claims es p)
    (key-of_text text limit bs p e.parts e.value (record { depth = length e.parts; from = h.from; to = m; deep = deep; spells = h.spelled; clear = after_blanks text 61 h.sign.at h.from h.sign.here refl h.sign.after; off = after_tail text m n tail; puts = here })
    (λ q. value-of_text e.value q text limit bs (length e.parts) h.from m deep h.spelled here))
    (assignments-of_text es (before ++ (e ∷ [])) p text limit bs k j rest fits (in_later_line text limit bs e es before i m n k j h tail clear gap puts))

header-of_text : (text : List ℕ) (limit : ℕ) (bs : List ParsedSection) (e : Path → ℕ) (h : HeaderInfo) (p : Path) (parts : List SimpleKey) → AllSpelled text limit bs (header_claims e h p parts)
header-of_text text limit bs e h p parts = grind (arith, nat_tests, common_steps, header-headed Makes h, made-spelled text limit bs (header_claims e h p parts), no-scalar)

-- ---- documents

section-of_text : (earlier xs : List ParsedSection) (x : ParsedSection) (text : List ℕ) (limit : ℕ) (bs : List ParsedSection) (k j : ℕ) → AssignmentsWith SpellsScalar x.assignments [] text limit k j → j ≤ length text → PutsLines text limit bs [] x.assignments k j
    → AllSpelled text limit bs (claims_after (x ∷ earlier) xs) → AllSpelled text limit bs (claims_after earlier (x ∷ xs))
unfolding claims_after section_claims
section-of_text earlier xs x text limit bs k j lines fits puts rest =
    let e = elements_added (opened_by earlier) in
    spelled-followed text limit bs (section_claims e x) (claims_after (x ∷ earlier) xs)
    (spelled-followed text limit bs (header_claims e (header_info x) [] x.header) (assignments_claims x.assignments (section_path e x)) (header-of_text text limit bs e (header_info x) [] x.header)
    (assignments-of_text x.assignments [] (section_path e x) text limit bs k j lines fits puts))
    rest

sections-of_text : (earlier xs : List ParsedSection) (text : List ℕ) (limit : ℕ) (bs : List ParsedSection) (i : ℕ) → SectionsWith SpellsScalar xs text limit i → PutsSections text limit bs xs i → AllSpelled text limit bs (claims_after earlier xs)
unfolding claims_after
sections-of_text earlier [] text limit bs i h puts = tt
sections-of_text earlier (x ∷ xs) text limit bs i (j, z, rest) puts =
    section-of_text earlier xs x text limit bs z.lines.0 j z.lines.2 (sections_fit text limit bs xs j rest).0 (in_section text limit bs x xs i j z rest puts)
    (sections-of_text (x ∷ earlier) xs text limit bs j rest (in_later_section text limit bs x xs i j z rest puts))

first-of_text : (es : List ParsedAssignment) (xs : List ParsedSection) (text : List ℕ) (limit : ℕ) (bs : List ParsedSection) (k j : ℕ) → AssignmentsWith SpellsScalar es [] text limit k j → PutsLines text limit bs [] es k j
    → SectionsWith SpellsScalar xs text limit j → PutsSections text limit bs xs j → AllSpelled text limit bs (claims (headerless_section es ++ xs))
first-of_text [] xs text limit bs k j lines puts rest more = sections-of_text [] xs text limit bs j rest more
first-of_text (e ∷ es) xs text limit bs k j lines puts rest more =
    let x : ParsedSection = record { header = []; array = false; header_span = from_to 0 0; extent = from_to e.extent.start (last_end e.extent.end es); assignments = e ∷ es } in
    section-of_text [] xs x text limit bs k j lines (sections_fit text limit bs xs j rest).0 puts (sections-of_text (x ∷ []) xs text limit bs j rest more)

pub document-spelled : (bs : List ParsedSection) (text : List ℕ) (limit : ℕ) → SpellsDocument bs text limit → AllSpelled text limit bs (claims bs)
document-spelled bs text limit x =
    subst (λ (xs : List ParsedSection). AllSpelled text limit bs (claims xs)) (sym x.all)
    (first-of_text x.first x.rest text limit bs x.lines.0 x.end x.lines.2 (before_headers text limit bs x) x.sections (in_sections text limit bs x))

-- each claim by itself
each-of_text : (text : List ℕ) (limit : ℕ) (bs : List ParsedSection) (cs : Claims) → AllSpelled text limit bs cs → Each (OfText text limit bs) cs
each-of_text text limit bs no_claims h = tt
each-of_text text limit bs (claimed c cs) h = (elim h.0 [ inl (a, rest, beyond) ↦ inl a | inr made ↦ inr made ], each-of_text text limit bs cs h.1)
each-of_text text limit bs (scope inner cs) h = (each-of_text text limit bs inner h.0, each-of_text text limit bs cs h.1)

pub document-of_text : (bs : List ParsedSection) (text : List ℕ) (limit : ℕ) → SpellsDocument bs text limit → Each (OfText text limit bs) (claims bs)
document-of_text bs text limit h = each-of_text text limit bs (claims bs) (document-spelled bs text limit h)
