-- A clash has a span inside the text, which is that of the later claim.
use Rattle.std.specs.Box.{box_value}
use Rattle.std.specs.Global.{Box}
use Rattle.toml_span_lex.proofs.Common.{Ok, ◌≡◌, ℕ, List, [], ◌∷◌, map, length, Option, Some, None, option_map, true, append-nil, ⊤, IfSome, false≢true, arith, nat_tests, common_steps}
use Rattle.toml_span_tree.specs.Path.{Path}
use Rattle.toml_span_read.specs.Places.{IsInside, PartsInside, KeysInside, InnerKeysInside, ItemKeysInside, PairKeysInside, AssignmentsInside, SectionsInside}
use Rattle.toml_span_read.specs.Data.{ParsedValue as Read, parsed, ParsedInner, scalar, array, inline, ParsedItems, no_items, item, ParsedPairs, no_pairs, pair, ParsedAssignment, ParsedSection, parsed_section, SimpleKey}
use Rattle.toml_span_read.specs.Read as read
use Rattle.toml_span_read.proofs.ReadSound.{document_sound}
use Rattle.toml_span_read.specs.declared.section.Section.{Section}
use Rattle.toml_span_read.proofs.InsideLemmas.{document_inside}
use Rattle.toml_span.specs.declared.claims.ClaimKind.{ClaimKind}
use Rattle.toml_span.specs.declared.claims.ClashKind.{ClashKind}
use Rattle.toml_span.specs.declared.claims.ClashKind.TheVariants as blames
use Rattle.toml_span.specs.declared.claims.Clash.{Clash as ClashFound}
use Rattle.toml_span_lex.specs.declared.stop.Stop.TheVariants.{Fault}
use Rattle.toml_span.specs.declared.claims.HeaderInfo.{HeaderInfo}
use Rattle.toml_span.specs.declared.claims.ClaimInfo.{ClaimInfo}
use Rattle.toml_span.specs.declared.claims.ClashInfo.{ClashInfo}
use Rattle.toml_span.specs.declared.sections.Assembly.{Assembly}
use Rattle.toml_span_read.specs.Paths.{with_key, enter, elements_added, opened_by, section_path}
use Rattle.toml_span.specs.Claims.{Claims, no_claims, claimed, scope, followed, key_claims, value_claims, inner_claims, pair_claims, assignments_claims, end_claims, header_claims, section_claims, claims_after, claims, header_info}
use Rattle.toml_span.specs.Clashes.{NamedClash, clash_kind, clash_info}
use Rattle.toml_span.specs.Flat.{by_header}
use Rattle.toml_span.specs.code.Assembling.{IsAssemblyOf, AssemblesTo, IsAssemblyInside}
use Rattle.toml_span.specs.code.Machine.{CellMap, change, clash_found, no_cells, show_all, with_claim}
use Rattle.toml_span.specs.code.ClaimInfos.{PlaceError, IsPlaceErrorInside, earliest_clash_info, with_name}
use Rattle.toml_span.proofs.EachClaim.{either-one}
use Rattle.toml_span.proofs.Judged.{first-met}
use Rattle.toml_span.proofs.Values.{first_in, reported-array}

-- the key of a claim is inside the first n bytes, and so is the line of a header's claim
abbrev IsInfoInside : ℕ → ClaimInfo → Type 0
IsInfoInside n info = IsInside n info.key × (by_header info.kind ≡ true → IsInside n info.line)

-- a clash that is reported at a line is one of a header
abbrev IsTold : ClaimKind → ClashKind → Type 0
IsTold kind blames.DuplicateTable = by_header kind ≡ true
IsTold kind blames.DuplicateKey = ⊤
IsTold kind blames.RedefineAsArray = by_header kind ≡ true

clash_kind_reported : (later earlier : ClaimKind) → IfSome (clash_kind earlier later) (IsTold later)
clash_kind_reported later earlier = grind (arith, common_steps)

clash_info_inside : (n : ℕ) (earlier later : ClaimInfo) (o : Option ClashKind) → IfSome o (IsTold later.kind) → IsInfoInside n later → IfSome (option_map (clash_info earlier later) o) (λ m. IsInside n m.span)
clash_info_inside n earlier later o reported inside = grind (arith, common_steps)

earliest_clash_info_inside : (n : ℕ) (infos : List ClaimInfo) (later : ClaimInfo) → IsInfoInside n later → IfSome (earliest_clash_info infos later) (λ m. IsInside n m.span)
earliest_clash_info_inside n [] later inside = tt
earliest_clash_info_inside n (earlier ∷ infos) later inside = grind (arith, nat_tests, common_steps, clash_kind_reported, either-one, clash_info_inside, earliest_clash_info_inside n infos later inside)

-- a clash is reported there
abbrev In : ℕ → NamedClash → Type 0
In n t = IsInside n t.info.span

named_inside : (n : ℕ) (name : List ℕ) (o : Option ClashInfo) → IfSome o (λ m. IsInside n m.span) → IfSome (option_map (with_name name) o) (In n)
named_inside n name o h = grind (arith, nat_tests, common_steps)

-- ---- claims

-- The claims of the scope are inside. A clash in a scope within is reported inside, since the elements of an array have
-- no keys and do not clash.
abbrev Reported : ℕ → Claims → Type 0
Reported n no_claims = ⊤
Reported n (claimed c cs) = IsInfoInside n c.info × Reported n cs
Reported n (scope inner cs) = IfSome (clash_found no_cells inner) (In n) × Reported n cs

reported_inside : (n : ℕ) (st : CellMap) (cs : Claims) → Reported n cs → IfSome (clash_found st cs) (In n)
unfolding clash_found
reported_inside n st no_claims h = tt
reported_inside n st (claimed c cs) h = grind (arith, nat_tests, common_steps, either-one, named_inside, earliest_clash_info_inside, reported_inside n (change st c.path (with_claim c)) cs)
reported_inside n st (scope inner cs) h = either-one (In n) (clash_found no_cells inner) (clash_found (show_all st inner) cs) h.0 (reported_inside n (show_all st inner) cs h.1)

followed_reported : (n : ℕ) (xs ys : Claims) → Reported n xs → Reported n ys → Reported n (followed xs ys)
unfolding followed
followed_reported n no_claims ys h g = g
followed_reported n (claimed c xs) ys h g = (h.0, followed_reported n xs ys h.1 g)
followed_reported n (scope inner xs) ys h g = (h.0, followed_reported n xs ys h.1 g)

-- ---- values and assignments

key_reported : (n : ℕ) (p : Path) (parts : List SimpleKey) (v : Read) (inside : Path → Claims) → PartsInside n parts → ((q : Path) → Reported n (inside q)) → Reported n (key_claims p parts v inside)
unfolding key_claims
key_reported n p [] v inside h g = tt
key_reported n p (k ∷ []) v inside h g = ((h.0, λ e. absurd (false≢true e)), g (with_key p k))
key_reported n p (k ∷ l ∷ more) v inside h g = ((h.0, λ e. absurd (false≢true e)), key_reported n (with_key p k) (l ∷ more) v inside h.1 g)

mutual
  unfolding value_claims inner_claims pair_claims first_in

  value_reported : (n : ℕ) (v : Read) (p : Path) → KeysInside n v → Reported n (value_claims v p)
  value_reported n (parsed k span) p h = inner_reported n k p h

  inner_reported : (n : ℕ) (k : ParsedInner) (p : Path) → InnerKeysInside n k → Reported n (inner_claims k p)
  inner_reported n (scalar s) p h = tt
  inner_reported n (array vs) p h = (rw (reported-array vs p) (items_reported n vs h), tt)
  inner_reported n (inline ps) p h = (reported_inside n no_cells (pair_claims ps p) (pairs_reported n ps p h), tt)

  items_reported : (n : ℕ) (vs : ParsedItems) → ItemKeysInside n vs → IfSome (first_in vs) (In n)
  items_reported n no_items h = tt
  items_reported n (item v vs) h = either-one (In n) (clash_found no_cells (value_claims v [])) (first_in vs) (reported_inside n no_cells (value_claims v []) (value_reported n v [] h.0)) (items_reported n vs h.1)

  pairs_reported : (n : ℕ) (ps : ParsedPairs) (p : Path) → PairKeysInside n ps → Reported n (pair_claims ps p)
  pairs_reported n no_pairs p h = tt
  pairs_reported n (pair parts v extent rest) p h =
      followed_reported n (key_claims p parts v (value_claims v)) (pair_claims rest p) (key_reported n p parts v (value_claims v) h.0 (λ q. value_reported n v q h.1)) (pairs_reported n rest p h.2)

assignments_reported : (n : ℕ) (es : List ParsedAssignment) (p : Path) → AssignmentsInside n es → Reported n (assignments_claims es p)
unfolding assignments_claims
assignments_reported n [] p h = tt
assignments_reported n (e ∷ es) p h = grind (arith, nat_tests, common_steps, followed_reported, key_reported, value_reported, assignments_reported n es p)

-- ---- sections

end_reported : (n : ℕ) (h : HeaderInfo) (p : Path) (k : SimpleKey) (i : ℕ) → IsInside n h.line → IsInside n k.span → Reported n (end_claims h p k i)
unfolding end_claims
end_reported n h p k i line key = grind (arith, nat_tests, common_steps)

header_reported : (n : ℕ) (e : Path → ℕ) (h : HeaderInfo) (p : Path) (parts : List SimpleKey) → IsInside n h.line → PartsInside n parts → Reported n (header_claims e h p parts)
unfolding header_claims
header_reported n e h p [] line inside = tt
header_reported n e h p (k ∷ []) line inside = end_reported n h (with_key p k) k (e (with_key p k)) line inside.0
header_reported n e h p (k ∷ l ∷ more) line inside = ((inside.0, λ e. line), header_reported n e h (enter (e (with_key p k)) (with_key p k)) (l ∷ more) line inside.1)

after_reported : (n : ℕ) (earlier : List ParsedSection) (ss : List Section) → SectionsInside n ss → Reported n (claims_after earlier (map parsed_section ss))
unfolding claims_after section_claims
after_reported n earlier [] h = tt
after_reported n earlier (s ∷ ss) h =
    let b = parsed_section s in
    let e = elements_added (opened_by earlier) in
    followed_reported n (section_claims e b) (claims_after (b ∷ earlier) (map parsed_section ss))
    (followed_reported n (header_claims e (header_info b) [] b.header) (assignments_claims b.assignments (section_path e b)) (header_reported n e (header_info b) [] b.header h.0.0 h.0.1)
    (assignments_reported n b.assignments (section_path e b) h.0.2))
    (after_reported n (b ∷ earlier) ss h.1)

-- ---- the clashes of a text's sections

is_inside : (n : ℕ) (o : Option NamedClash) (t : NamedClash) → o ≡ Some t → IfSome o (In n) → In n t
is_inside n o t is h = rw is at h

pub assembly_inside : (text : List ℕ) (limit : ℕ) (ss : List Section) (g : Assembly) → read.document text limit (Ok (map parsed_section ss)) → IsAssemblyOf (map parsed_section ss) g → IsAssemblyInside (length text) g
assembly_inside text limit ss g given = go g.clash
  where
    go : (o : Option (Box ClashFound)) → AssemblesTo (map parsed_section ss) g.root o → IfSome o (λ c. IsInside (length text) (box_value c).info.span)
    go None assembles = tt
    go (Some c) assembles =
        let reported = reported_inside (length text) no_cells (claims (map parsed_section ss)) (after_reported (length text) [] ss (document_inside ss text limit (document_sound (map parsed_section ss) text limit given))) in
        let first = assembles [] tt in
        grind (arith, nat_tests, common_steps, first-met, append-nil)

-- ---- place errors

pub clash_inside : (n : ℕ) (error : PlaceError) (c : Box ClashFound) → error ≡ Fault c → IsPlaceErrorInside n error → IsInside n (box_value c).info.span
clash_inside n error c is h = rw is at h
