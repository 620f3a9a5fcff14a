-- A scalar that is written over a scalar gives a document whose tree has it at the path.
use Rattle.toml_span_lex.proofs.Common.{arith, nat_tests, common_steps, ◌≡◌, ℕ, List, [], ◌∷◌, ◌++◌, length, take, drop, Option, Some, None, codes, refl, sym, ap, subst, ◌∙◌, same_Some, slice_range, true, inr, Bor}
use Rattle.std.proofs.lemmas.List.{take_all}
use Rattle.toml_span_lex.specs.declared.span.Span.{Span}
use Rattle.toml_span_tree.specs.Node.{Node, node, Inner, Scalar, scalar}
use Rattle.toml_span_tree.specs.Path.{shape_of}
use Rattle.toml_span_tree.specs.Value.{inner_of, span_of, view}
use Rattle.toml_span_tree.specs.declared.value.Value.{Value}
use Rattle.toml_span_read.specs.Data.{ParsedSection, depth_limit}
use Rattle.toml_span.specs.Parsing.{IsTree}
use Rattle.toml_span_laws.specs.Outcomes.{HasOutcome, resolved}
use Rattle.toml_span_places.specs.Literals.{literal_span}
use Rattle.toml_span_places.specs.declared.replace.ReplaceError.{ReplaceError}
use Rattle.toml_span_places.specs.Replace.{edited_from, replaced, first_fault, if_right}
use Rattle.toml_span_laws.specs.Again.{ReadsAsScalar, with_part}
use Rattle.toml_span_laws.proofs.WrittenOver.{tree-takes-scalar, tree-text-reads}
use Rattle.toml_span_edit.specs.Edited.{Spells}
use Rattle.toml_span_edit.specs.Kept.{IsWrittenOver}
use Rattle.toml_span_edit.specs.Paths.{Path, found}
use Rattle.toml_span_edit.specs.Made.{at}
use Rattle.toml_span_edit.specs.Same.{same}
use Rattle.toml_span_edit.specs.declared.edits.Change.{Change}
use Rattle.toml_span_edit.specs.declared.edits.Change.TheVariants as changes
use Rattle.toml_span_laws.specs.Sets.{IsLiteral, MustBeMade}
use Rattle.toml_span_laws.proofs.Placed.{found_put, placed}

whole_node : (m : Node) (i : Inner) → inner_of m ≡ i → m ≡ node i (span_of m)
whole_node (node j span) i e = ap (λ k. node k span) e

-- the new text, if the span is a part of the text
start_is : (text : List ℕ) (i : ℕ) → slice_range text 0 i ≡ take i text
start_is text i = grind (arith, nat_tests, common_steps)

over : (text value new : List ℕ) (span : Span) → replaced text ((span, value) ∷ []) ≡ Some new → new ≡ with_part text span.start span.end value
over text value new span h = by (first_fault text 0 0 ((span, value) ∷ [])) h
  where
    by : (o : Option ReplaceError) → if_right o (edited_from text 0 ((span, value) ∷ [])) ≡ Some new → new ≡ with_part text span.start span.end value
    by None e =
        let a = start_is text span.start in
        let b = same_Some (slice_range text 0 span.start ++ (value ++ drop span.end text)) new e in
        sym b ∙ ap (λ (l : List ℕ). l ++ (value ++ drop span.end text)) a
    by (Some f) e = absurd (cc)

-- ---- the new value

front_is : (value : List ℕ) → slice_range (codes "v = " ++ value) 4 (length (codes "v = " ++ value)) ≡ value
front_is value = grind (arith, nat_tests, common_steps, take_all)

pub literal_reads : (value : List ℕ) (x : Scalar) → IsLiteral value x → ReadsAsScalar x value
literal_reads value x (w, (root, tree, at), is, literal) =
    let probe : List ℕ = codes "v = " ++ value in
    let way = found_put (codes "v" ∷ []) (view root) w (rw at refl) in
    let (place, there, shape, span) = placed way.path (view root) w way.there in
    let same : node (scalar x) place.span ≡ w = rw span (sym (whole_node w (scalar x) is)) in
    let reads = tree-text-reads probe depth_limit root way.path place x tree there (shape ∙ ap shape_of is) in
    let e : literal_span probe (node (scalar x) place.span) ≡ record { start = 4; end = length probe } = subst (λ (k : Node). literal_span probe k ≡ record { start = 4; end = length probe }) (sym same) literal in
    subst (ReadsAsScalar x) (ap (λ (l : Span). slice_range probe l.start l.end) e ∙ front_is value) reads

-- ---- the law

-- Each tree of the new text is the old one with the scalar at the path.
pub scalar_set : (text value new : List ℕ) (path : Path) (root : Value) (m : Node) (s x : Scalar) → IsTree text depth_limit root → found path (view root) ≡ Some m → inner_of m ≡ scalar s → IsLiteral value x
    → IsWrittenOver value path (view root) text new
    → (sections : List ParsedSection) × HasOutcome new depth_limit (resolved sections) × ((other : Value) → IsTree new depth_limit other → (w : Node) × Spells value w × (at path (λ a b. same w b) (view root) (view other) ≡ true))
scalar_set text value new path root m s x tree here is literal (k, there, written) =
    let way = found_put path (view root) m here in
    let (place, at, shape, span) = placed way.path (view root) m way.there in
    let takes = tree-takes-scalar text depth_limit root way.path place s tree at (shape ∙ ap shape_of is) in
    let same : m ≡ k = same_Some m k (sym here ∙ there) in
    let node_is : node (scalar s) place.span ≡ k = rw span (sym (whole_node m (scalar s) is) ∙ same) in
    let e : literal_span text k ≡ record { start = takes.takes.i; end = takes.takes.j } = subst (λ (k : Node). literal_span text k ≡ record { start = takes.takes.i; end = takes.takes.j }) node_is takes.literal in
    let new_is : new ≡ with_part text takes.takes.i takes.takes.j value = over text value new (literal_span text k) written ∙ ap (λ (l : Span). with_part text l.start l.end value) e in
    let (sections, has, trees) = takes.reads value x (literal_reads value x literal) in
    let (w, spelled, w_is, around) = literal in (
      sections,
      (rw new_is has),
      λ other shown. (w, spelled, way.made (view other) w x w_is (trees other (rw new_is at shown))),
    )

abbrev pub IsLaw : (Bor (List ℕ) → Change) → Type 0
IsLaw change =
    (text new : List ℕ) (v : Bor (List ℕ)) (path : Path) (root : Value) (m : Node) (s x : Scalar) → IsTree text depth_limit root → found path (view root) ≡ Some m → inner_of m ≡ scalar s → IsLiteral v.now x
    → IsWrittenOver v.now path (view root) text new → MustBeMade (change v) path (view root) new

pub set_law : IsLaw (λ v. changes.Set v)
set_law text new v path root m s x tree here is literal written = scalar_set text v.now new path root m s x tree here is literal written

pub replace_law : IsLaw (λ v. changes.Replace v)
replace_law text new v path root m s x tree here is literal written = scalar_set text v.now new path root m s x tree here is literal written

pub set_or_add_law : IsLaw (λ v. changes.SetOrAdd v)
set_or_add_law text new v path root m s x tree here is literal written =
    let (sections, has, trees) = scalar_set text v.now new path root m s x tree here is literal written in (sections, has, λ other shown. inr (trees other shown))
