-- A value that is written over a scalar is read there, and what comes after it is moved.
use Rattle.toml_span_lex.proofs.Common.{◌≡◌, ℕ, ◌+◌, ◌-◌, ◌≤◌, true, Some, List, length, take, drop, arith, option_map, slice_range, subst, sym, refl, ap, ◌∙◌, length-take}
use Rattle.toml_span_lex.specs.declared.span.Span.{Span}
use Rattle.toml_span_tree.specs.Node.{Node, node, Scalar, scalar as scalar_node}
use Rattle.toml_span_tree.specs.Path.{Path, Place, shape_scalar, place_at}
use Rattle.toml_span_tree.specs.Value.{view, is_whole}
use Rattle.toml_span_tree.specs.declared.value.Value.{Value}
use Rattle.toml_span_read.specs.Again.{HasFloatTexts, HasValue, IsWithin, ReadsAsValue, may_follow}
use Rattle.toml_span_read.specs.Data.{ParsedValue, parsed, scalar, ParsedSection}
use Rattle.toml_span_read.specs.Grammar.{Spells, SpellsScalar}
use Rattle.toml_span_read.proofs.NumberLemmas.{same_byte}
use Rattle.toml_span_read.proofs.SpanLaws.{value_lies}
use Rattle.toml_span.specs.Parsing.{IsTree, IsTreeOf}
use Rattle.toml_span_laws.specs.Outcomes.{HasOutcome, resolved}
use Rattle.toml_span_laws.specs.Again.{moved, with_part, ReadsAsScalar, CanBeReplaced}
use Rattle.toml_span_places.specs.Literals.{literal_span}
use Rattle.toml_span_laws.specs.Replaced.{IsDocumentWith, CanBeSet}
use Rattle.toml_span_laws.proofs.AgainValues.{value_copied}
use Rattle.toml_span_laws.proofs.Answered.{sections-one}
use Rattle.toml_span_laws.proofs.Complete.{document_complete}
use Rattle.toml_span_laws.proofs.Literal.{scalar_literal}
use Rattle.toml_span_laws.proofs.ScalarTexts.{scalar_text_reads}
use Rattle.toml_span_laws.proofs.PlainClaims.{plain_place, resolves_alike, flat_alike}
use Rattle.toml_span_laws.proofs.PlainParsed.{unchanged, changed_at, plain, plain_sections}
use Rattle.toml_span_laws.proofs.PlainTrees.{tree_put}
use Rattle.toml_span_laws.proofs.ReadAgain.{HasScalar, tree-scalar}
use Rattle.toml_span_laws.proofs.ScalarEnds.{scalar_some}
use Rattle.toml_span_laws.proofs.ScalarsApart.{tree_scalars_apart}
use Rattle.toml_span_laws.proofs.Replacing.{Hole, to, part_length, part_copied}

-- ---- the new value

placed : (text part : List ℕ) (i j limit depth : ℕ) (n : Node) → i ≤ length text → may_follow (drop j text) ≡ true → ReadsAsValue n part → is_whole n ≡ true → IsWithin limit depth n → HasFloatTexts n
    → (v : ParsedValue) × Spells v (with_part text i j part) limit depth i (i + length part) × HasValue v n
placed text part i j limit depth n within off reads whole few texts =
    let (v, h, is) = reads limit depth whole few texts (take i text) (drop j text) off in
    let e : length (take i text) ≡ i = omega (arith, length-take i text) in
    (v, subst (λ (k : ℕ). Spells v (with_part text i j part) limit depth k (k + length part)) e h, is)

-- ---- a value after it

later : (text part : List ℕ) (v : ParsedValue) (i j limit depth k l : ℕ) → i ≤ j → j ≤ length text → j ≤ k → Spells v text limit depth k l
    → Spells (moved j (i + length part) v) (with_part text i j part) limit depth ((k + (i + length part)) - j) ((l + (i + length part)) - j)
later text part v i j limit depth k l on within after h =
    let n = part_length text part i j on within in
    let lies = value_lies v text limit depth k l h in
    (value_copied (part_copied text part i j on within) v limit depth depth (omega arith)).to k l ((k + (i + length part)) - j) ((l + (i + length part)) - j)
    (record { after = after; moved = omega arith; inside = omega (arith, lies.1, lies.2) })
    (record { after = omega (arith, lies.1); moved = omega (arith, lies.1); inside = omega (arith, lies.1, lies.2) })
    h

abbrev takes : (text : List ℕ) (limit : ℕ) (bs : List ParsedSection) (s : Scalar) (span : Span) → HasScalar text limit bs s span → CanBeReplaced text s span
takes text limit bs s span h =
    let lies = value_lies (parsed (scalar s) span) text limit h.depth h.from h.to h.spells in
    record {
      i = h.from;
      j = h.to;
      spelled = h.spells.1;
      new = λ n part limit depth reads whole few texts. placed text part h.from h.to limit depth n (omega (arith, lies.1, lies.2)) h.off reads whole few texts;
      later = λ v part limit depth k l after spells. later text part v h.from h.to limit depth k l lies.1 lies.2 after spells;
    }

pub tree-takes : (text : List ℕ) (limit : ℕ) (root : Value) (path : Path) (place : Place) (s : Scalar) → IsTree text limit root → place_at path (view root) ≡ Some place → place.shape ≡ shape_scalar s
    → CanBeReplaced text s place.span
tree-takes text limit root path place s tree at is = let (bs, has, of, h) = tree-scalar text limit root path place s tree at is in takes text limit bs s place.span h

-- ---- the new document

alike : (from : ℕ) (x s : Scalar) (span at : Span) → from ≡ span.start → plain unchanged (parsed (scalar x) at) ≡ plain (changed_at from x) (parsed (scalar s) span)
alike from x s span at e = rw (same_byte span.start from (sym e)) refl

pub tree-takes-scalar : (text : List ℕ) (limit : ℕ) (root : Value) (path : Path) (place : Place) (s : Scalar) → IsTree text limit root → place_at path (view root) ≡ Some place → place.shape ≡ shape_scalar s
    → CanBeSet text limit root path s place.span
tree-takes-scalar text limit root path place s tree at is =
    let (bs, has, of, h) = tree-scalar text limit root path place s tree at is in
    record {
      takes = takes text limit bs s place.span h;
      literal = scalar_literal s place.span text h.from h.to h.clear h.spells.1;
      document = λ part x span z. remade bs has of h part x span z;
      reads = λ part x r. (let (span, z) = scalar_placed bs h part x r in remade bs has of h part x span z);
    }
  where
    scalar_placed : (bs : List ParsedSection) (h : HasScalar text limit bs s place.span) (part : List ℕ) (x : Scalar) → ReadsAsScalar x part → (span : Span) × SpellsScalar x span (with_part text h.from h.to part) h.from (h.from + length part)
    scalar_placed bs h part x r =
        let lies = value_lies (parsed (scalar s) place.span) text limit h.depth h.from h.to h.spells in
        let (span, z) = r (take h.from text) (drop h.to text) h.off in
        let e : length (take h.from text) ≡ h.from = omega (arith, length-take h.from text, lies.1, lies.2) in
        (span, subst (λ (k : ℕ). SpellsScalar x span (with_part text h.from h.to part) k (k + length part)) e z)

    remade : (bs : List ParsedSection) → HasOutcome text limit (resolved bs) → IsTreeOf bs (length text) root → (h : HasScalar text limit bs s place.span) → (part : List ℕ) (x : Scalar) (span : Span)
        → SpellsScalar x span (with_part text h.from h.to part) h.from (h.from + length part) → IsDocumentWith path x root (with_part text h.from h.to part) limit
    remade bs has of h part x span z =
        let lies = value_lies (parsed (scalar s) place.span) text limit h.depth h.from h.to h.spells in
        let hole : Hole text = record { i = h.from; j = h.to; part = part; from = place.span.start; new = x; on = lies.0.0; before = scalar_some s place.span text h.from h.to h.spells.1; within = lies.2 } in
        let end : h.from + length part ≡ to hole h.to = omega arith in
        let new = h.puts hole (omega arith) (omega arith) (parsed (scalar x) span) (h.spells.0, (rw end at z)) (alike place.span.start x s place.span span refl) in
        let b : List ℕ = with_part text h.from h.to part in
        let found = document_complete new.sections b limit new.spelled in (
          new.sections,
          (found, resolves_alike unchanged (changed_at place.span.start x) new.sections bs new.alike has.1),
          λ other (ds, (read, resolves), shown). (
              let one : ds ≡ new.sections = sections-one b limit ds new.sections read found in
              let same : plain_sections unchanged ds ≡ plain_sections (changed_at place.span.start x) bs = ap (λ l. plain_sections unchanged l) one ∙ new.alike in
              tree_put (view root) (view other) path place s x at is (λ p y t there shape start. tree_scalars_apart text limit root p path y place t s tree there at shape is start)
              (λ p. ap (λ o. option_map (plain_place unchanged) o) (shown.shows p) ∙ (flat_alike unchanged (changed_at place.span.start x) ds bs same (length b) (length text) p ∙ sym (ap (λ o. option_map (plain_place (changed_at place.span.start x)) o) (of.shows p))))
              of.ordered shown.ordered),
        )

-- ---- the text of the literal

pub tree-text-reads : (text : List ℕ) (limit : ℕ) (root : Value) (path : Path) (place : Place) (s : Scalar) → IsTree text limit root → place_at path (view root) ≡ Some place → place.shape ≡ shape_scalar s
    → ReadsAsScalar s (slice_range text (literal_span text (node (scalar_node s) place.span)).start (literal_span text (node (scalar_node s) place.span)).end)
tree-text-reads text limit root path place s tree at is =
    let (bs, has, of, h) = tree-scalar text limit root path place s tree at is in
    let lies = value_lies (parsed (scalar s) place.span) text limit h.depth h.from h.to h.spells in
    let e = scalar_literal s place.span text h.from h.to h.clear h.spells.1 in
    subst (λ (l : Span). ReadsAsScalar s (slice_range text l.start l.end)) (sym e) (scalar_text_reads s place.span text h.from h.to lies.1 lies.2 h.spells.1)
