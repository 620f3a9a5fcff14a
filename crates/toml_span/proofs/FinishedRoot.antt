-- The finished tree of a plain document.
use Rattle.toml_span_lex.proofs.Common.{◌≡◌, ℕ, ◌<◌, List, [], ◌∷◌, map, length, get_or, BTreeMap, Some, Ok, refl, sym, subst, ap, ◌∙◌, inl, arith}
use Rattle.toml_span_lex.specs.declared.key.Key.{Key}
use Rattle.toml_span_lex.specs.declared.span.Span.{Span}
use Rattle.toml_span_tree.specs.Node.{node}
use Rattle.toml_span_tree.specs.Value.{inner_view, view}
use Rattle.toml_span_tree.specs.declared.value.Value.{Value}
use Rattle.toml_span_tree.specs.declared.value.ValueInner.TheVariants.{Table as table_inner}
use Rattle.toml_span_tree.proofs.Values.{inner_view-Table}
use Rattle.toml_span_read.specs.Borrowed.{AreWrittenRight, keys_written}
use Rattle.toml_span_read.specs.Data.{ParsedAssignment, ParsedSection, from_to, headerless_section, simple_key}
use Rattle.toml_span_read.specs.Grammar.{SpellsLines}
use Rattle.toml_span_read.proofs.ReadSound.{first_sound, section_sound}
use Rattle.toml_span_read.specs.Read as read
use Rattle.toml_span_read.specs.code.Sections.{head_found}
use Rattle.toml_span_read.specs.declared.sections.Header.{Header}
use Rattle.toml_span.specs.code.Relative.{counts_after, section_at}
use Rattle.toml_span.specs.code.RootTable.{AddsSection}
use Rattle.toml_span.specs.declared.claims.HeaderInfo.{HeaderInfo}
use Rattle.toml_span_read.proofs.LineRead.{document_read}
use Rattle.toml_span.specs.Flat.{flat, ShowsExactly}
use Rattle.toml_span.specs.code.Machine.{no_cells, put_all}
use Rattle.toml_span.specs.code.Placing.{ShowsBelow, NamesAscend}
use Rattle.toml_span.specs.Claims.{Claims, claims, header_info}
use Rattle.toml_span.specs.Parsing.{IsBorrowedTree, IsTree}
use Rattle.toml_span.proofs.BuiltTables.{built-shows, built-ordered, built-right}
use Rattle.toml_span.proofs.Judged.{first-met}
use Rattle.toml_span.proofs.Shown.{first_key-is, shown-flat}
use Rattle.toml_span.proofs.HeldValues.{table-held}
use Rattle.toml_span_lex.specs.Text.{FirstPlace}
use Rattle.toml_span.specs.Claims.{assignments_claims}
use Rattle.toml_span.specs.code.Built.{BuildsOn, Placed}
use Rattle.toml_span.specs.code.Lines.{IsSectionTable}
use Rattle.toml_span.specs.declared.lines.Lines.{Lines}
use Rattle.toml_span.proofs.LateValues.{late-entries}
use Rattle.toml_span.proofs.RootTable.{Growing, adds-section, growing-first, root-first}
use Rattle.toml_span.proofs.SectionBuilt.{section-built}

shows-flat : (length : ℕ) (cs : Claims) (t : BTreeMap Key Value) → ShowsBelow (inner_view (table_inner t)) (put_all no_cells cs)
    → ShowsExactly (node (inner_view (table_inner t)) (record { start = 0; end = length })) (flat length cs)
unfolding flat
shows-flat length cs t below [] = rw (inner_view-Table t) refl
shows-flat length cs t below (s ∷ p) = below s p ∙ shown-flat length cs s p

-- The document has been read to its end. The finished value shows it.
pub plain-tree : (text : List ℕ) (limit at : ℕ) (t : BTreeMap Key Value) (v : Value) → NamesAscend t → Growing text limit at t → at ≡ length text → view v ≡ node (inner_view (table_inner t)) (record { start = 0; end = length text }) → IsTree text limit v
plain-tree text limit at t v ascend inv end is =
    let bs = inv.sections in
    let r = inv.root in
    (bs, (document_read text limit at bs inv.whole end, first-met (claims bs) ∙ r.free), record { shows = rw is (shows-flat (length text) (claims bs) t (built-shows text t _ _ r.built)); ordered = rw is (built-ordered text t _ _ ascend r.built) })

pub plain-borrowed : (text : List ℕ) (limit at : ℕ) (t : BTreeMap Key Value) (v : Value) (span : Span) → NamesAscend t → Growing text limit at t → at ≡ length text → (v.value ≡ Some (table_inner t)) × (v.span ≡ span) → IsBorrowedTree text limit v
plain-borrowed text limit at t v span ascend inv end kept =
    let bs = inv.sections in
    (bs, document_read text limit at bs inv.whole end, rw (table-held v t span kept, ← first_key-is (claims bs)) (built-right text t _ _ ascend inv.root.built))

-- ---- before the first header

first-assignments : List ParsedSection → List ParsedAssignment
first-assignments [] = []
first-assignments (b ∷ bs) = b.assignments

first-is : (es : List ParsedAssignment) → first-assignments (headerless_section es) ≡ es
unfolding first-assignments
first-is [] = refl
first-is (e ∷ es) = refl

first-spelled : (text : List ℕ) (limit from next : ℕ) (es : List ParsedAssignment) → FirstPlace text from → read.assignment_lines text limit from (Ok (es, next)) → (start : ℕ) × FirstPlace text start × SpellsLines es text limit start next
first-spelled text limit from next es begins lines =
    let (start, fs, first, spelled, same, end) = first_sound (headerless_section es) text limit next (from, begins, inl ((es, next), lines, refl)) in
    (start, first, subst (λ (gs : List ParsedAssignment). SpellsLines gs text limit start next) (sym (first-is fs) ∙ ap first-assignments (sym same) ∙ first-is es) spelled)

pub first-growing : (text : List ℕ) (limit from : ℕ) (lines : Lines) → FirstPlace text from → IsSectionTable text limit from lines → Growing text limit lines.next lines.table
first-growing text limit from lines begins s =
    let spelled = first-spelled text limit from lines.next s.assignments begins s.read in
    let built = section-built text s.assignments lines.table s.scope s.borrows (late-entries text limit spelled.0 lines.next s.assignments lines.table spelled.2 s.scope) in
    growing-first text limit from lines.next s.assignments lines.table begins s.read (root-first text s.assignments lines.table s.scope.0 (built.built no_cells (λ step p. refl)))

-- ---- after a header

-- a section that has been read, and whose table a header has placed
pub section-added : (text : List ℕ) (limit at : ℕ) (header : Header) (lines : Lines) (parts : List Key) (value : Value) (old new : BTreeMap Key Value) → get_or text at 0 ≡ 91 → parts ≡ header.parts.items
    → read.header text limit at (Ok (head_found header)) → at < header.extent.end → AreWrittenRight text (keys_written header.parts.items) → IsSectionTable text limit header.extent.end lines → NamesAscend lines.table
    → (value.value ≡ Some (table_inner lines.table)) × (value.span ≡ record { start = at; end = lines.end })
    → ((h : HeaderInfo) (tail : Claims) → Placed text h tail parts header.array value → BuildsOn text old new (λ e. section_at e h (map simple_key parts) tail) (λ e. counts_after e h (map simple_key parts)))
    → AddsSection text limit at old new lines.next
section-added text limit at header lines parts value old new here same found forward keys s ascend kept builds =
    let h = head_found header in
    let b = read.headed_section at h s.assignments in
    let spelled = section_sound b text limit at lines.next here (inl (h, found, inl ((s.assignments, lines.next), s.read, refl))) in
    adds-section text limit at lines.next h s.assignments parts old new (ap (map simple_key) same) here found s.read
    (builds (header_info b) (assignments_claims s.assignments []) (record {
      brackets = refl;
      extent = ap (from_to at) (sym s.last) ∙ sym kept.1;
      keys = rw same keys;
      table = lines.table;
      held = kept.0;
      ascend = ascend;
      section = section-built text s.assignments lines.table s.scope s.borrows (late-entries text limit _ lines.next s.assignments lines.table spelled.lines s.scope);
    }))
    (omega (arith, forward, s.forward)) s.boundary s.header
