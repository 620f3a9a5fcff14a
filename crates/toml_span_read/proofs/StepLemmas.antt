-- What is read, section by section.
use Rattle.toml_span_lex.proofs.Common.{arith, common_steps, nat_tests, ◌≡◌, sym, ap, ◌∙◌, ℕ, List, [], ◌∷◌, map, Ok, Option, Some, None, IfSome}
use Rattle.toml_span_lex.specs.Text.{FirstPlace}
use Rattle.toml_span_read.specs.declared.section.Section.{Section}
use Rattle.toml_span_read.specs.declared.value.Assignment.{Assignment}
use Rattle.toml_span_read.specs.Borrowed.{AreWrittenRight, assignments_written, section_written, sections_written}
use Rattle.toml_span_read.specs.Data.{parsed_section}
use Rattle.toml_span_read.specs.Read as read
use Rattle.toml_span_read.specs.code.Sections.{first_sections}
use Rattle.toml_span_read.proofs.BorrowLemmas.{all_append}
use Rattle.toml_span_read.proofs.LineRead.{DocumentFrom, document_begins}
use Rattle.toml_span_read.proofs.MemoryLemmas.{Begun, HoldsForm, begun_by_lines, lines_keep}
use Rattle.toml_span_read.proofs.ReadSound.{first_sound}

pub first_right : (text : List ℕ) (o : Option Section) (vs : List Assignment) → IfSome o (λ s. section_written s ≡ assignments_written vs) → AreWrittenRight text (assignments_written vs) → IfSome o (λ s. AreWrittenRight text (section_written s))
first_right text o vs written right = grind (arith, nat_tests, common_steps)

pub first_begun : (text : List ℕ) (limit at : ℕ) (o : Option Section) → read.before_headers text limit (Ok (first_sections o, at)) → Begun text at
first_begun text limit at o h = let (start, es, begins, lines, is, end) = first_sound (first_sections o) text limit at h in begun_by_lines es text limit start at begins lines

pub first_keeps : (text : List ℕ) (limit at : ℕ) (o : Option Section) (s : Section) → o ≡ Some s → read.before_headers text limit (Ok (first_sections o, at)) → (i : ℕ) × FirstPlace text i × HoldsForm text i
first_keeps text limit at o s is h = let (start, es, begins, lines, same, end) = first_sound (first_sections o) text limit at h in lines_keep s es text limit start at (ap first_sections (sym is) ∙ same) begins lines

-- ---- a list of sections

abbrev pub listed : Option Section → List Section
listed None = []
listed (Some s) = s ∷ []

-- the list of sections before the first header
pub record Begins (text : List ℕ) (limit at : ℕ) (found : List Section) : Type 0 where
  pub borrows : AreWrittenRight text (sections_written found)
  pub whole : DocumentFrom text limit (map parsed_section found) at

pub begins_with : (text : List ℕ) (limit at : ℕ) (o : Option Section) (found : List Section) → listed o ≡ found → IfSome o (λ s. AreWrittenRight text (section_written s)) → read.before_headers text limit (Ok (first_sections o, at))
    → Begins text limit at found
begins_with text limit at o found same right h = grind (arith, document_begins, all_append)
