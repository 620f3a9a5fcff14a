-- The assignments of a section, each placed as soon as it is read.
use Rattle.std.specs.Prelude.{◌≡◌, ℕ, ◌≤◌, ◌⊎◌, List, [], Result, Ok, Err, Option, Some, None, IfErr, IfSome, length}
use Rattle.std.specs.Prelude.{slice_index}
use Rattle.std.specs.Str.{IsCharBoundary}
use Rattle.toml_span_lex.specs.declared.stop.Stop.{Stop}
use Rattle.toml_span_lex.specs.declared.stop.Stop.TheVariants as stops
use Rattle.toml_span_lex.specs.Bytes.{left_bracket}
use Rattle.toml_span_read.specs.Data.{ParsedAssignment, last_end}
use Rattle.toml_span_read.specs.Faults.{StartsInside}
use Rattle.toml_span_read.specs.Read.{assignment_lines, Reading}
use Rattle.toml_span_read.specs.declared.fault.Fault.{Fault}
use Rattle.toml_span_tree.specs.Value.{inner_view}
use Rattle.toml_span_tree.specs.declared.value.ValueInner.TheVariants.{Table as table_inner}
use Rattle.toml_span.specs.declared.branch.Branch.{Branch}
use Rattle.toml_span.specs.declared.lines.Lines.{Lines}
use Rattle.toml_span.specs.Borrowed.{AreBorrowedRight}
use Rattle.toml_span.specs.Claims.{assignments_claims}
use Rattle.toml_span.specs.code.Borrowed.{branch_strings, own_table}
use Rattle.toml_span.specs.code.Placing.{Places, ScopeGives}
use Rattle.toml_span.specs.code.Tree.{counts, IsScope}

-- the fault, unless an allocation failed
abbrev pub fault_in : Stop Fault → Option Fault
fault_in (stops.Memory e) = None
fault_in (stops.Fault fault) = Some fault

-- If the result is a fault, m has this fault, and it starts inside the text or at its end. Nothing is stated about
-- `None`, which a function of the fast path returns where it gives up.
abbrev pub RefusesAs : {A B : Type 0} → List ℕ → Reading B → Result A (Option Fault) → Type 0
RefusesAs text m r = IfErr r (λ o. IfSome o (λ fault. m (Err fault) × StartsInside text fault.span))

-- These assignments are read from `from` on, and have been placed in the branch. The last one ends at `end` (`from`
-- without assignments), and the next section, or the end of the text, is at `next`.
pub record PlacesLines (text : List ℕ) (limit from : ℕ) (old new : Branch) (end next : ℕ) : Type 0 where
  pub assignments : List ParsedAssignment
  pub read : IsScope old → assignment_lines text limit from (Ok (assignments, next))
  pub last : end ≡ last_end from assignments
  pub placed : Places old new (Ok tt) (assignments_claims assignments []) (counts old)
  pub borrows : AreBorrowedRight text (branch_strings old) → AreBorrowedRight text (branch_strings new)
  pub forward : from ≤ next
  pub boundary : IsCharBoundary text next
  pub header : (next ≡ length text) ⊎ (slice_index text next ≡ left_bracket)

-- These assignments are read from `from` on and do not clash, and the table is the one that they define. The names in
-- its tables ascend, and its strings and keys are borrowed correctly.
pub record IsSectionTable (text : List ℕ) (limit from : ℕ) (lines : Lines) : Type 0 where
  pub assignments : List ParsedAssignment
  pub read : assignment_lines text limit from (Ok (assignments, lines.next))
  pub last : lines.end ≡ last_end from assignments
  pub scope : ScopeGives (Ok lines.table) (λ t. inner_view (table_inner t)) (assignments_claims assignments [])
  pub borrows : AreBorrowedRight text (own_table lines.table.entries)
  pub forward : from ≤ lines.next
  pub boundary : IsCharBoundary text lines.next
  pub header : (lines.next ≡ length text) ⊎ (slice_index text lines.next ≡ left_bracket)
