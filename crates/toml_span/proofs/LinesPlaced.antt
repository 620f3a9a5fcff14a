-- Assignments that are placed as soon as they are read.
use Rattle.toml_span_lex.proofs.Common.{◌≡◌, ℕ, ◌+◌, false, List, [], ◌∷◌, ◌++◌, Ok, None, refl, sym, ap, ◌∙◌, inl, inr, subst}
use Rattle.toml_span_lex.specs.Bytes.{is_blank, MaximalRun}
use Rattle.toml_span_read.specs.Data.{ParsedAssignment, parsed_assignment, last_end}
use Rattle.toml_span_read.specs.Earlier.{crossing}
use Rattle.toml_span_read.specs.Gaps.{MaximalGap}
use Rattle.toml_span_read.specs.Read as read
use Rattle.toml_span_read.specs.Read.{goes_on}
use Rattle.toml_span_read.specs.declared.value.Assignment.{Assignment}
use Rattle.toml_span_read.proofs.EarlierLemmas.{added_clear}
use Rattle.toml_span_read.proofs.LineRead.{LinesFrom}
use Rattle.toml_span.specs.declared.branch.Branch.{Branch}
use Rattle.toml_span.specs.Borrowed.{AreBorrowedRight}
use Rattle.toml_span.specs.Claims.{Claims, followed, assignments_claims}
use Rattle.toml_span.specs.code.Borrowed.{branch_strings}
use Rattle.toml_span.specs.code.Machine.{clash_found, put_all}
use Rattle.toml_span.specs.code.Placing.{Places, assignment_claims}
use Rattle.toml_span.specs.code.Tree.{cells, counts, IsScope}
use Rattle.toml_span.proofs.Assignments.{placed-then}
use Rattle.toml_span.proofs.ClearKeys.{clear-placed}
use Rattle.toml_span.proofs.Grafts.{followed-assoc, followed-none}

-- the assignments that have been read up to `at` and placed in the branch
pub record PlacedSoFar (text : List ℕ) (limit from : ℕ) (old new : Branch) (end at : ℕ) : Type 0 where
  pub done : List ParsedAssignment
  pub whole : IsScope old → LinesFrom text limit from done at
  pub last : end ≡ last_end from done
  pub placed : Places old new (Ok tt) (assignments_claims done []) (counts old)
  pub borrows : AreBorrowedRight text (branch_strings old) → AreBorrowedRight text (branch_strings new)

pub none-placed : (text : List ℕ) (limit from k : ℕ) (n : Branch) → MaximalGap text from k → PlacedSoFar text limit from n n from k
unfolding clash_found put_all assignments_claims
none-placed text limit from k n gap = record {
  done = [];
  whole = λ scope r h. (k, gap, h);
  last = refl;
  placed = λ scope. (refl, (refl, refl, (scope, refl)));
  borrows = λ h. h;
}

-- ---- one more

last-more : (n : ℕ) (es : List ParsedAssignment) (e : ParsedAssignment) → last_end n (es ++ (e ∷ [])) ≡ e.extent.end
last-more n [] e = refl
last-more n (x ∷ es) e = last-more x.extent.end es e

claims-more : (es : List ParsedAssignment) (e : ParsedAssignment) → assignments_claims (es ++ (e ∷ [])) [] ≡ followed (assignments_claims es []) (assignment_claims e [])
unfolding assignments_claims followed
claims-more [] e = followed-none (assignment_claims e [])
claims-more (x ∷ es) e = ap (followed (assignment_claims x [])) (claims-more es e) ∙ sym (followed-assoc (assignment_claims x []) (assignments_claims es []) (assignment_claims e []))

-- The key of an assignment that has been placed after these goes through none of their values.
clear-next : (old n w : Branch) (es : List ParsedAssignment) (e : ParsedAssignment) → IsScope old → Places old n (Ok tt) (assignments_claims es []) (counts old) → Places n w (Ok tt) (assignment_claims e []) (counts n) → crossing es e ≡ None
clear-next old n w es e scope before placed =
    let now = before scope in clear-placed (cells old) es e (subst (λ st. clash_found st (assignment_claims e []) ≡ None) now.1.0 (placed now.1.2.0).0)

pub one-more : (text : List ℕ) (limit from at m j k end here : ℕ) (old n w : Branch) (a : Assignment) → here ≡ (parsed_assignment a).extent.end → PlacedSoFar text limit from old n end at
    → read.ends_lines text at ≡ false → read.keyval text limit (MaximalRun is_blank text) (read.value text limit (limit + 1)) at (Ok (parsed_assignment a, m)) → read.tail text m (Ok j)
    → MaximalGap text j k → Places n w (Ok tt) (assignment_claims (parsed_assignment a) []) (counts n)
    → (AreBorrowedRight text (branch_strings n) → AreBorrowedRight text (branch_strings w)) → PlacedSoFar text limit from old w here k
one-more text limit from at m j k end here old n w a ends inv go pair tail gap placed borrows = record {
  done = inv.done ++ (parsed_assignment a ∷ []);
  whole = λ scope r more.
      let clear = clear-next old n w inv.done (parsed_assignment a) scope inv.placed placed in
      inv.whole scope r (goes_on _ _ r (inr (go, inl ((parsed_assignment a, m), pair, inl (j, tail, inl (_, added_clear _ _ clear, (k, gap, refl)))))) more);
  last = ends ∙ sym (last-more from inv.done (parsed_assignment a));
  placed = subst (λ (cs : Claims). Places old w (Ok tt) cs (counts old)) (sym (claims-more inv.done (parsed_assignment a)))
      (placed-then old n w (Ok tt) (assignments_claims inv.done []) (assignment_claims (parsed_assignment a) []) inv.placed placed);
  borrows = λ h. borrows (inv.borrows h);
}
