use Rattle.toml_span_lex.proofs.Common.{arith, rules, ℕ, Vec, Global, inl, inr, refl, Ok, Err}
use Rattle.toml_span_read.specs.declared.value.Assignment.{Assignment}
use Rattle.toml_span_read.specs.Borrowed.{IsWrittenRight, assignment_written}
use Rattle.toml_span_read.specs.Data.{parsed_assignment}
use Rattle.toml_span_read.specs.Read.{ends, goes_on, stops as stops_there}
use Rattle.toml_span_read.specs.code.Values.{assignment_found}
use Rattle.toml_span_read.proofs.FaultPlaces.{so_told}
use Rattle.toml_span_read.proofs.BorrowLemmas.{joined_more}
use Rattle.toml_span_read.proofs.EarlierLemmas.{added_clear, added_fault}
use Rattle.toml_span_read.proofs.CrossingPlaces.{assignment_spanned, crossing_placed}
use Rattle.toml_span_read.proofs.LineRead.{goes_further, lines_stop}
use Rattle.toml_span_read.proofs.MemoryLemmas.{forms_keep}
use Rattle.toml_span_read.proofs.ValueRead.{map_end}
use Rattle.toml_span_read.proofs.sections.assignments.Goals as goal

pub lines-init : goal.lines-init
lines-init c =
    let e = c.new-found.ensures.items in
    let g = c.gap_end-at.ensures in
    record {
      forward = omega (arith, g.run.forward);
      begun = (c.gap_end-at.result, g.run, omega arith);
      boundary = g.boundary;
      borrows = rw e tt;
      knows = rw e c.new-earlier.ensures;
      whole = rw e (λ r h. (c.gap_end-at.result, g.run, h));
    }

pub returns-in-Err-clause-lines : goal.returns-in-Err-clause-lines
returns-in-Err-clause-lines c =
    let go = goes_further c.args.text.now c.lines.at (omega arith) (search rules) in
    so_told _ _ c.in-Err.stop c.in-Err.ensures.pair (λ e h. c.lines.invariant.whole (Err e) (stops_there _ e (inr (go, inr (e, h, refl)))))

pub returns-in-Err-next_line-clause-lines : goal.returns-in-Err-next_line-clause-lines
returns-in-Err-next_line-clause-lines c =
    let go = goes_further c.args.text.now c.lines.at (omega arith) (search rules) in
    so_told _ _ c.in-Err-next_line.stop c.in-Err-next_line.ensures.rest
    (λ e h. c.lines.invariant.whole (Err e) (stops_there _ e (inr (go, inl (assignment_found c.in-Ok.read, c.in-Ok.ensures.pair, inr (e, h, refl))))))

pub returns-in-Err-add_clear-clause-lines : goal.returns-in-Err-add_clear-clause-lines
returns-in-Err-add_clear-clause-lines c =
    let go = goes_further c.args.text.now c.lines.at (omega arith) (search rules) in
    so_told _ _ c.in-Err-add_clear.stop c.in-Err-add_clear.ensures.adds (λ e h. c.lines.invariant.whole (Err e) (stops_there _ e
    (inr (go, inl (assignment_found c.in-Ok.read, c.in-Ok.ensures.pair, inl (_, c.in-Ok-next_line.ensures.rest, inr (e, added_fault _ _ e h, refl)))))))

pub returns-in-Err-add_clear-clause-read : goal.returns-in-Err-add_clear-clause-read
returns-in-Err-add_clear-clause-read c =
    crossing_placed c.in-Err-add_clear.stop c.args.text.now c.lines.found.items c.add_clear.new.values.items c.in-Ok.read.0 c.in-Ok.read.1 c.in-Ok.ensures.advances.boundary.0
    (assignment_spanned (parsed_assignment c.in-Ok.read.0) c.args.text.now c.args.limit c.lines.at c.in-Ok.read.1 c.in-Ok.ensures.pair) c.in-Err-add_clear.ensures.adds

pub lines-preserved : goal.lines-preserved
lines-preserved c =
    let go = goes_further c.args.text.now c.lines.at (omega arith) (search rules) in
    let v = c.in-Ok.ensures in
    let t = c.in-Ok-next_line.ensures in
    let a = c.in_default.ensures.adds in
    let g = c.gap_end-at-in-lines.ensures in
    let i = c.lines.invariant in
    record {
      forward = omega (arith, i.forward, v.advances.on, t.reads.0, g.run.forward);
      begun = (i.begun.0, i.begun.1, omega (arith, i.begun.2, v.advances.on, t.reads.0, g.run.forward));
      boundary = g.boundary;
      borrows = joined_more (IsWrittenRight c.args.text.now) assignment_written c.lines.found.items c.add_clear.new.values.items c.in-Ok.read.0 a.0 i.borrows v.borrows;
      knows = c.in_default.ensures.knows;
      whole = rw (map_end parsed_assignment c.lines.found.items c.add_clear.new.values.items c.in-Ok.read.0 a.0)
          (λ r more. i.whole r (goes_on _ _ r (inr (go, inl (assignment_found c.in-Ok.read, v.pair, inl (_, t.rest, inl (_, added_clear _ _ a.1, (_, g.run, refl)))))) more));
    }

pub returns-clause-lines : goal.returns-clause-lines
returns-clause-lines c = c.lines.invariant.whole (Ok (_, _)) (ends _ _ (inl (lines_stop c.args.text.now c.lines.at (search rules), refl)))

pub returns-in-Err-clause-memory : goal.returns-in-Err-clause-memory
returns-in-Err-clause-memory c =
    let begun = c.lines.invariant.begun in
    forms_keep (Vec Assignment Global × ℕ) c.in-Err.stop c.args.text.now c.args.from (begun.0, begun.1, omega (arith, begun.2))

pub returns-in-Err-next_line-clause-memory : goal.returns-in-Err-next_line-clause-memory
returns-in-Err-next_line-clause-memory c =
    let begun = c.lines.invariant.begun in
    forms_keep (Vec Assignment Global × ℕ) c.in-Err-next_line.stop c.args.text.now c.args.from (begun.0, begun.1, omega (arith, begun.2))

pub returns-in-Err-add_clear-clause-memory : goal.returns-in-Err-add_clear-clause-memory
returns-in-Err-add_clear-clause-memory c =
    let begun = c.lines.invariant.begun in
    forms_keep (Vec Assignment Global × ℕ) c.in-Err-add_clear.stop c.args.text.now c.args.from (begun.0, begun.1, omega (arith, begun.2))
