use Rattle.toml_span_lex.proofs.Common.{◌≡◌, ◌⊎◌, arith, rules, ap, inl, inr, refl, Ok, Err, length, get_or}
use Rattle.toml_span_read.specs.Read.{ends, stops as stops_there}
use Rattle.toml_span_read.specs.code.Values.{assignment_found}
use Rattle.toml_span_read.proofs.FaultPlaces.{so_told}
use Rattle.toml_span_read.proofs.LineRead.{goes_further, lines_stop}
use Rattle.toml_span.proofs.FastFaults.{of-stop}
use Rattle.toml_span.proofs.LinesPlaced.{none-placed, one-more}
use Rattle.toml_span.proofs.lines.place_lines.Goals as goal

pub lines-init : goal.lines-init
lines-init c =
    let g = c.gap_end-at.ensures in
    record {
      forward = omega (arith, g.run.forward);
      boundary = g.boundary;
      placed = none-placed c.args.text.now c.args.limit c.args.from c.gap_end-at.result c.args.node.now g.run;
    }

pub lines-preserved : goal.lines-preserved
lines-preserved c =
    let go = goes_further c.args.text.now c.lines.at (omega arith) (search rules) in
    let v = c.in-Ok.ensures in
    let t = c.in-Ok-next_line.ensures in
    let p = c.in-Ok-place_one.ensures in
    let g = c.gap_end-at-in-lines.ensures in
    let i = c.lines.invariant in
    record {
      forward = omega (arith, i.forward, v.advances.on, t.reads.0, g.run.forward);
      boundary = g.boundary;
      placed = one-more c.args.text.now c.args.limit c.args.from c.lines.at _ _ _ c.lines.end c.extent_of-end.result.end c.args.node.now c.lines.node c.place_one.new.node c.in-Ok.read.0 (ap (λ s. s.end) c.extent_of-end.ensures) i.placed go v.pair t.rest g.run p.places (λ h. (p.borrows c.args.text.now v.borrows h).0);
    }

pub returns-in-Err-clause-fault : goal.returns-in-Err-clause-fault
returns-in-Err-clause-fault c =
    let go = goes_further c.args.text.now c.lines.at (omega arith) (search rules) in
    let stop = c.in-Err.stop in
    let v = c.in-Err.ensures in
    λ scope. rw c.fault_of.ensures (of-stop _ _ stop (so_told _ _ stop v.pair (λ e h. c.lines.invariant.placed.whole scope (Err e) (stops_there _ e (inr (go, inr (e, h, refl)))))) v.advances)

pub returns-in-Err-next_line-clause-fault : goal.returns-in-Err-next_line-clause-fault
returns-in-Err-next_line-clause-fault c =
    let go = goes_further c.args.text.now c.lines.at (omega arith) (search rules) in
    let stop = c.in-Err-next_line.stop in
    let t = c.in-Err-next_line.ensures in
    λ scope. rw c.fault_of-in-Err-next_line.ensures (of-stop _ _ stop (so_told _ _ stop t.rest (λ e h. c.lines.invariant.placed.whole scope (Err e)
    (stops_there _ e (inr (go, inl (assignment_found c.in-Ok.read, c.in-Ok.ensures.pair, inr (e, h, refl))))))) t.reads)

pub returns-after-lines-clause-lines : goal.returns-after-lines-clause-lines
returns-after-lines-clause-lines c =
    let i = c.lines.invariant in
    let stop : (c.lines.at ≡ length c.args.text.now) ⊎ (get_or c.args.text.now c.lines.at 0 ≡ 91) = inl (omega (arith, i.boundary.0)) in
    record {
      assignments = i.placed.done;
      read = λ scope. i.placed.whole scope (Ok (_, _)) (ends _ _ (inl (lines_stop c.args.text.now c.lines.at stop, refl)));
      last = i.placed.last;
      placed = i.placed.placed;
      borrows = i.placed.borrows;
      forward = i.forward;
      boundary = i.boundary;
      header = stop;
    }

pub returns-else-byte_at-ne91-clause-lines : goal.returns-else-byte_at-ne91-clause-lines
returns-else-byte_at-ne91-clause-lines c =
    let i = c.lines.invariant in
    let stop : (c.lines.at ≡ length c.args.text.now) ⊎ (get_or c.args.text.now c.lines.at 0 ≡ 91) = inr (search rules) in
    record {
      assignments = i.placed.done;
      read = λ scope. i.placed.whole scope (Ok (_, _)) (ends _ _ (inl (lines_stop c.args.text.now c.lines.at stop, refl)));
      last = i.placed.last;
      placed = i.placed.placed;
      borrows = i.placed.borrows;
      forward = i.forward;
      boundary = i.boundary;
      header = stop;
    }
