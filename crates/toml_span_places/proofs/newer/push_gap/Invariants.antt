use Rattle.toml_span_lex.proofs.Common.{◌≡◌, ◌-◌, ◌++◌, None}
use Rattle.toml_span_places.specs.Newer.{gap_from}
use Rattle.toml_span_places.proofs.newer.push_gap.Given as goal

abbrev pub invariant-loop-at : goal.invariant-loop-at
invariant-loop-at l =
    l.out.items ++ gap_from l.text l.gap l.comment l.at (l.at-end - l.at)
    ≡ l.fn.out.items ++ gap_from l.text l.gap None l.from (l.at-end - l.from)
