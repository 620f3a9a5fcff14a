use Rattle.toml_span_lex.proofs.Common.{◌≡◌, ◌-◌, ◌++◌, false}
use Rattle.toml_span_places.specs.Newer.{escapes}
use Rattle.toml_span_places.proofs.newer.push_escapes.Given as goal

abbrev pub invariant-loop-at : goal.invariant-loop-at
invariant-loop-at l =
    l.out.items ++ escapes l.text l.is_letter l.at (l.at-end - l.at)
    ≡ l.fn.out.items ++ escapes l.text false l.fn.span.start (l.at-end - l.fn.span.start)
