use Rattle.toml_span_lex.proofs.Common.{◌≡◌, ◌++◌, drop, map}
use Rattle.toml_span_tree.specs.Nodes.{step_of}
use Rattle.toml_span_places.specs.code.Opened.{sorted_step}
use Rattle.toml_span_places.proofs.opened.sorted_path.Given as goal

abbrev pub invariant-loop-step : goal.invariant-loop-step
invariant-loop-step l =
    map sorted_step l.sorted.items ++ map step_of (drop l.step-index l.path) ≡ map step_of l.path
