use Rattle.toml_span_lex.proofs.Common.{◌≡◌, map, take}
use Rattle.std.specs.Cow.{cow_str_bytes}
use Rattle.toml_span_editor.specs.Renaming.{segment_of}
use Rattle.toml_span_tree.specs.Nodes.{step_of}
use Rattle.toml_span_editor.proofs.renaming.segments_of.Given as goal

abbrev pub invariant-loop-step : goal.invariant-loop-step
invariant-loop-step l =
    map cow_str_bytes l.segments.items ≡ map segment_of (map step_of (take l.step-index l.path))
