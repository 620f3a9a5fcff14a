use Rattle.toml_span_lex.proofs.Common.{◌≡◌, drop, fold, map}
use Rattle.toml_span_tree.specs.Nodes.{step_of}
use Rattle.toml_span_places.specs.Points.{later_point}
use Rattle.toml_span_places.specs.Sections.{section_mention}
use Rattle.toml_span_places.proofs.points.last_point.Given as goal

abbrev pub invariant-loop-place : goal.invariant-loop-place
invariant-loop-place l =
    fold (later_point l.text (map step_of l.path)) l.point (map section_mention (drop l.place-index l.places))
    ≡ fold (later_point l.text (map step_of l.path)) l.fn.point (map section_mention l.places)
