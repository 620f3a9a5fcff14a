use Rattle.std.proofs.Common.{drop, map}
use Rattle.toml_span_check.specs.Globs.{parts_of}
use Rattle.toml_span_check.proofs.Marks.{PathMarks}
use Rattle.toml_span_check.proofs.patterns.path_matches.Given as goal

abbrev pub invariant-loop-part : goal.invariant-loop-part
invariant-loop-part l =
    PathMarks (parts_of l.pattern) (parts_of (drop l.part-index l.pattern)) (map (λ part. part.now) l.path) l.marks.items
