use Rattle.std.proofs.Common.{drop}
use Rattle.toml_span_check.specs.Globs.{codes_of}
use Rattle.toml_span_check.proofs.Marks.{NameMarks}
use Rattle.toml_span_check.proofs.patterns.name_matches.Given as goal

abbrev pub invariant-loop-code : goal.invariant-loop-code
invariant-loop-code l = NameMarks (codes_of l.pattern) (codes_of (drop l.code-index l.pattern)) l.name l.marks.items
