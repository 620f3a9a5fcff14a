use Rattle.toml_span_lex.proofs.Common.{◌-◌, length}
use Rattle.std.specs.Str.{IsCharBoundary}
use Rattle.toml_span_edit.proofs.items.comma_between.Given as goal

abbrev pub invariant-pieces : goal.invariant-pieces
invariant-pieces l = IsCharBoundary l.space l.at

abbrev pub decreases-pieces : goal.decreases-pieces
decreases-pieces l = length l.space - l.at
