use Rattle.toml_span_lex.proofs.Common.{map, take, HasWritten, IsPlainFormatter}
use Rattle.toml_span_tree.specs.Error.{content_of}
use Rattle.toml_span_tree.specs.Errors.{lines}
use Rattle.toml_span_tree.proofs.deser_error.DeserErrorDisplay.fmt.Given as goal

abbrev pub invariant-loop-error : goal.invariant-loop-error
invariant-loop-error g l =
    IsPlainFormatter l.initial.f → HasWritten g.W.Write.write_str_gives l.initial.f (lines (map content_of (take l.error-index l.error-items))) l.f
