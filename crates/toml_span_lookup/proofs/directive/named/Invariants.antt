use Rattle.std.proofs.Common.{◌≡◌, length, true}
use Rattle.toml_span_lookup.specs.Directive.{named_from}
use Rattle.toml_span_lookup.proofs.directive.named.Given as goal

abbrev pub invariant-loop-byte : goal.invariant-loop-byte
invariant-loop-byte l = named_from l.is_start l.rest ≡ named_from true l.fn.text

abbrev pub decreases-loop-byte : goal.decreases-loop-byte
decreases-loop-byte l = length l.rest
