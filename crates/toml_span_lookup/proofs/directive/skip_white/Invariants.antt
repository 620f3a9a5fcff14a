use Rattle.std.proofs.Common.{◌≡◌, length}
use Rattle.toml_span_lookup.specs.Directive.{skip_white}
use Rattle.toml_span_lookup.proofs.directive.skip_white.Given as goal

abbrev pub invariant-loop-byte : goal.invariant-loop-byte
invariant-loop-byte l = skip_white l.rest ≡ skip_white l.fn.text

abbrev pub decreases-loop-byte : goal.decreases-loop-byte
decreases-loop-byte l = length l.rest
