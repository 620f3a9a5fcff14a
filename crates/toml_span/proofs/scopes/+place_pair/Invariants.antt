use Rattle.toml_span_lex.proofs.Common.{◌+◌, ◌*◌, length}
use Rattle.toml_span.proofs.scopes.+place_pair.Given as goal

abbrev pub decreases-place_pair : goal.decreases-place_pair
decreases-place_pair l = 3 * length l.inner.now

abbrev pub decreases-pass_pair : goal.decreases-pass_pair
decreases-pass_pair l = 3 * length l.rest.now + 1

abbrev pub decreases-pass_child : goal.decreases-pass_child
decreases-pass_child l = 3 * length l.rest.now + 2
