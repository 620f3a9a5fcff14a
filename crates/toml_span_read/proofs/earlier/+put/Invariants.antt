use Rattle.toml_span_lex.proofs.Common.{length}
use Rattle.toml_span_read.proofs.earlier.+put.Given as goal

abbrev pub decreases-put : goal.decreases-put
decreases-put l = length l.inner.now
