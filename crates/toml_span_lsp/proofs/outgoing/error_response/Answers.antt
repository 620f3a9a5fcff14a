use Rattle.toml_span_lsp.proofs.Responses.{is_error}
use Rattle.toml_span_lsp.proofs.outgoing.error_response.Goals as goal

pub returns : goal.returns
returns c = is_error _ _ _ (c.end.ensures c.in_ok-head.ensures.0) c.in_ok-head.ensures.1
