use Rattle.toml_span_lsp.proofs.Responses.{is_result}
use Rattle.toml_span_lsp.proofs.outgoing.response.Goals as goal

pub returns : goal.returns
returns c = is_result _ _ _ (c.end.ensures c.in_ok-head.ensures.0) c.in_ok-head.ensures.1
