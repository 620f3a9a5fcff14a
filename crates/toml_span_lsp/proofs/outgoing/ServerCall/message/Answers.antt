use Rattle.toml_span_lsp.proofs.Responses.{is_call}
use Rattle.toml_span_lsp.proofs.outgoing.ServerCall.message.Goals as goal

pub returns : goal.returns
returns c = is_call _ _ _ _ (c.end.ensures c.in_ok-head.ensures.0) c.in_ok-head.ensures.1
