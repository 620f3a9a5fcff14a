use Rattle.toml_span_lsp.proofs.Served.{refuses_from}
use Rattle.toml_span_lsp.proofs.server.refusal_frame.Goals as goal

pub returns : goal.returns
returns c = refuses_from _ _ _ _ c.in_ok-push_frame.ensures c.new-out.ensures.items c.as_slice.ensures.value c.in_ok-refusal.ensures
