use Rattle.toml_span_lsp.proofs.Phases.{after_content}
use Rattle.toml_span_lsp.proofs.Responses.{responds_to}
use Rattle.toml_span_lsp.proofs.steps.respond.Goals as goal

pub returns-in-Ok-clause-response : goal.returns-in-Ok-clause-response
returns-in-Ok-clause-response g c =
    responds_to _ _ _ _ c.in-Ok.ensures.ok.1 c.message_of.ensures.request c.message_of.ensures.notification c.take.ensures.response

pub returns-in-Ok-clause-phase : goal.returns-in-Ok-clause-phase
returns-in-Ok-clause-phase g c = after_content _ _ _ _ _ _ c.in-Ok.ensures.ok.1 c.message_of.ensures.read c.take.ensures.phase
