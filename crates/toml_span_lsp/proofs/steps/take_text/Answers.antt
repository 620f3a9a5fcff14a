use Rattle.toml_span_lsp.proofs.Phases.{after_text}
use Rattle.toml_span_lsp.proofs.steps.take_text.Goals as goal

pub returns-in-Ok : goal.returns-in-Ok
returns-in-Ok g c = after_text _ _ _ _ _ _ c.in-Ok.ensures.ok c.message_of.ensures.read c.take.ensures.phase
