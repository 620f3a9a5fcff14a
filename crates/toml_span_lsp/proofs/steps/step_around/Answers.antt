use Rattle.toml_span_lsp.proofs.Responses.{answers}
use Rattle.toml_span_lsp.proofs.steps.step_around.Goals as goal

pub returns-clause-answers : goal.returns-clause-answers
returns-clause-answers g c = answers _ _ _ c.in_ok-response.ensures.response c.finish.ensures
