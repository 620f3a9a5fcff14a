use Rattle.toml_span_lsp.proofs.Written.{frames_are}
use Rattle.toml_span_lsp.proofs.server.answer.Goals as goal

pub returns : goal.returns
returns g c = (
  _,
  frames_are c.in_ok-contents.contents.items _ _ c.as_slice.ensures.value c.in_ok-out.ensures,
  c.in_ok-contents.ensures.answers,
  c.in_ok-contents.ensures.phase,
)
