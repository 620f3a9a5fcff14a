use Rattle.toml_span.proofs.ShownWhole.{shown-filled, shown-whole}
use Rattle.toml_span_laws.proofs.parse.shown_is_whole.Goals as goal

pub returns : goal.returns
returns c = record { filled = shown-filled; whole = shown-whole }
