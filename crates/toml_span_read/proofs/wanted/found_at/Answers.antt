use Rattle.toml_span_lex.proofs.Common.{inr}
use Rattle.toml_span_lex.specs.Tokens.{string}
use Rattle.toml_span_read.proofs.FaultPlaces.{token_found}
use Rattle.toml_span_read.proofs.wanted.found_at.Goals as goal

pub returns-in-Ok-clause-found : goal.returns-in-Ok-clause-found
returns-in-Ok-clause-found c = let h = c.in-Ok.ensures.string in inr (_, string _ _ _, h.1, c.string_found.ensures)

pub returns-in-Ok-token_at-clause-found : goal.returns-in-Ok-token_at-clause-found
returns-in-Ok-token_at-clause-found c = token_found c.args.text.now c.args.at c.in-Ok-token_at.end _ c.found_of.result c.in-Ok-token_at.ensures.finds c.found_of.ensures
