use Rattle.toml_span_lex.proofs.Common.{ap, rules, Err}
use Rattle.toml_span_read.specs.Read.{no_token}
use Rattle.toml_span_read.proofs.FaultPlaces.{other_token, so_told}
use Rattle.toml_span_read.proofs.wanted.no_value.Goals as goal

pub returns-in-Ok-clause-fault : goal.returns-in-Ok-clause-fault
returns-in-Ok-clause-fault c = other_token c.args.text.now c.args.at _ _ c.requires.none (λ e. search (rules, e)) c.in-Ok.ensures.found

pub returns-in-Err-clause-fault : goal.returns-in-Err-clause-fault
returns-in-Err-clause-fault c = so_told _ _ c.in-Err.stop c.in-Err.ensures.found (λ e (j, x, bad, is). (no_token x, (j, bad), ap (λ y. Err y) is))
