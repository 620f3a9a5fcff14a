use Rattle.toml_span_lex.proofs.Common.{◌≡◌, rules}
use Rattle.toml_span_read.specs.Faults.{found_words}
use Rattle.toml_span_read.specs.Read.{no_token}
use Rattle.toml_span_read.proofs.FaultPlaces.{found_stands, so_told}
use Rattle.toml_span_read.proofs.wanted.wanted.Goals as goal

pub returns-in-Ok-clause-fault : goal.returns-in-Ok-clause-fault
returns-in-Ok-clause-fault c = let h = found_stands c.args.text.now c.args.at _ c.args.expected _ c.in-Ok.ensures.found in
    let w : c.words.result.now ≡ found_words c.in-Ok.found = search (rules, c.words.ensures) in (h.0, h.1, rw w h.2)

pub returns-in-Err-clause-fault : goal.returns-in-Err-clause-fault
returns-in-Err-clause-fault c = so_told _ _ c.in-Err.stop c.in-Err.ensures.found (λ e (j, x, bad, is). (no_token x, (j, bad), is))
