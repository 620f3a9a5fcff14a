use Rattle.toml_span_lex.proofs.Common.{arith, ap, get_or, Err}
use Rattle.toml_span_read.specs.Read.{no_token}
use Rattle.toml_span_read.proofs.FaultPlaces.{so_told}
use Rattle.toml_span_read.proofs.KeyLemmas.{handed_on}
use Rattle.toml_span_read.proofs.ValueRead.{plain_stops, plain_value, quote_plain, string_deep, string_there}
use Rattle.toml_span_read.proofs.values.string_value.Goals as goal

pub returns-in_err-token-clause-value : goal.returns-in_err-token-clause-value
returns-in_err-token-clause-value c =
    let p = quote_plain (get_or c.args.text.now c.args.at 0) c.requires.quote in
    rw (handed_on c.from_residual.result c.in_err-token.field-0.0 c.from_residual.ensures.1)
    (so_told _ _ c.in_err-token.field-0.0 c.in_err-token.ensures.string
    (λ e (j, x, bad, is). plain_stops c.args.text.now c.args.limit c.args.depth c.args.at e p.0 p.1 (no_token x, (j, bad), ap (λ y. Err y) is)))

pub returns-then-depth-limit-clause-value : goal.returns-then-depth-limit-clause-value
returns-then-depth-limit-clause-value c =
    string_deep c.too_deep.result c.args.text.now c.args.limit c.args.depth c.args.at c.in_ok-token.token (omega arith) c.requires.quote c.in_ok-token.ensures.string c.too_deep.ensures.fault

pub returns-clause-value : goal.returns-clause-value
returns-clause-value c =
    let p = quote_plain (get_or c.args.text.now c.args.at 0) c.requires.quote in
    let there = string_there c.args.text.now c.args.at c.in_ok-token.token c.in_ok-token.ensures.string in
    rw c.string_of.ensures.parsed_value (plain_value c.args.text.now c.args.limit c.args.depth c.args.at _ (omega arith) p.0 p.1 there)
