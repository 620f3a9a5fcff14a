use Rattle.toml_span_lex.specs.Tokens.{string}
use Rattle.toml_span_lex.proofs.Within.{token_within}
use Rattle.toml_span_read.proofs.strings.pieced_string.Goals as goal

pub returns-in-String-clause-string : goal.returns-in-String-clause-string
returns-in-String-clause-string c =
    let h = rw c.in-String.is at c.in-Ok.ensures.string in
    let w = token_within c.args.text.now c.args.at _ _ (string _ _ _) h.0 in
    (_, h.0, h.1, record { on = w.0; boundary = c.in-Ok.ensures.ends })
