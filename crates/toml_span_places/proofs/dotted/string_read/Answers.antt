use Rattle.toml_span_lex.specs.Tokens.{string}
use Rattle.toml_span_lex.proofs.Within.{token_within}
use Rattle.toml_span_places.proofs.dotted.string_read.Goals as goal

pub returns-in-String : goal.returns-in-String
returns-in-String c =
    let h = rw c.in-String.is at c.in-Ok.ensures.string in
    let w = token_within c.args.path.now c.args.at _ _ (string _ _ _) h.0 in
    ((_, _, h.0), record { on = w.0; boundary = c.in-Ok.ensures.ends })
