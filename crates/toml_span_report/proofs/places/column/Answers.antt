use Rattle.toml_span_lex.proofs.Common.{ap, ◌∙◌, length, ◌+◌, ◌-◌, take, drop, chars}
use Rattle.toml_span_report.specs.Places.{column}
use Rattle.toml_span_report.proofs.places.column.Goals as goal

pub returns : goal.returns
unfolding column
returns c =
    ap (λ n. n + 1) (c.characters.ensures.value ∙ ap (λ s. length (chars s)) c.range.ensures.value
    ∙ ap (λ from. length (chars (take (c.args.at - from) (drop from c.args.text.now)))) c.line_start.ensures.value)
