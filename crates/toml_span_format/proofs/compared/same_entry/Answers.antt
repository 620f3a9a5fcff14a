use Rattle.toml_span_lex.proofs.Common.{ap₂}
use Rattle.toml_span_format.specs.Entries.{Content}
use Rattle.toml_span_format.proofs.compared.same_entry.Goals as goal

pub returns : goal.returns
returns c =
    λ t. ap₂ (λ r ts. let made : Content = record { rank = r; tokens = ts } in made) (c.same_rank.ensures c.if-not-same_rank.false) (c.in_ok-same.ensures t)
