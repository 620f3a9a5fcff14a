use Rattle.toml_span_laws.proofs.StringLaws.{unchanged, changed}
use Rattle.toml_span_laws.proofs.strings.borrowed_where_unchanged.Goals as goal

pub returns : goal.returns
returns c = λ text i token (source, h, borrows, further) other. (
  λ lent change. changed text i token.end token.span source _ token.is_multiline h other change ((borrows.1 other).0 lent),
  λ none. (borrows.1 other).1 (unchanged text i token.end token.span source _ token.is_multiline h other none),
)
