use Rattle.toml_span_lex.proofs.Common.{refl, [], ◌∷◌}
use Rattle.toml_span_serde.proofs.spanned.span_ahead.Goals as goal

pub returns : goal.returns
returns g c = (
  c.exact.result ∷ [],
  c.exact-2.result ∷ [],
  c.variant.new.self,
  c.variant-2.new.self,
  (c.exact.result, refl, c.exact.ensures.name),
  (c.exact-2.result, refl, c.exact-2.ensures.name),
  c.in_ok-start.ensures,
  c.in_ok-end.ensures,
)
