use Rattle.toml_span_lex.proofs.Common.{◌≡◌, drop}
use Rattle.toml_span.specs.code.ClaimInfos.{has_kind}
use Rattle.toml_span.proofs.claims.has_kind.Given as goal

abbrev pub invariant-loop-info : goal.invariant-loop-info
invariant-loop-info l = has_kind (drop l.info-index l.infos) l.kind ≡ has_kind l.infos l.kind
