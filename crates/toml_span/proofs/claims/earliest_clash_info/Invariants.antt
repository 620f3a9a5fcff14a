use Rattle.toml_span_lex.proofs.Common.{◌≡◌, drop}
use Rattle.toml_span.specs.code.ClaimInfos.{earliest_clash_info}
use Rattle.toml_span.proofs.claims.earliest_clash_info.Given as goal

abbrev pub invariant-loop-earlier : goal.invariant-loop-earlier
invariant-loop-earlier l = earliest_clash_info (drop l.earlier-index l.infos) l.later ≡ earliest_clash_info l.infos l.later
