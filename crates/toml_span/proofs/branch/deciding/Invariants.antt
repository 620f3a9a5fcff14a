use Rattle.toml_span_lex.proofs.Common.{◌≡◌, drop}
use Rattle.toml_span.specs.code.ClaimInfos.{first_by_header}
use Rattle.toml_span.proofs.branch.deciding.Given as goal

abbrev pub invariant-loop-info : goal.invariant-loop-info
invariant-loop-info l = first_by_header (drop l.info-index l.infos) ≡ first_by_header l.infos
