use Rattle.toml_span_lex.proofs.Common.{map, option_map}
use Rattle.toml_span_report.proofs.NearestLemmas.{IsBest}
use Rattle.toml_span_report.proofs.names.nearest.Given as goal

abbrev pub invariant-loop-name : goal.invariant-loop-name
invariant-loop-name l =
    IsBest l.word (map (λ name. name.now) l.names) l.name-index (option_map (λ name. name.now) l.best) l.bound
