use Rattle.toml_span_lex.proofs.Common.{◌≡◌, drop}
use Rattle.toml_span_serde.specs.Tried.{is_among}
use Rattle.toml_span_serde.proofs.tried.is_among.Given as goal

abbrev pub invariant-loop-kind : goal.invariant-loop-kind
invariant-loop-kind l = is_among l.expected (drop l.kind-index l.kinds) ≡ is_among l.expected l.kinds
