use Rattle.toml_span_lex.proofs.Common.{◌≡◌, drop, map}
use Rattle.toml_span_commands.specs.Words.{is_among}
use Rattle.toml_span_commands.proofs.say.is_among.Given as goal

abbrev pub invariant-loop-one : goal.invariant-loop-one
invariant-loop-one l =
    is_among l.name (map (λ n. n.now) (drop l.one-index l.names)) ≡ is_among l.name (map (λ n. n.now) l.names)
