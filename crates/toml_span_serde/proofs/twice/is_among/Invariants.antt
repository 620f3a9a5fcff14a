use Rattle.toml_span_lex.proofs.Common.{◌≡◌, drop, map, string_bytes, list_any, bytes_eq}
use Rattle.toml_span_serde.proofs.twice.is_among.Given as goal

abbrev pub invariant-loop-one : goal.invariant-loop-one
invariant-loop-one l =
    list_any (λ one. bytes_eq one l.text) (map string_bytes (drop l.one-index l.texts))
    ≡ list_any (λ one. bytes_eq one l.text) (map string_bytes l.texts)
