use Rattle.std.proofs.Common.{◌≡◌, ◌++◌, [], ◌∷◌, drop, flat_map, encode_utf8, string_bytes}
use Rattle.toml_span_schema.specs.Canonical.{sign_form}
use Rattle.toml_span_schema.proofs.canonical.push_decimal.Given as goal

abbrev pub invariant-loop-digit : goal.invariant-loop-digit
invariant-loop-digit l =
    string_bytes l.out ++ flat_map encode_utf8 (drop l.digit-index l.number.digits.items)
    ≡ (string_bytes l.fn.out ++ sign_form l.number.negative ∷ []) ++ flat_map encode_utf8 l.number.digits.items
