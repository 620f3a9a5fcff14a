use Rattle.toml_span_lex.proofs.Common.{◌≡◌, ◌++◌, ◌∷◌, drop, flat_map}
use Rattle.toml_span_lines.specs.Lines.{shown_byte}
use Rattle.toml_span_lines.proofs.lines.push_key.Given as goal

abbrev pub invariant-loop-byte : goal.invariant-loop-byte
invariant-loop-byte l =
    l.path.items ++ flat_map shown_byte (drop l.byte-index l.byte-items) ≡ l.fn.path.items ++ (47 ∷ flat_map shown_byte l.byte-items)
