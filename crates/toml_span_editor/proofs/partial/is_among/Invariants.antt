use Rattle.toml_span_lex.proofs.Common.{◌≡◌, drop, map}
use Rattle.std.specs.List.{list_any}
use Rattle.std.specs.Str.{bytes_eq}
use Rattle.toml_span_editor.proofs.partial.is_among.Given as goal

abbrev pub invariant-loop-one : goal.invariant-loop-one
invariant-loop-one l =
    list_any (bytes_eq l.code) (map (λ one. one.now) l.codes)
    ≡ list_any (bytes_eq l.code) (map (λ one. one.now) (drop l.one-index l.codes))
