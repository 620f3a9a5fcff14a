use Rattle.toml_span_lex.proofs.Common.{◌≡◌, ◌++◌, map, take, string_bytes}
use Rattle.toml_span_edit.specs.Refused.{more_text}
use Rattle.toml_span_edit.proofs.edits.push_more.Given as goal

abbrev pub invariant-loop-segment : goal.invariant-loop-segment
invariant-loop-segment l =
    string_bytes l.out ≡ string_bytes l.fn.out ++ more_text (map (λ s. s.now) (take l.segment-index l.path))
