use Rattle.toml_span_lex.proofs.Common.{◌≡◌, ◌++◌, map, take, string_bytes, flat_map}
use Rattle.toml_span_report.specs.Rendering.{remark}
use Rattle.toml_span_report.proofs.rendering.push_each.Given as goal

abbrev pub invariant-loop-text : goal.invariant-loop-text
invariant-loop-text l =
    string_bytes l.out
    ≡ string_bytes l.fn.out ++ flat_map (remark l.frame.style l.frame.width l.title) (map string_bytes (take l.text-index l.texts))
