use Rattle.toml_span_lex.proofs.Common.{◌≡◌, ◌++◌, codes, map, take, string_bytes, flat_map}
use Rattle.toml_span_report.specs.Report.{repair_of}
use Rattle.toml_span_check.specs.Sarif.{replacement}
use Rattle.toml_span_check.proofs.sarif.push_replacements.Given as goal

abbrev pub invariant-loop-replacement : goal.invariant-loop-replacement
invariant-loop-replacement l =
    string_bytes l.out
    ≡ string_bytes l.fn.out
    ++ flat_map (λ fix. codes "," ++ replacement l.text fix) (map repair_of (take l.replacement-index l.replacements))
