use Rattle.toml_span_lex.proofs.Common.{◌≡◌, map, take}
use Rattle.toml_span_report.specs.Report.{repair_of}
use Rattle.toml_span_editor.specs.Edits.{edit_content}
use Rattle.toml_span_editor.specs.Repairs.{replacement_edit}
use Rattle.toml_span_editor.proofs.diagnostics.edits_of.Given as goal

abbrev pub invariant-loop-replacement : goal.invariant-loop-replacement
invariant-loop-replacement l =
    map edit_content l.edits.items
    ≡ map replacement_edit (map repair_of (take l.replacement-index l.replacements))
