use Rattle.toml_span_lex.proofs.Common.{◌≡◌, ◌++◌, drop}
use Rattle.toml_span_editor.specs.Partial.{doubts, partial, sections_from}
use Rattle.toml_span_editor.proofs.partial.doubts.Given as goal

abbrev pub invariant-loop-part : goal.invariant-loop-part
invariant-loop-part l = l.found.items ++ partial (sections_from l.section (drop l.part-index l.parts)) ≡ doubts l.parts
