use Rattle.toml_span_lex.proofs.Common.{take}
use Rattle.std.specs.List.{All, AllZip}
use Rattle.toml_span_editor.specs.Documents.{IsCut, IsPart}
use Rattle.toml_span_editor.proofs.document.parts.Given as goal

abbrev pub invariant-loop-statement : goal.invariant-loop-statement
invariant-loop-statement l = record {
  parts : AllZip (IsPart l.text l.pieces.items) (take l.statement-index l.statement-items) l.parts.items;
  cuts : All (IsCut l.text) l.parts.items;
}
