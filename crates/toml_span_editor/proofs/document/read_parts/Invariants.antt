use Rattle.toml_span_lex.proofs.Common.{◌≡◌, string_bytes}
use Rattle.std.specs.List.{All}
use Rattle.toml_span_editor.specs.Documents.{IsCut, Leaves, joined}
use Rattle.toml_span_editor.proofs.document.read_parts.Given as goal

abbrev pub invariant-loop-round : goal.invariant-loop-round
invariant-loop-round l = record {
  leaves : Leaves l.text l.round l.parts.items;
  kept : string_bytes l.kept ≡ joined l.text l.parts.items;
  cuts : All (IsCut l.text) l.parts.items;
}
