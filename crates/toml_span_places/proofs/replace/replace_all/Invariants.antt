use Rattle.toml_span_lex.proofs.Common.{◌≡◌, ◌++◌, drop, map, string_bytes, IsCharBoundary}
use Rattle.toml_span_places.specs.Replace.{edit_of, edited_from, first_fault}
use Rattle.toml_span_places.proofs.replace.replace_all.Given as goal

abbrev pub invariant-loop-index : goal.invariant-loop-index
invariant-loop-index l = record {
  new : string_bytes l.new ++ edited_from l.text l.from (map edit_of (drop l.index l.replacements))
      ≡ edited_from l.text 0 (map edit_of l.replacements);
  fault : first_fault l.text l.index l.from (map edit_of (drop l.index l.replacements))
      ≡ first_fault l.text 0 0 (map edit_of l.replacements);
  boundary : IsCharBoundary l.text l.from;
}
