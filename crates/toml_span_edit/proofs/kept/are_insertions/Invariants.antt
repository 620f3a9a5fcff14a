use Rattle.toml_span_lex.proofs.Common.{◌≡◌, drop, map}
use Rattle.std.specs.List.{list_all}
use Rattle.toml_span_places.specs.Replace.{edit_of}
use Rattle.toml_span_edit.specs.Kept.{is_insertion}
use Rattle.toml_span_edit.proofs.kept.are_insertions.Given as goal

abbrev pub invariant-loop-replacement : goal.invariant-loop-replacement
invariant-loop-replacement l =
    list_all is_insertion (map edit_of l.list) ≡ list_all is_insertion (map edit_of (drop l.replacement-index l.list))
