use Rattle.toml_span_lex.proofs.Common.{◌≡◌, drop, map}
use Rattle.std.specs.List.{list_all}
use Rattle.toml_span_places.specs.Replace.{edit_of}
use Rattle.toml_span_edit.specs.Kept.{is_header_part}
use Rattle.toml_span_edit.proofs.kept.are_header_parts.Given as goal

abbrev pub invariant-loop-replacement : goal.invariant-loop-replacement
invariant-loop-replacement l =
    list_all (is_header_part l.text) (map edit_of l.list) ≡ list_all (is_header_part l.text) (map edit_of (drop l.replacement-index l.list))
