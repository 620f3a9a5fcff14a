use Rattle.std.proofs.Common.{◌≡◌, take, string_bytes}
use Rattle.std.specs.List.{flat_map}
use Rattle.toml_span_files.specs.Diff.{new_part}
use Rattle.toml_span_files.proofs.diff.new_text.Given as goal

abbrev pub invariant-loop-part : goal.invariant-loop-part
invariant-loop-part l = string_bytes l.text ≡ flat_map new_part (take l.part-index l.parts)
