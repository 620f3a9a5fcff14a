use Rattle.std.proofs.Common.{◌≡◌, drop, fold}
use Rattle.toml_span_check.specs.Globs.{content, start_of, step}
use Rattle.toml_span_check.proofs.globs.parts_of_glob.Given as goal

abbrev pub invariant-loop-byte : goal.invariant-loop-byte
invariant-loop-byte l = fold step (content l.reader) (drop l.byte-index l.text) ≡ fold step (start_of l.is_deep) l.text
