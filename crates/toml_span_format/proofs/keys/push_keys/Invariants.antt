use Rattle.toml_span_lex.proofs.Common.{◌≡◌, ◌++◌, map, take}
use Rattle.toml_span_read.specs.Data.{parsed_assignment}
use Rattle.toml_span_format.specs.Entries.{key_names}
use Rattle.toml_span_format.specs.Keys.{part_names}
use Rattle.toml_span_format.proofs.keys.push_keys.Given as goal

abbrev pub invariant-loop-assignment : goal.invariant-loop-assignment
invariant-loop-assignment l = map key_names l.keys.items ≡ map key_names l.fn.keys.items ++ map (λ a. part_names (parsed_assignment a).parts) (take l.assignment-index l.section.assignments.items)
