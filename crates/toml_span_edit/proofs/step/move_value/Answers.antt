use Rattle.toml_span_edit.proofs.Steps.{moved_of}
use Rattle.toml_span_edit.proofs.step.move_value.Goals as goal

pub returns-clause-kept : goal.returns-clause-kept
returns-clause-kept c = moved_of _ _ _ _ _ _ c.as_str.ensures.value c.in_ok-without.ensures c.in_ok-new.ensures.kept
