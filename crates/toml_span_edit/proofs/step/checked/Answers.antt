use Rattle.toml_span_edit.proofs.step.checked.Goals as goal

pub returns-in-Err-clause-refused : goal.returns-in-Err-clause-refused
returns-in-Err-clause-refused c = c.confirmed.ensures c.args.old.text.now
