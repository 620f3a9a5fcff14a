use Rattle.toml_span_edit.proofs.step.moved.Goals as goal

pub returns-in-Err-clause-refused : goal.returns-in-Err-clause-refused
returns-in-Err-clause-refused c = c.confirmed.ensures c.args.old.text.now
