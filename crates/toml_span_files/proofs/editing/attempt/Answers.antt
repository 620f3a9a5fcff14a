use Rattle.std.proofs.Common.{rules}
use Rattle.toml_span_files.proofs.editing.attempt.Goals as goal

-- src/editing.rt:41:17
pub returns-then-eq-clause-ok : goal.returns-then-eq-clause-ok
returns-then-eq-clause-ok g c = record {
  bytes = c.in_ok-bytes.bytes.items;
  text = c.in-Ok.text;
  made = search rules;
  changed = λ e. cc;
  same = λ e. (search rules, search rules);
}

-- src/editing.rt:33:1
pub returns-in-Ok-clause-ok : goal.returns-in-Ok-clause-ok
returns-in-Ok-clause-ok g c = record {
  bytes = c.in_ok-bytes.bytes.items;
  text = c.in-Ok.text;
  made = search rules;
  changed = λ e. (search rules, search rules);
  same = λ e. cc;
}
