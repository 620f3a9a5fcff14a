use Rattle.toml_span_lex.proofs.Common.{◌≡◌, false, ◌-◌, ◌≤◌, ◌+◌, vec_len, Consumes}
use Rattle.toml_span_lines.specs.Run.{bound}
use Rattle.toml_span_lines.proofs.run.read_bytes.Given as goal

abbrev pub invariant-loop-buf : goal.invariant-loop-buf
invariant-loop-buf g l = record {
  good : g.R.Source.failed l.reader ≡ false;
  read : Consumes (g.R.Source.remaining l.fn.reader) (g.R.Source.remaining l.reader) l.bytes.items;
  within : vec_len l.bytes ≤ bound + 1;
}

abbrev pub decreases-loop-buf : goal.decreases-loop-buf
decreases-loop-buf g l = bound + 1 - vec_len l.bytes
