use Rattle.toml_span_lex.proofs.Common.{◌≡◌, false, ◌-◌, ◌≤◌, length, take, Appends}
use Rattle.toml_span_lines.proofs.run.write_bytes.Given as goal

abbrev pub invariant-loop-at : goal.invariant-loop-at
invariant-loop-at g l = record {
  good : g.W.Sink.failed l.writer ≡ false;
  written : Appends (g.W.Sink.contents l.fn.writer) (g.W.Sink.contents l.writer) (take l.at l.text);
  within : l.at ≤ length l.text;
}

abbrev pub decreases-loop-at : goal.decreases-loop-at
decreases-loop-at g l = length l.text - l.at
