use Rattle.toml_span_lex.proofs.Common.{◌≡◌, ◌+◌, ◌*◌, ◌^◌, ◌<◌, IsCharBoundary}
use Rattle.toml_span_lex.specs.Escapes as spec
use Rattle.toml_span_lex.proofs.escapes.hex_escape.Given as goal

abbrev pub invariant-loop-k : goal.invariant-loop-k
invariant-loop-k l = record {
  run : spec.HexRun l.text (l.at + 1) ((l.at + 1) + l.k);
  value : l.value ≡ spec.hex_value l.text (l.at + 1) l.k;
  below : l.value < 2 ^ (4 * l.k);
  boundary : IsCharBoundary l.text ((l.at + 1) + l.k);
}
