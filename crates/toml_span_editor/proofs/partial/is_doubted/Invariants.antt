use Rattle.toml_span_lex.proofs.Common.{◌≡◌, drop}
use Rattle.toml_span_editor.specs.Partial.{is_doubted}
use Rattle.toml_span_editor.proofs.partial.is_doubted.Given as goal

abbrev pub invariant-loop-doubt : goal.invariant-loop-doubt
invariant-loop-doubt l =
    is_doubted l.place l.is_certain l.doubts ≡ is_doubted l.place l.is_certain (drop l.doubt-index l.doubts)
