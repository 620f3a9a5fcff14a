use Rattle.toml_span_lex.proofs.Common.{arith}
use Rattle.toml_span_read.specs.Data.{simple_key}
use Rattle.toml_span_read.proofs.KeyLemmas.{key_past, past_placed, simple_sound}
use Rattle.toml_span_read.proofs.keys.part.Goals as goal

pub returns-then-others-limit-clause-key : goal.returns-then-others-limit-clause-key
returns-then-others-limit-clause-key c =
    let s = simple_key c.in_ok-key.key in
    let k = c.in_ok-key.ensures.key in
    rw c.one_too_many.ensures
    (key_past c.args.in_header c.args.text.now _ c.args.at c.in_ok-key.end s (omega arith) k, past_placed c.args.in_header c.args.text.now c.args.at c.in_ok-key.end s c.requires.0 (simple_sound s c.args.text.now c.args.at c.in_ok-key.end k))
