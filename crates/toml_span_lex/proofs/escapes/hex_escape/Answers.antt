use Rattle.toml_span_lex.proofs.Common.{arith, refl, ◌≡◌, ◌+◌, ◌<◌, get_or, length, add_assoc, false, true, nat_tests}
use Rattle.toml_span_lex.specs.Escapes.{is_hex}
use Rattle.toml_span_lex.proofs.Hex.{room, grows, hex_value_step, HexRun-more, hex_ascii, past_hex}
use Rattle.toml_span_lex.proofs.Runs.{after_ascii, char_fails}
use Rattle.toml_span_lex.proofs.escapes.hex_escape.Goals as goal

pub loop-k-init : goal.loop-k-init
loop-k-init c = record {
  run = record { within = omega arith; digits = λ k f g. absurd (omega arith) };
  value = refl;
  below = omega arith;
  boundary = after_ascii c.args.text.now c.args.at _ (omega arith) c.utf8.text c.requires.within c.requires.ascii;
}

pub overflow_mul-value : goal.overflow_mul-value
overflow_mul-value c = let h = room c.loop-k.value 0 c.loop-k.k c.loop-k.invariant.below (omega arith) (omega arith) in omega arith

pub overflow_add-value : goal.overflow_add-value
overflow_add-value c = let d = c.in-Some.ensures.value in let h = room c.loop-k.value c.in-Some.digit c.loop-k.k c.loop-k.invariant.below (omega arith) (omega (arith, d.0, d.1)) in omega arith

pub returns-in-None-clause-hex : goal.returns-in-None-clause-hex
returns-in-None-clause-hex c =
    let fails : is_hex (get_or c.args.text.now ((c.args.at + 1) + c.loop-k.k) 0) ≡ false = grind (arith, nat_tests, c.in-None.ensures.value) in
    (omega arith, omega arith, c.loop-k.invariant.run, c.char_at-c.ensures.char, char_fails is_hex c.args.text.now _ _ _ past_hex refl fails c.char_at-c.ensures.char)

pub loop-k-preserved : goal.loop-k-preserved
loop-k-preserved c =
    let l = c.loop-k in
    let text = c.args.text.now in
    let d = c.in-Some.ensures.value in
    let here : (c.args.at + 1) + l.k < length text = omega arith in
    let is : is_hex (get_or text ((c.args.at + 1) + l.k) 0) ≡ true = grind (arith, nat_tests, d.0) in
    record {
      run = rw (add_assoc (c.args.at + 1) l.k 1) at (HexRun-more text _ _ l.invariant.run here is);
      value = hex_value_step text _ _ _ _ here l.invariant.value (cc (d.1, c.from.ensures));
      below = grows l.value c.in-Some.digit l.k l.invariant.below (omega (arith, d.0, d.1));
      boundary = after_ascii text ((c.args.at + 1) + l.k) _ (omega arith) c.utf8.text here (hex_ascii _ is);
    }
