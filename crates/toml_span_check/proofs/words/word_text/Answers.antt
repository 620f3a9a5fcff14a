use Rattle.toml_span_lex.proofs.Common.{◌≡◌, ◌∙◌, ℕ, List, Bool, IsUtf8, refl, IfOk-weaker, IsUtf8-from_is_utf8, is_utf8-from_IsUtf8, is_utf8, arith, nat_tests, common_steps}
use Rattle.toml_span_check.specs.Words.{bytes_text, word_text}
use Rattle.toml_span_check.proofs.words.word_text.Goals as goal

is-text : (word text : List ℕ) → IsUtf8 word → text ≡ word → text ≡ word_text word
is-text word text utf8 is = rw (is_utf8-from_IsUtf8 word utf8) is

is-none : (word : List ℕ) (is : Bool) → is_utf8 word ≡ is → ¬ (IsUtf8 word) → bytes_text word ≡ word_text word
is-none word is h none = grind (arith, nat_tests, common_steps, IsUtf8-from_is_utf8)

pub returns-in-Ok : goal.returns-in-Ok
returns-in-Ok c = grind (arith, nat_tests, common_steps, is-text)

pub returns-in-Err : goal.returns-in-Err
returns-in-Err c = IfOk-weaker c.bytes_text.result _ _ (λ _ bytes. bytes ∙ is-none c.args.word.now _ refl c.in-Err.ensures.cases.0) c.bytes_text.ensures
