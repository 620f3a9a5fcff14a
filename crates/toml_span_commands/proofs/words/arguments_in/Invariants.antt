use Rattle.toml_span_lex.proofs.Common.{◌≡◌, drop, fold, map, string_bytes}
use Rattle.toml_span_commands.specs.Words.{arguments_in, state, with_word}
use Rattle.toml_span_commands.proofs.words.arguments_in.Given as goal

abbrev pub invariant-loop-word : goal.invariant-loop-word
invariant-loop-word l =
    fold (with_word (map (λ v. v.now) l.valued)) (state l.given) (map (λ w. string_bytes w) (drop l.word-index l.words))
    ≡ arguments_in (map (λ v. v.now) l.valued) (map (λ w. string_bytes w) l.words)
