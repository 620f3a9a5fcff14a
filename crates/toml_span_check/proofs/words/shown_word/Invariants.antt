use Rattle.toml_span_lex.proofs.Common.{◌≡◌, string_bytes, flat_map}
use Rattle.toml_span_check.specs.Words.{shown_char}
use Rattle.toml_span_check.proofs.words.shown_word.Given as goal

abbrev pub invariant-loop-c : goal.invariant-loop-c
invariant-loop-c l = string_bytes l.shown ≡ flat_map shown_char l.yielded
