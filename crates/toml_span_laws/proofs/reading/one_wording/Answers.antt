use Rattle.toml_span_lex.proofs.Common.{◌≡◌, true, refl, arith, nat_tests}
use Rattle.toml_span_lex.specs.Tokens.{Lexeme, punctuator, string, words}
use Rattle.toml_span_read.specs.Faults.{found_of, found_words}
use Rattle.toml_span_laws.proofs.reading.one_wording.Goals as goal

-- a token has the same name in the reader and in the lexer
called : (l : Lexeme) → found_words (found_of l) ≡ words l
called (punctuator c) = grind (arith, nat_tests)
called (string src value true) = refl
called l = refl

pub returns : goal.returns
returns c = called
