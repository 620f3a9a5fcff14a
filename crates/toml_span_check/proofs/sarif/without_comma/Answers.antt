use Rattle.toml_span_lex.proofs.Common.{◌≡◌, ◌≢◌, ℕ, List, ◌∷◌, None, arith, strip_prefix_char, nat_tests, common_steps}
use Rattle.toml_span_check.specs.Sarif.{without_comma}
use Rattle.toml_span_check.proofs.sarif.without_comma.Goals as goal

none : (text : List ℕ) → ((rest : List ℕ) → text ≢ 44 ∷ rest) → text ≡ without_comma text
none text differs = grind (arith, nat_tests, common_steps)

pub returns-in-None : goal.returns-in-None
returns-in-None c =
    none c.args.text.now (strip_prefix_char 44 c.args.text.now None c.in-None.ensures.cases (omega arith))
