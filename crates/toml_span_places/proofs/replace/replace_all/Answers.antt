use Rattle.toml_span_lex.proofs.Common.{◌≡◌, ℕ, List, None, IsCharBoundary, IsCharBoundary-start, arith, common_steps, nat_tests, refl, sym, ◌∙◌}
use Rattle.toml_span_lex.specs.declared.span.Span.{Span}
use Rattle.toml_span_places.specs.Replace.{fault_of}
use Rattle.toml_span_places.proofs.replace.replace_all.Goals as goal

pub loop-index-init : goal.loop-index-init
loop-index-init c = record {
  new = grind (arith, nat_tests, common_steps);
  fault = refl;
  boundary = IsCharBoundary-start c.args.text.now c.utf8.text;
}

right_end : (text : List ℕ) (from : ℕ) (s : Span) → fault_of text from s ≡ None → IsCharBoundary text s.end
right_end text from s right = grind (arith, nat_tests, common_steps)

pub loop-index-preserved : goal.loop-index-preserved
loop-index-preserved c =
    let right : c.fault_of.result ≡ None = grind (arith, nat_tests, common_steps) in record {
      new = grind (arith, nat_tests, common_steps);
      fault = grind (arith, nat_tests, common_steps);
      boundary = right_end _ _ _ (sym c.fault_of.ensures ∙ right);
    }
