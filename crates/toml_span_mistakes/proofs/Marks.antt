-- The labels of a mistake, one more at a time.
use Rattle.toml_span_lex.proofs.Common.{◌≡◌, ℕ, true, List, [], ◌∷◌, ◌++◌, map, arith, ap, ◌∙◌, map-append}
use Rattle.std.specs.Prelude.{All}
use Rattle.std.proofs.lemmas.List.Elements.{All-push}
use Rattle.std.proofs.lemmas.List.Quantifiers.{Any-push}
use Rattle.toml_span_tree.specs.Diagnostic.{label_content}
use Rattle.toml_span_tree.specs.declared.diagnostic.Label.{Label}
use Rattle.toml_span_report.specs.Places.{LiesIn}
use Rattle.toml_span_mistakes.specs.Errors.{MarksMistake, lies}

abbrev pub Lie : List ℕ → List (Label (Unit {0})) → Type 0
Lie text labels = All (lies text) (map label_content labels)

pub lie_none : (text : List ℕ) (labels : List (Label (Unit {0}))) → labels ≡ [] → Lie text labels
lie_none text labels none = rw none (λ k d below. absurd (omega arith))

pub lie_push : (text : List ℕ) (before after : List (Label (Unit {0}))) (label : Label (Unit {0})) → Lie text before → after ≡ before ++ label ∷ [] → LiesIn text label.span → Lie text after
lie_push text before after label all is here =
    rw (ap (map label_content) is ∙ map-append label_content before (label ∷ []))
    (All-push (lies text) (map label_content before) (label_content label) all here)

pub shows_push : (text : List ℕ) (before after : List (Label (Unit {0}))) (label : Label (Unit {0})) → Lie text before → after ≡ before ++ label ∷ [] → LiesIn text label.span → label.primary ≡ true → MarksMistake text (map label_content after)
shows_push text before after label all is here primary = record {
  lie = lie_push text before after label all is here;
  primary = rw (ap (map label_content) is ∙ map-append label_content before (label ∷ []))
      (Any-push (λ mark. mark.primary ≡ true) (map label_content before) (label_content label) primary);
}
