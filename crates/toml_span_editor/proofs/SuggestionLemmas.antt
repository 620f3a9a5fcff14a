-- The spans that suggestions replace.
use Rattle.std.proofs.Common.{◌≡◌, ◌++◌, List, [], ◌∷◌}
use Rattle.std.proofs.lemmas.List.Elements.{All-push}
use Rattle.toml_span_editor.specs.Completions.{Replace}
use Rattle.toml_span_editor.specs.declared.completion.Suggestion.{Suggestion}
use Rattle.toml_span_lex.specs.declared.span.Span.{Span}

pub replace_push : (span : Span) (before after : List Suggestion) (one : Suggestion) → Replace span before
    → after ≡ before ++ one ∷ [] → one.span ≡ span → Replace span after
replace_push span before after one all is here = rw is (All-push (λ s. s.span ≡ span) before one all here)
