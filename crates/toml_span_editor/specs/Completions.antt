-- Suggestions of keys and values.
use Rattle.std.specs.Prelude.{◌≡◌, List}
use Rattle.std.specs.List.{All}
use Rattle.toml_span_editor.specs.declared.completion.Suggestion.{Suggestion}
use Rattle.toml_span_lex.specs.declared.span.Span.{Span}

-- All suggestions replace this span.
abbrev pub Replace : Span → List Suggestion → Type 0
Replace span suggestions = All (λ suggestion. suggestion.span ≡ span) suggestions
