-- Strings, read by `FromStr` or by the function of `parse_with`.
use Rattle.std.specs.Prelude.{◌≡◌, ℕ, List, ◌++◌, Option, None, Some, MatchOption, IfSome, Result, Ok, Err, codes}
use Rattle.toml_span_lex.specs.declared.span.Span.{Span}
use Rattle.toml_span_lex.specs.declared.stop.Stop.{Stop}
use Rattle.toml_span_lex.specs.declared.stop.Stop.TheVariants as stop
use Rattle.toml_span_tree.specs.declared.error.Error.{Error}
use Rattle.toml_span_tree.specs.Error.{ErrorContent, custom, content_of}
use Rattle.toml_span_tree.specs.Node.{Node}
use Rattle.toml_span_tree.specs.Value.{inner_of, wrong_kind, span_of, text_in}

-- The error is `Custom` at the span. Its message ends with the text of the error that `FromStr` or the function of
-- `parse_with` returned. The text is `shown`, or any text if `shown` is None.
abbrev pub ReportsRefusal : Option (List ℕ) → Span → ErrorContent → Type 0
ReportsRefusal shown span fault =
    (text : List ℕ) × (fault ≡ record {
      kind = custom (codes "failed to parse string: " ++ text);
      span = span;
      line_info = None;
    })
    × IfSome shown (λ stated. text ≡ stated)

-- The string is read as `gives`, the `from_str_gives` of the type, allows. An allocation can fail only if `FromStr`
-- fails.
abbrev pub Parses : {T E : Type 0} → (List ℕ → Result T E → Type 0) → (E → Option (List ℕ)) → Node
    → Result T (Stop Error) → Type 0
Parses gives output value (Ok parsed) =
    (text : List ℕ) × (text_in (inner_of value) ≡ Some text) × gives text (Ok parsed)
Parses gives output value (Err (stop.Fault error)) = MatchOption (text_in (inner_of value))
    (content_of error ≡ wrong_kind (codes "a string") value)
    (λ text. (refusal : _) × gives text (Err refusal)
    × ReportsRefusal (output refusal) (span_of value) (content_of error))
Parses gives output value (Err (stop.Memory error)) =
    (text : List ℕ) × (text_in (inner_of value) ≡ Some text) × ((refusal : _) × gives text (Err refusal))
