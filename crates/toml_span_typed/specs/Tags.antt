-- Strings that must be one of some names, and the tags of enums.
use Rattle.std.specs.Prelude.{◌≡◌, ℕ, List, [], ◌∷◌, Option, Some, None, cond, Result, Ok, Err, codes}
use Rattle.std.specs.Borrow.{Bor}
use Rattle.std.specs.Str.{bytes_eq}
use Rattle.toml_span_lex.specs.declared.span.Span.{Span}
use Rattle.toml_span_lex.specs.declared.stop.Stop.{Stop}
use Rattle.toml_span_lex.specs.declared.stop.Stop.TheVariants as stop
use Rattle.toml_span_tree.specs.Error.{ErrorContent, unexpected_value}
use Rattle.toml_span_tree.specs.Node.{Node, node, scalar, text}
use Rattle.toml_span_tree.specs.Value.{inner_of, wrong_kind}
use Rattle.toml_span_tree.specs.Errors.{Errors, one}
use Rattle.toml_span_typed.specs.TableHelper.{State, found, keeping, missing, noted}

-- the first of the tags that equals the text
abbrev pub among : List ℕ → List (List ℕ) → Option (List ℕ)
among s [] = None
among s (tag ∷ tags) = cond (bytes_eq tag s) (Some tag) (among s tags)

abbrev pub or_unexpected : List (List ℕ) → List ℕ → Span → Option (List ℕ) → Result (List ℕ) ErrorContent
or_unexpected tags s span (Some tag) = Ok tag
or_unexpected tags s span None = Err (record { kind = unexpected_value tags (Some s); span = span; line_info = None })

-- the tag that equals the value's string, or the error if no tag does or the value is not a string
abbrev pub read_tag : List (List ℕ) → Node → Result (List ℕ) ErrorContent
read_tag tags (node (scalar (text s)) span) = or_unexpected tags s span (among s tags)
read_tag tags value = Err (wrong_kind (codes "a string") value)

-- The value is a string that equals none of the tags.
abbrev pub IsUnexpected : List (List ℕ) → Node → Type 0
IsUnexpected tags value = (s : List ℕ) × (inner_of value ≡ scalar (text s)) × (among s tags ≡ None)

-- `name_of`: the name that equals the string, or the one error; an allocation can fail only if no name equals it
abbrev pub IsNameOf : List (List ℕ) → Node → Result (Bor (List ℕ)) (Stop Errors) → Type 0
IsNameOf names value (Ok name) = read_tag names value ≡ Ok name.now
IsNameOf names value (Err (stop.Fault faults)) =
    (fault : ErrorContent) × (read_tag names value ≡ Err fault) × (faults ≡ one fault)
IsNameOf names value (Err (stop.Memory error)) = IsUnexpected names value

-- the result of `read_tag` for the value; without a value, the error `fault`
abbrev pub read_tag_at : List (List ℕ) → ErrorContent → Option Node → Result (List ℕ) ErrorContent
read_tag_at tags fault (Some value) = read_tag tags value
read_tag_at tags fault None = Err fault

-- the tag, or None after keeping the error
abbrev pub keeping_tag : State → Result (List ℕ) ErrorContent → Option (List ℕ) × State
keeping_tag s (Ok tag) = (Some tag, s)
keeping_tag s (Err fault) = (None, keeping (fault ∷ []) s)

-- `read_tag`: the result, and the state after it
abbrev pub asked_tag : List ℕ → List (List ℕ) → State → Option (List ℕ) × State
asked_tag name tags s = keeping_tag (noted name s) (read_tag_at tags (missing name s) (found name s))

-- the errors in the list or, if the list is empty, only `fault`
abbrev pub first_or : ErrorContent → List ErrorContent → List ErrorContent
first_or fault [] = fault ∷ []
first_or fault (first ∷ rest) = first ∷ rest
