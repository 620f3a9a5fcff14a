-- The errors of a read. There is at least one.
use Rattle.std.specs.Prelude.{ℕ, List, [], ◌∷◌, ◌++◌}
use Rattle.std.specs.List.{flat_map}
use Rattle.toml_span_lex.specs.Bytes.{line_feed}
use Rattle.toml_span_tree.specs.Error.{ErrorContent}
use Rattle.toml_span_tree.specs.Message.{display_text}

-- the errors before the last one, in order, and the last one
pub record Errors : Type 0 where
  pub earlier : List ErrorContent
  pub last : ErrorContent

abbrev pub one : ErrorContent → Errors
one fault = record { earlier = []; last = fault }

-- all of them, in order
abbrev pub all : Errors → List ErrorContent
all faults = faults.earlier ++ faults.last ∷ []

-- an error's text and a line feed
abbrev pub line : ErrorContent → List ℕ
line fault = display_text fault.kind ++ line_feed ∷ []

-- each error's text and a line feed, in order
abbrev pub lines : List ErrorContent → List ℕ
lines faults = flat_map line faults
