-- Keys: the places where they are written, and the values to which they lead.
use Rattle.std.specs.Prelude.{ℕ, Bool, true, false, List, [], ◌∷◌, Option, Some, None, if◌then◌else◌, option_and_then}
use Rattle.toml_span_editor.specs.Renaming.{key_at}
use Rattle.toml_span_editor.specs.declared.keys.Mention.{Mention}
use Rattle.toml_span_lex.specs.declared.span.Span.{Span}
use Rattle.toml_span_places.specs.Keys.{KeyMention}
use Rattle.toml_span_places.specs.declared.keys.Role.{Role}
use Rattle.toml_span_places.specs.declared.keys.Role.TheVariants as roles
use Rattle.toml_span_read.specs.Paths.{same_path}
use Rattle.toml_span_tree.specs.Node.{Node}
use Rattle.toml_span_tree.specs.Path.{Path, child}

-- whether a part with this role is the last part of a header, or of the key of an assignment
abbrev pub is_last : Role → Bool
is_last roles.HeaderLast = true
is_last roles.Last = true
is_last _ = false

abbrev pub mention_of : KeyMention → Mention
mention_of key = record { span = key.whole; is_definition = is_last key.role }

-- the places of those keys that have this path
abbrev pub mentions_of : Path → List KeyMention → List Mention
mentions_of path [] = []
mentions_of path (key ∷ keys) =
    if same_path key.path path then mention_of key ∷ mentions_of path keys else mentions_of path keys

abbrev pub mentions_by : List KeyMention → Option KeyMention → List Mention
mentions_by keys None = []
mentions_by keys (Some key) = mentions_of key.path keys

-- the places where the key at the offset `at` is written; none if no key is there
abbrev pub mentions_at : ℕ → List KeyMention → List Mention
mentions_at at keys = mentions_by keys (key_at at keys)

-- the span of the first definition, or `other` without a definition
abbrev pub definition_or : Option Span → List Mention → Option Span
definition_or other [] = other
definition_or other (mention ∷ mentions) =
    if mention.is_definition then Some mention.span else definition_or other mentions

abbrev pub first_span : List Mention → Option Span
first_span [] = None
first_span (mention ∷ mentions) = Some mention.span

-- the span of the first definition or, without one, of the first place
abbrev pub definition_of : List Mention → Option Span
definition_of mentions = definition_or (first_span mentions) mentions

-- the value at a path, one step at a time
abbrev pub value_at : Path → Node → Option Node
value_at [] n = Some n
value_at (step ∷ path) n = option_and_then (value_at path) (child step n)
