-- Texts that are read as a given string, key or value wherever they occur.
use Rattle.std.specs.Prelude.{◌≡◌, ℕ, ◌+◌, ◌≤◌, Bool, true, false, not, ◌||◌, List, [], ◌∷◌, ◌++◌, length, slice_index}
use Rattle.toml_span_lex.specs.Strings.{IsString}
use Rattle.toml_span_lex.specs.declared.span.Span.{Span}
use Rattle.toml_span_tree.specs.Node.{Scalar, float, Node, node, Inner, taken, Items, no_items, item, Members}
use Rattle.toml_span_tree.specs.Node.{no_members, member, FloatValue, finite, infinite, not_a_number}
use Rattle.toml_span_tree.specs.Node.{scalar as scalar_node, array as array_node, table as table_node}
use Rattle.toml_span_tree.specs.Value.{is_whole}
use Rattle.toml_span_read.specs.Data.{ParsedValue, parsed, ParsedInner, scalar, array, inline, ParsedItems, from_to}
use Rattle.toml_span_read.specs.Data.{no_items as none_read, item as item_read, ParsedPairs, no_pairs, pair}
use Rattle.toml_span_read.specs.Dates.{continues_date, is_date_byte}
use Rattle.toml_span_read.specs.Earlier.{part_names}
use Rattle.toml_span_read.specs.Grammar.{Spells, SpellsScalar}
use Rattle.toml_span_read.specs.Keys.{SpellsSimpleKey, opens_string}

-- Whether these bytes may follow a key or value without continuing it: they do not begin with a letter, a digit, a
-- quote or one of `-_:.+`, nor with a space and a digit. They may be empty.
abbrev pub may_follow : List ℕ → Bool
may_follow after =
    not (is_date_byte (slice_index after 0) || (opens_string (slice_index after 0) || continues_date after 0))

-- Wherever this part occurs in a text before bytes that do not continue it (`may_follow`), it is a single-line string
-- with this content, from its first byte to its last.
abbrev pub ReadsAsString : List ℕ → List ℕ → Type 0
ReadsAsString content part =
    (before after : List ℕ) → may_follow after ≡ true
    → (span : Span)
    × IsString (before ++ (part ++ after)) (length before) (length before + length part) span part content false

-- Wherever this part occurs in a text before bytes that do not continue it (`may_follow`), it is a simple key with this
-- name, from its first byte to its last.
abbrev pub ReadsAsKey : List ℕ → List ℕ → Type 0
ReadsAsKey name part =
    (before after : List ℕ) → may_follow after ≡ true
    → (span : Span)
    × SpellsSimpleKey (record { name = name; span = span }) (before ++ (part ++ after)) (length before)
    (length before + length part)

-- ---- values

-- The value that was read equals the value of the tree, except for spans. Each key in its inline tables has one part.
abbrev mutual
  pub HasValue : ParsedValue → Node → Type 0
  HasValue (parsed k span) (node i at) = HoldsValue k i

  pub HoldsValue : ParsedInner → Inner → Type 0
  HoldsValue (scalar s) (scalar_node t) = s ≡ t
  HoldsValue (array vs) (array_node ns) = HaveValues vs ns
  HoldsValue (inline ps) (table_node ms) = HaveEntries ps ms
  HoldsValue _ _ = ⊥

  pub HaveValues : ParsedItems → Items → Type 0
  HaveValues none_read no_items = Unit {0}
  HaveValues (item_read v vs) (item n ns) = HasValue v n × HaveValues vs ns
  HaveValues _ _ = ⊥

  pub HaveEntries : ParsedPairs → Members → Type 0
  HaveEntries no_pairs no_members = Unit {0}
  HaveEntries (pair parts v extent ps) (member name key n ms) =
      (part_names parts ≡ name ∷ []) × HasValue v n × HaveEntries ps ms
  HaveEntries _ _ = ⊥

-- The text of a float with digits is a literal of that float.
abbrev pub IsFloatText : FloatValue → Type 0
IsFloatText (finite digits) =
    SpellsScalar (float (finite digits)) (from_to 0 (length digits)) digits 0 (length digits)
IsFloatText (infinite negative) = Unit {0}
IsFloatText (not_a_number negative) = Unit {0}

abbrev pub IsScalarText : Scalar → Type 0
IsScalarText (float x) = IsFloatText x
IsScalarText _ = Unit {0}

-- The text of each float in the value that has digits is a literal of that float.
abbrev mutual
  pub HasFloatTexts : Node → Type 0
  HasFloatTexts (node i span) = InnerHasFloatTexts i

  pub InnerHasFloatTexts : Inner → Type 0
  InnerHasFloatTexts taken = Unit {0}
  InnerHasFloatTexts (scalar_node s) = IsScalarText s
  InnerHasFloatTexts (array_node ns) = ItemsHaveFloatTexts ns
  InnerHasFloatTexts (table_node ms) = MembersHaveFloatTexts ms

  pub ItemsHaveFloatTexts : Items → Type 0
  ItemsHaveFloatTexts no_items = Unit {0}
  ItemsHaveFloatTexts (item n ns) = HasFloatTexts n × ItemsHaveFloatTexts ns

  pub MembersHaveFloatTexts : Members → Type 0
  MembersHaveFloatTexts no_members = Unit {0}
  MembersHaveFloatTexts (member name key n ms) = HasFloatTexts n × MembersHaveFloatTexts ms

-- Neither this value nor any value in it is nested deeper than the limit. d is the depth of this value: the number of
-- brackets and braces around it, plus one for its own key, if it has one, and one for each key around it.
abbrev mutual
  pub IsWithin : ℕ → ℕ → Node → Type 0
  IsWithin limit d (node i span) = (d ≤ limit) × InnerIsWithin limit d i

  pub InnerIsWithin : ℕ → ℕ → Inner → Type 0
  InnerIsWithin limit d taken = Unit {0}
  InnerIsWithin limit d (scalar_node s) = Unit {0}
  InnerIsWithin limit d (array_node ns) = ItemsAreWithin limit (d + 1) ns
  InnerIsWithin limit d (table_node ms) = MembersAreWithin limit (d + 1) ms

  pub ItemsAreWithin : ℕ → ℕ → Items → Type 0
  ItemsAreWithin limit d no_items = Unit {0}
  ItemsAreWithin limit d (item n ns) = IsWithin limit d n × ItemsAreWithin limit d ns

  pub MembersAreWithin : ℕ → ℕ → Members → Type 0
  MembersAreWithin limit d no_members = Unit {0}
  MembersAreWithin limit d (member name key n ms) = IsWithin limit (d + 1) n × MembersAreWithin limit d ms

-- Wherever this part occurs in a text before bytes that do not continue it (`may_follow`), it is a value that equals
-- this value of the tree, from its first byte to its last. The value of the tree must be whole and within the limit,
-- and the texts of its floats must be literals (`HasFloatTexts`).
abbrev pub ReadsAsValue : Node → List ℕ → Type 0
ReadsAsValue n part =
    (limit depth : ℕ) → is_whole n ≡ true → IsWithin limit depth n → HasFloatTexts n
    → (before after : List ℕ) → may_follow after ≡ true
    → (v : ParsedValue)
    × Spells v (before ++ (part ++ after)) limit depth (length before) (length before + length part) × HasValue v n
