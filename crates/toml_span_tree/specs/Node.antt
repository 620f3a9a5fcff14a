-- A tree of values as plain data: each value with its span, each key with its bytes and its span.
use Rattle.std.specs.Prelude.{ℕ, zero, suc, ℤ, List, Bool, cond, Option, Some, None, option_map}
use Rattle.std.specs.Str.{bytes_eq}
use Rattle.toml_span_lex.specs.declared.span.Span.{Span}

-- a float: the text of a finite one, or an infinity or NaN, which is negative if the Bool is true
pub data FloatValue : Type 0 where
  finite : List ℕ → FloatValue
  infinite : Bool → FloatValue
  not_a_number : Bool → FloatValue

pub data Scalar : Type 0 where
  text : List ℕ → Scalar
  integer : ℤ → Scalar
  float : FloatValue → Scalar
  boolean : Bool → Scalar
  datetime : List ℕ → Scalar

mutual
  -- a value and its span
  pub data Node : Type 0 where
    node : Inner → Span → Node

  -- the content of a value; `taken` if the content has been taken
  pub data Inner : Type 0 where
    taken : Inner
    scalar : Scalar → Inner
    array : Items → Inner
    table : Members → Inner

  -- the elements of an array, in order
  pub data Items : Type 0 where
    no_items : Items
    item : Node → Items → Items

  -- the entries of a table, in the order of their names: the bytes of the key, the span of the key, and the value
  pub data Members : Type 0 where
    no_members : Members
    member : List ℕ → Span → Node → Members → Members

-- the entry with this name: the span of its key, and its value
abbrev pub entry_at : List ℕ → Members → Option (Option Span × Node)
entry_at name no_members = None
entry_at name (member other span n ms) = cond (bytes_eq name other) (Some (Some span, n)) (entry_at name ms)

-- the element at this position, which has no key
abbrev pub element_at : ℕ → Items → Option (Option Span × Node)
element_at i no_items = None
element_at zero (item n ns) = Some (None, n)
element_at (suc i) (item n ns) = element_at i ns

-- the value of the entry with this name
abbrev pub get_member : List ℕ → Members → Option Node
get_member name ms = option_map (λ e. e.1) (entry_at name ms)

-- the element at this position
abbrev pub get_item : ℕ → Items → Option Node
get_item i ns = option_map (λ e. e.1) (element_at i ns)
