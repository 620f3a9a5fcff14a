-- A document in which one scalar is replaced by another one.
use Rattle.std.specs.Prelude.{◌≡◌, ℕ, ◌+◌, List, length, slice_range}
use Rattle.toml_span_lex.specs.declared.span.Span.{Span}
use Rattle.toml_span_tree.specs.Node.{Scalar, Node, node, Inner, taken, scalar, array, table, Items, no_items, item}
use Rattle.toml_span_tree.specs.Node.{Members, no_members, member}
use Rattle.toml_span_tree.specs.Path.{Path, put}
use Rattle.toml_span_tree.specs.Value.{view}
use Rattle.toml_span_tree.specs.declared.value.Value.{Value}
use Rattle.toml_span_read.specs.Data.{ParsedSection}
use Rattle.toml_span_read.specs.Grammar.{SpellsScalar}
use Rattle.toml_span.specs.Parsing.{IsTree}
use Rattle.toml_span_laws.specs.Outcomes.{HasOutcome, resolved}
use Rattle.toml_span_places.specs.Literals.{literal_span}
use Rattle.toml_span_laws.specs.Again.{with_part, ReadsAsScalar, CanBeReplaced}

-- the span 0..0
abbrev pub no_span : Span
no_span = record { start = 0; end = 0 }

-- the same tree, where each span is 0..0
abbrev mutual
  pub without_spans : Node → Node
  without_spans (node i span) = node (inner_without i) no_span

  pub inner_without : Inner → Inner
  inner_without taken = taken
  inner_without (scalar s) = scalar s
  inner_without (array ns) = array (items_without ns)
  inner_without (table ms) = table (members_without ms)

  pub items_without : Items → Items
  items_without no_items = no_items
  items_without (item n ns) = item (without_spans n) (items_without ns)

  pub members_without : Members → Members
  members_without no_members = no_members
  members_without (member name key n ms) = member name no_span (without_spans n) (members_without ms)

-- the text of a scalar's literal, where the scalar has this span in the tree
abbrev pub literal_text : List ℕ → Scalar → Span → List ℕ
literal_text t s span =
    slice_range t (literal_span t (node (scalar s) span)).start (literal_span t (node (scalar s) span)).end

-- The text t is a document, and its tree is `root` with this scalar at the path, except for spans.
abbrev pub IsDocumentWith : Path → Scalar → Value → List ℕ → ℕ → Type 0
IsDocumentWith path s root t limit =
    (sections : List ParsedSection) × HasOutcome t limit (resolved sections)
    × ((other : Value) → IsTree t limit other
    → without_spans (view other) ≡ without_spans (put path (node (scalar s) no_span) (view root)))

-- The text has this scalar, with this span. Replacing its literal (with any quotes) by a text that spells a scalar x
-- gives a document. The tree of that document is `root` with x at the path, except for spans.
pub record CanBeSet (t : List ℕ) (limit : ℕ) (root : Value) (path : Path) (s : Scalar) (span : Span) : Type 0 where
  pub takes : CanBeReplaced t s span
  pub literal : literal_span t (node (scalar s) span) ≡ record { start = takes.i; end = takes.j }
  pub document : (part : List ℕ) (x : Scalar) (at : Span)
      → SpellsScalar x at (with_part t takes.i takes.j part) takes.i (takes.i + length part)
      → IsDocumentWith path x root (with_part t takes.i takes.j part) limit
  pub reads : (part : List ℕ) (x : Scalar) → ReadsAsScalar x part
      → IsDocumentWith path x root (with_part t takes.i takes.j part) limit
