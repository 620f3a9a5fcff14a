-- One more node of a walk down a tree.
use Rattle.toml_span_lex.proofs.Common.{arith, nat_tests, common_steps, ℕ, ◌+◌, ◌<◌, ◌≡◌, List, ◌∷◌, ◌++◌, drop, take, length, get_or, true, false, cow_str_bytes}
use Rattle.toml_span_lex.specs.declared.key.Key.{Key}
use Rattle.toml_span_lex.specs.declared.span.Span.{Span}
use Rattle.toml_span_tree.specs.declared.value.Value.{Value}
use Rattle.toml_span_tree.specs.Node.{Node, node, Inner}
use Rattle.toml_span_tree.specs.Value.{view, items_view, members_view, is_taken, holds_nothing, kind_name}
use Rattle.toml_span_lines.specs.Lines.{line, node_lines, held_lines, items_lines, members_lines, position_segment, key_segment}

not_taken_lines : (i : Inner) (span : Span) (path : List ℕ) → holds_nothing i ≡ false →
    node_lines path (node i span) ≡ line path (kind_name i) span.start span.end ++ held_lines path i
not_taken_lines i span path h = grind (arith, nat_tests, common_steps)

-- a node that has not been taken has its own line, followed by those of the nodes inside it
pub node_lines-held : (n : Node) (i : Inner) (span : Span) (path before own kind after : List ℕ) → n ≡ node i span → is_taken n ≡ false → own ≡ path → kind ≡ kind_name i →
    after ≡ (before ++ line own kind span.start span.end) ++ held_lines path i → after ≡ before ++ node_lines path n
node_lines-held n i span path before own kind after e h k l m = grind (arith, nat_tests, common_steps, not_taken_lines i span path)

-- the lines of the elements, beginning at one
pub items_lines-next : (path : List ℕ) (i : ℕ) (es : List Value) (e : Value) (out after all : List ℕ) →
    i < length es → get_or es i e ≡ e →
    out ++ items_lines path i (items_view (drop i es)) ≡ all →
    after ≡ out ++ node_lines (path ++ position_segment i) (view e) →
    after ++ items_lines path (i + 1) (items_view (drop (i + 1) es)) ≡ all
items_lines-next path i es e out after all below here before step = grind (arith, nat_tests, common_steps)

-- the lines of the entries, beginning at one
pub members_lines-next : (path : List ℕ) (es rest : List (Key × Value)) (key : Key) (value : Value) (out after all : List ℕ) →
    es ≡ (key, value) ∷ rest →
    out ++ members_lines path (members_view es) ≡ all →
    after ≡ out ++ node_lines (path ++ key_segment (cow_str_bytes key.name)) (view value) →
    after ++ members_lines path (members_view rest) ≡ all
members_lines-next path es rest key value out after all split before step = grind (arith, nat_tests, common_steps)

-- a path that is truncated to where a segment was added
pub take-segment : (path with cut : List ℕ) (segment : List ℕ) (n : ℕ) → n ≡ length path → with ≡ path ++ segment → cut ≡ take n with → cut ≡ path
take-segment path with cut segment n e h k = grind (arith, nat_tests, common_steps)
