-- Where the values of a tree start in the text.
use Rattle.std.specs.Prelude.{ℕ, min, Option, Some, None, option_map}
use Rattle.toml_span_lex.specs.declared.key.Key.{Key}
use Rattle.toml_span_tree.specs.Value.{view, span_of}
use Rattle.toml_span_tree.specs.declared.nodes.Visited.{Visited}

-- the start of a value or of its key, whichever comes first
abbrev pub or_key : ℕ → Option Key → ℕ
or_key start None = start
or_key start (Some key) = min start key.span.start

-- the start of a visited value or of its key, whichever comes first
abbrev pub start_of : Visited → ℕ
start_of node = or_key (span_of (view node.value.now)).start (option_map (λ key. key.now) node.key)
