-- The number of parts of a value, which bounds the depth of a walk; and the mentions in elements, one at a time.
use Rattle.toml_span_lex.proofs.Common.{◌≡◌, ◌≤◌, ◌<◌, ℕ, suc, ◌+◌, List, [], ◌∷◌, ◌++◌, nat_tests, common_steps, map, drop, length, get_or, arith}
use Rattle.toml_span_tree.specs.Path.{Path, position}
use Rattle.toml_span_read.specs.Data.{ParsedValue, parsed, ParsedInner, scalar, array, inline, ParsedItems, no_items, item}
use Rattle.toml_span_read.specs.Data.{ParsedPairs, no_pairs, pair, parsed_assignment, onto, pairs_onto, parsed_value}
use Rattle.toml_span_read.specs.declared.value.Assignment.{Assignment}
use Rattle.toml_span_read.specs.declared.value.Val.{Val}
use Rattle.toml_span_places.specs.Mentions.{Mentioned, item_mentions, pair_mentions, value_mentions}

abbrev mutual
  pub value_size : ParsedValue → ℕ
  value_size (parsed i span) = suc (inner_size i)

  pub inner_size : ParsedInner → ℕ
  inner_size (scalar s) = 0
  inner_size (array vs) = suc (items_size vs)
  inner_size (inline ps) = suc (pairs_size ps)

  pub items_size : ParsedItems → ℕ
  items_size no_items = 0
  items_size (item v vs) = value_size v + items_size vs

  pub pairs_size : ParsedPairs → ℕ
  pairs_size no_pairs = 0
  pairs_size (pair ks v extent ps) = suc (value_size v) + pairs_size ps

abbrev pub elements_size : List Val → ℕ
elements_size vs = items_size (onto (map parsed_value vs) no_items)

abbrev pub assigned_size : List Assignment → ℕ
assigned_size es = pairs_size (pairs_onto (map parsed_assignment es) no_pairs)

-- an element, and those after it
pub elements_small : (i : ℕ) (vs : List Val) (v : Val) (all : ℕ) → i < length vs → get_or vs i v ≡ v → elements_size (drop i vs) ≤ all →
    elements_size (drop (i + 1) vs) ≤ all
elements_small i vs v all below here before = grind (arith, nat_tests, common_steps)

-- a pair, and those after it
pub assigned_small : (i : ℕ) (es : List Assignment) (e : Assignment) (all : ℕ) → i < length es → get_or es i e ≡ e → assigned_size (drop i es) ≤ all →
    assigned_size (drop (i + 1) es) ≤ all
assigned_small i es e all below here = grind (arith, nat_tests, common_steps)

-- ---- the mentions in elements and in assignments

abbrev pub elements_mentions : Path → ℕ → List Val → List Mentioned
elements_mentions p i vs = item_mentions p i (onto (map parsed_value vs) no_items)

abbrev pub assigned_mentions : Path → List Assignment → List Mentioned
assigned_mentions p es = pair_mentions p (pairs_onto (map parsed_assignment es) no_pairs)

-- the next element
pub elements_next : (p : Path) (i : ℕ) (vs : List Val) (v : Val) (before now all : List Mentioned) → i < length vs → get_or vs i v ≡ v →
    now ≡ before ++ value_mentions (p ++ (position i ∷ [])) (parsed_value v) →
    before ++ elements_mentions p i (drop i vs) ≡ all → now ++ elements_mentions p (i + 1) (drop (i + 1) vs) ≡ all
elements_next p i vs v before now all under here more was = grind (arith, nat_tests, common_steps)
