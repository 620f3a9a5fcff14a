-- The tree of earlier values, and the check of dotted keys against it.
use Rattle.std.specs.Prelude.{◌≡◌, ℕ, ◌<◌, ◌≤◌, List, [], ◌∷◌, ◌++◌, map, take, length, Result, Ok, Err, Option}
use Rattle.std.specs.Prelude.{Some, None, unwrap_or}
use Rattle.std.specs.Map.{lookup}
use Rattle.std.specs.declared.alloc.AllocError.{AllocError}
use Rattle.toml_span_lex.specs.Key.{is_named}
use Rattle.toml_span_lex.specs.declared.key.Key.{Key}
use Rattle.toml_span_lex.specs.declared.span.Span.{Span}
use Rattle.toml_span_lex.specs.declared.stop.Stop.{Stop}
use Rattle.toml_span_lex.specs.declared.stop.Stop.TheVariants as stops
use Rattle.toml_span_read.specs.Data.{ParsedAssignment, parsed_assignment}
use Rattle.toml_span_read.specs.declared.earlier.Node.TheOpen.{Node-F}
use Rattle.toml_span_read.specs.declared.earlier.Node.{Node as Tree, fold-Node}
use Rattle.toml_span_read.specs.Earlier.{value_at, crossing}
use Rattle.toml_span_read.specs.declared.earlier.Earlier.{Earlier}
use Rattle.toml_span_read.specs.declared.fault.Fault.{Fault}
use Rattle.toml_span_read.specs.declared.value.Assignment.{Assignment}

-- the span stored at each path, if any
abbrev pub Holds : Type 0
Holds = List (List ℕ) → Option Span

-- the child with this name
abbrev pub child : {A : Type 0} → List ℕ → List (Key × A) → Option A
child name es = lookup (is_named name) es

abbrev pub no_spans : Holds
no_spans names = None

-- what a child stores at each path below it, or nothing without a child
abbrev pub below : Option Holds → Holds
below None names = None
below (Some holds) names = holds names

abbrev pub holds_step : Node-F Holds → Holds
holds_step n [] = n.value
holds_step n (name ∷ names) = below (child name n.below.entries) names

-- what the tree stores at each path
abbrev pub holds : Tree → Holds
holds = fold-Node Holds holds_step

-- The span `first` is stored at the path `names`, unless a span was stored there before. Nothing else changes.
abbrev pub Puts : List (List ℕ) → Span → Holds → Holds → Type 0
Puts names first old new =
    (new names ≡ Some (unwrap_or (old names) first))
    × ((other : List (List ℕ)) → (other ≡ names → ⊥) → new other ≡ old other)

-- At the paths that begin with this name, the new tree stores the spans of `under`. Nothing else changes.
abbrev pub PutsBelow : List ℕ → Holds → Holds → Holds → Type 0
PutsBelow name under old new =
    ((names : List (List ℕ)) → new (name ∷ names) ≡ under names)
    × (new [] ≡ old [])
    × ((other : List ℕ) (names : List (List ℕ)) → (other ≡ name → ⊥) → new (other ∷ names) ≡ old (other ∷ names))

-- The key of each of these assignments has more than n parts.
abbrev pub EachLonger : ℕ → List ParsedAssignment → Type 0
EachLonger n [] = Unit {0}
EachLonger n (e ∷ es) = (n < length e.parts) × EachLonger n es

-- No key has fewer inner parts than `fewest`. At each path, the tree stores the span that `value_at` returns for the
-- first `known` assignments.
pub record Knows (earlier : Earlier) (assignments : List ParsedAssignment) : Type 0 where
  pub fewest : EachLonger earlier.fewest assignments
  pub within : earlier.known ≤ length assignments
  pub tree : holds earlier.tree ≡ value_at (take earlier.known assignments)

-- Unless an allocation fails, either the key of `next` goes through no earlier value, and `new` knows `next` too; or
-- the key goes through one, and this is the fault.
abbrev pub ChecksNext : Earlier → List ParsedAssignment → ParsedAssignment → Result (Option Fault) AllocError → Type 0
ChecksNext new assignments next (Ok None) =
    (crossing assignments next ≡ None) × Knows new (assignments ++ (next ∷ []))
ChecksNext new assignments next (Ok (Some fault)) = crossing assignments next ≡ Some fault
ChecksNext new assignments next (Err e) = Unit {0}

-- Unless an allocation fails, either `next` is appended to the assignments `old`, or its key goes through the value of
-- one of them, and this is the fault.
abbrev pub AddsClear : List Assignment → List Assignment → Assignment → Result (Unit {0}) (Stop Fault) → Type 0
AddsClear old new next (Ok done) =
    (new ≡ old ++ (next ∷ [])) × (crossing (map parsed_assignment old) (parsed_assignment next) ≡ None)
AddsClear old new next (Err (stops.Memory e)) = Unit {0}
AddsClear old new next (Err (stops.Fault fault)) =
    crossing (map parsed_assignment old) (parsed_assignment next) ≡ Some fault
