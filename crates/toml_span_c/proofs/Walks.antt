-- One more value of a walk down a tree.
use Rattle.toml_span_lex.proofs.Common.{◌≡◌, ◌<◌, ℕ, suc, ◌+◌, List, [], ◌∷◌, ◌++◌, Option, Some, None, drop, length, get_or, sym, ap, ◌∙◌, true, false, arith, cow_str_bytes, nat_tests, common_steps}
use Rattle.toml_span_lex.specs.declared.key.Key.{Key}
use Rattle.toml_span_lex.specs.declared.span.Span.{Span}
use Rattle.toml_span_tree.specs.declared.value.Value.{Value}
use Rattle.toml_span_tree.specs.Node.{Node, Inner}
use Rattle.toml_span_tree.specs.Value.{view, items_view, members_view, inner_of, is_taken}
use Rattle.toml_span_c.specs.declared.records.Counts.{Counts}
use Rattle.toml_span_c.specs.declared.records.Record.{Record}
use Rattle.toml_span_c.specs.Records.{Entry, no_span, node_entries, held_entries, items_entries, members_entries, strings_of}
use Rattle.toml_span_c.specs.code.Filling.{Fits, IsAt, Puts}
use Rattle.toml_span_c.proofs.Puts.{puts-none, puts-append, fits-part, fits-same}

-- the entry of a value that has not been taken
abbrev pub own_entry : ℕ → ℕ → ℕ → Option (List ℕ) → Span → Node → Inner → Entry
own_entry at parent i name key n inner = record {
  parent = parent;
  position = i;
  name = name;
  key_span = key;
  next = suc at + length (held_entries at inner);
  value = n;
}

pub entries-held : (at parent i : ℕ) (name : Option (List ℕ)) (key : Span) (n : Node) → is_taken n ≡ false
    → node_entries at parent i name key n ≡ own_entry at parent i name key n (inner_of n) ∷ held_entries at (inner_of n)
entries-held at parent i name key n h = grind (arith, nat_tests, common_steps)

pub entries-taken : (at parent i : ℕ) (name : Option (List ℕ)) (key : Span) (n : Node) → is_taken n ≡ true → node_entries at parent i name key n ≡ []
entries-taken at parent i name key n h = grind (arith, nat_tests, common_steps)

-- The entries have been written up to those that are left, which depend on the number of the next one. Together they
-- are all entries.
pub record Upto (document : List ℕ) (k m : ℕ) (left : ℕ → List Entry) (all : List Entry) (old new : List Record) (bytes bytes' : List ℕ) (total : Counts) : Type 0 where
  pub done : List Entry
  pub puts : Puts document k m done old new bytes bytes' total
  pub whole : done ++ left (k + length done) ≡ all

abbrev pub items_left : ℕ → ℕ → List Value → ℕ → List Entry
items_left parent i es at = items_entries at parent i (items_view es)

abbrev pub members_left : ℕ → ℕ → List (Key × Value) → ℕ → List Entry
members_left parent i es at = members_entries at parent i (members_view es)

pub upto-more : (document : List ℕ) (k m : ℕ) (left rest : ℕ → List Entry) (mine : ℕ → List Entry) (all : List Entry) (a b c : List Record) (x y z : List ℕ) (t u : Counts)
    → ((at : ℕ) → left at ≡ mine at ++ rest (at + length (mine at)))
    → ((i j : ℕ) → IsAt i j t → Fits document i j (mine i) → Puts document i j (mine i) b c y z u)
    → Fits document k m all
    → Upto document k m left all a b x y t → Upto document k m rest all a c x z u
upto-more document k m left rest mine all a b c x y z t u split step fits so =
    let at = k + length so.done in
    let n = m + length (strings_of document so.done) in
    let added = mine at in
    let parts : all ≡ so.done ++ (added ++ rest (at + length added)) = sym so.whole ∙ ap (λ l. so.done ++ l) (split at) in
    let part = fits-part document k m so.done added (rest (at + length added)) (fits-same document k m all _ parts fits) in
    record {
      done = so.done ++ added;
      puts = puts-append document k m so.done added a b c x y z t u so.puts (step at n so.puts.counts part);
      whole = grind (arith, nat_tests, common_steps, parts);
    }

pub items-split : (parent i at : ℕ) (es : List Value) (e : Value) → i < length es → get_or es i e ≡ e
    → items_left parent i (drop i es) at ≡ node_entries at parent i None no_span (view e)
    ++ items_left parent (i + 1) (drop (i + 1) es) (at + length (node_entries at parent i None no_span (view e)))
items-split parent i at es e below here = grind (arith, nat_tests, common_steps)

pub members-split : (parent i at : ℕ) (es rest : List (Key × Value)) (key : Key) (value : Value) → es ≡ (key, value) ∷ rest
    → members_left parent i es at ≡ node_entries at parent i (Some (cow_str_bytes key.name)) key.span (view value)
    ++ members_left parent (i + 1) rest (at + length (node_entries at parent i (Some (cow_str_bytes key.name)) key.span (view value)))
members-split parent i at es rest key value split = grind (arith, nat_tests, common_steps)

-- at the end none is left
pub upto-all : (document : List ℕ) (k m : ℕ) (left : ℕ → List Entry) (all : List Entry) (a b : List Record) (x y : List ℕ) (t : Counts) → ((at : ℕ) → left at ≡ [])
    → Upto document k m left all a b x y t → Puts document k m all a b x y t
upto-all document k m left all a b x y t none so = grind (arith, nat_tests, common_steps)

-- at the start all are left
pub upto-begin : (document : List ℕ) (k m : ℕ) (left : ℕ → List Entry) (a : List Record) (x : List ℕ) (t : Counts) → IsAt k m t → Upto document k m left (left k) a a x x t
upto-begin document k m left a x t at =
    let same : k + 0 ≡ k = omega arith in
    record { done = []; puts = puts-none document k m a x t at; whole = ap left same }
