-- A document has no more values than its text allows, and its names and strings fit into it.
use Rattle.toml_span_lex.proofs.Common.{◌≡◌, ◌≤◌, ◌+◌, ◌-◌, ◌*◌, ℕ, suc, Bool, true, false, List, [], ◌∷◌, length, Option, Some, None, refl, ap, inl, inr, arith, drop, codes, slice_range, unwrap_or, filter, nat_tests, common_steps}
use Rattle.std.specs.List.{sum_by}
use Rattle.std.proofs.lemmas.List.{length-take}
use Rattle.std.proofs.lemmas.List.Sums.{sum_by-append}
use Rattle.std.proofs.lemmas.List.Concat.{length-flat_map}
use Rattle.toml_span_lex.specs.declared.span.Span.{Span}
use Rattle.toml_span_lex.specs.Strings.{IsString}
use Rattle.toml_span_lex.proofs.Copies.{content_fits}
use Rattle.toml_span_lex.proofs.MadeStrings.{content_from_after}
use Rattle.toml_span_tree.specs.Node.{Scalar, text as text_scalar, integer, float, boolean, datetime, finite, infinite, not_a_number, Node, node, Inner, taken, scalar, array, table, Items, no_items, item, Members, no_members, member}
use Rattle.toml_span_tree.specs.Path.{Shape, shape_scalar, shape_of}
use Rattle.toml_span_tree.specs.Value.{view, inner_of, span_of}
use Rattle.toml_span_tree.specs.declared.value.Value.{Value}
use Rattle.toml_span_read.specs.Data.{SimpleKey}
use Rattle.toml_span_read.specs.Grammar.{SpellsScalar}
use Rattle.toml_span_read.specs.Keys.{SpellsSimpleKey}
use Rattle.toml_span_read.specs.Numbers.{SpecialFloat}
use Rattle.toml_span_read.specs.Numerals.{cleaned, is_negative}
use Rattle.toml_span_read.proofs.KeyOrder.{key_inside}
use Rattle.toml_span_read.proofs.ReadSound.{document_sound}
use Rattle.toml_span.specs.Parsing.{IsTree}
use Rattle.toml_span_c.specs.declared.records.TheConstants.{NONE}
use Rattle.toml_span_c.specs.Records.{scalar_text, Entry, no_span, aside, entry_strings, text_of, node_entries, held_entries, items_entries, members_entries, tree_entries, tree_records, tree_strings}
use Rattle.toml_span_c.specs.Calls.{IsText}
use Rattle.toml_span_c.specs.code.Filling.{Fits}
use Rattle.toml_span_c.proofs.Costs.{Cost, node_cost, inner_cost, items_cost, members_cost, tree-few}
use Rattle.toml_span_c.proofs.Fits.{Fair, claims-fit}
use Rattle.toml_span_c.proofs.Puts.{length-records}
use Rattle.toml_span_c.proofs.Walks.{own_entry}

-- ---- strings cost their bytes

-- the number of bytes of a scalar's text
abbrev scalar_long : Scalar → ℕ
scalar_long s = length (unwrap_or (scalar_text s) [])

abbrev shape_long : Shape → ℕ
shape_long (shape_scalar s) = scalar_long s
shape_long _ = 0

-- a name costs its bytes, and a scalar those of its text
abbrev bytes_cost : Cost
bytes_cost = record { name = λ s. length s; shape = shape_long }

part-short : (text : List ℕ) (i j : ℕ) → i ≤ j → i + length (slice_range text i j) ≤ j
part-short text i j l = omega (arith, length-take (j - i) (drop i text))

kept-short : (p : ℕ → Bool) (xs : List ℕ) → length (filter p xs) ≤ length xs
kept-short p [] = omega arith
kept-short p (x ∷ xs) = grind (arith, nat_tests, common_steps, kept-short p xs)

cleaned-short : (literal : List ℕ) → length (cleaned literal) ≤ length literal
cleaned-short literal = grind (arith, nat_tests, common_steps, kept-short)

string-short : (text v src : List ℕ) (i j : ℕ) (s : Span) (m : Bool) → IsString text i j s src v m → i + length v ≤ j
string-short text v src i j s m h =
    omega (arith, content_fits _ m text v h.from h.to j h.content_is, content_from_after m text i h.from h.begins)

-- a word with its sign, which is kept if it is a minus
plain-short : (word text : List ℕ) (i j : ℕ) → SpecialFloat word text i j → i + length word ≤ j
plain-short word text i j h = grind (arith, nat_tests, common_steps)

minus-short : (word text : List ℕ) (i j : ℕ) → SpecialFloat word text i j → true ≡ is_negative text i → i + suc (length word) ≤ j
minus-short word text i j h e = grind (arith, nat_tests, common_steps)

scalar-fits : (x : Scalar) (s : Span) (text : List ℕ) (i j : ℕ) → i ≤ j → SpellsScalar x s text i j → i + scalar_long x ≤ j
scalar-fits (text_scalar v) s text i j l (src, m, h) = string-short text v src i j s m h
scalar-fits (integer n) s text i j l h = omega arith
scalar-fits (boolean b) s text i j l h = omega arith
scalar-fits (datetime d) s text i j l h = omega (arith, ap (λ t. length t) h.3, part-short text i j l)
scalar-fits (float (finite digits)) s text i j l (none, h, at) =
    omega (arith, ap (λ t. length t) h.1, cleaned-short (slice_range text i j), part-short text i j l)
scalar-fits (float (infinite false)) s text i j l (none, h, at) = plain-short (codes "inf") text i j h.0
scalar-fits (float (infinite true)) s text i j l (none, h, at) = minus-short (codes "inf") text i j h.0 h.1
scalar-fits (float (not_a_number false)) s text i j l (none, h, at) = plain-short (codes "nan") text i j h.0
scalar-fits (float (not_a_number true)) s text i j l (none, h, at) = minus-short (codes "nan") text i j h.0 h.1

simple-fits : (k : SimpleKey) (text : List ℕ) (i j : ℕ) → SpellsSimpleKey k text i j → i + length k.name ≤ j
simple-fits k text i j (inl (run, e)) = omega (arith, run.0, ap (λ l. length l) run.2, part-short text i j (omega (arith, run.0)))
simple-fits k text i j (inr (src, h)) = string-short text k.name src i j k.span false h

abbrev bytes_fair : Fair
bytes_fair = record {
  cost = bytes_cost;
  room = λ n. n;
  byte = 0;
  grows = λ i j l. omega arith;
  names = λ k text i j h. omega (arith, simple-fits k text i j h);
  scalars = λ x s text i j l h. omega (arith, scalar-fits x s text i j l h);
  tables = omega arith;
}

-- ---- values cost one each

abbrev one_cost : Cost
one_cost = record { name = λ s. 0; shape = λ s. 1 }

-- a text has at most two values per byte: an array of tables and its first element have the same name
abbrev ones_fair : Fair
ones_fair = record {
  cost = one_cost;
  room = λ n. 2 * n;
  byte = 2;
  grows = λ i j l. omega arith;
  names = λ k text i j h. let lies = key_inside k text i j h in omega (arith, lies.0.begins, lies.0.ends, lies.1);
  scalars = λ x s text i j l h. omega arith;
  tables = omega arith;
}

-- ---- the records of a tree cost one each, and its strings as much as its names and texts

-- what a name costs, if there is one
abbrev name_cost : Cost → Option (List ℕ) → ℕ
name_cost c None = 0
name_cost c (Some s) = c.name s

-- an entry weighs at most what its name and the shape of its value cost
abbrev IsWorth : Cost → (Entry → ℕ) → Type 0
IsWorth c w = (e : Entry) → w e ≤ name_cost c e.name + c.shape (shape_of (inner_of e.value))

mutual
  node-weighs : (c : Cost) (w : Entry → ℕ) → IsWorth c w → (at parent i : ℕ) (name : Option (List ℕ)) (span : Span) (n : Node)
      → sum_by w (node_entries at parent i name span n) ≤ name_cost c name + node_cost c n
  node-weighs c w f at parent i name span (node inner s) =
      grind (arith, nat_tests, common_steps, f (own_entry at parent i name span (node inner s) inner), held-weighs c w f at inner)

  held-weighs : (c : Cost) (w : Entry → ℕ) → IsWorth c w → (at : ℕ) (i : Inner) → sum_by w (held_entries at i) ≤ inner_cost c i
  held-weighs c w f at taken = omega arith
  held-weighs c w f at (scalar s) = omega arith
  held-weighs c w f at (array ns) = items-weigh c w f (suc at) at 0 ns
  held-weighs c w f at (table ms) = members-weigh c w f (suc at) at 0 ms

  items-weigh : (c : Cost) (w : Entry → ℕ) → IsWorth c w → (at parent i : ℕ) (ns : Items) → sum_by w (items_entries at parent i ns) ≤ items_cost c ns
  items-weigh c w f at parent i no_items = omega arith
  items-weigh c w f at parent i (item n ns) =
      let first = node_entries at parent i None no_span n in
      let rest = items_entries (at + length first) parent (suc i) ns in
      omega (arith, sum_by-append w first rest, node-weighs c w f at parent i None no_span n, items-weigh c w f (at + length first) parent (suc i) ns)

  members-weigh : (c : Cost) (w : Entry → ℕ) → IsWorth c w → (at parent i : ℕ) (ms : Members) → sum_by w (members_entries at parent i ms) ≤ members_cost c ms
  members-weigh c w f at parent i no_members = omega arith
  members-weigh c w f at parent i (member name span n ms) =
      let first = node_entries at parent i (Some name) span n in
      let rest = members_entries (at + length first) parent (suc i) ms in
      omega (arith, sum_by-append w first rest, node-weighs c w f at parent i (Some name) span n, members-weigh c w f (at + length first) parent (suc i) ms)

aside-short : (document : List ℕ) (span : Span) (o : Option (List ℕ)) → length (aside document span o) ≤ name_cost bytes_cost o
aside-short document span o = grind (arith, nat_tests, common_steps)

text-worth : (i : Inner) → name_cost bytes_cost (text_of i) ≤ bytes_cost.shape (shape_of i)
text-worth i = grind (arith, nat_tests, common_steps)

strings-worth : (document : List ℕ) → IsWorth bytes_cost (λ e. length (entry_strings document e))
strings-worth document e = grind (arith, nat_tests, common_steps, aside-short, text-worth)

count-ones : (es : List Entry) → sum_by (λ e. 1) es ≡ length es
count-ones [] = refl
count-ones (e ∷ es) = grind (arith, nat_tests, common_steps, count-ones es)

-- ---- documents

tree-weighs : (c : Cost) (w : Entry → ℕ) → IsWorth c w → (n : Node) → sum_by w (tree_entries n) ≤ node_cost c n
tree-weighs c w f n = omega (arith, node-weighs c w f 0 NONE 0 None no_span n)

pub few-records : (bytes : List ℕ) (limit : ℕ) (root : Value) → IsTree bytes limit root → length (tree_records bytes (view root)) ≤ 2 * length bytes + 1
few-records bytes limit root tree =
    let (bs, has, made) = tree in
    let fits = claims-fit ones_fair bs bytes limit (document_sound bs bytes limit has.0) in
    let es = tree_entries (view root) in
    let ones = tree-weighs one_cost (λ e. 1) (λ e. omega arith) (view root) in
    omega (arith, length-records bytes 0 es, count-ones es, ones, tree-few one_cost bs (length bytes) root made, fits)

pub short-strings : (bytes : List ℕ) (limit : ℕ) (root : Value) → IsTree bytes limit root → length (tree_strings bytes (view root)) ≤ length bytes
short-strings bytes limit root tree =
    let (bs, has, made) = tree in
    let weighed = tree-weighs bytes_cost _ (strings-worth bytes) (view root) in
    let long = length-flat_map (entry_strings bytes) (tree_entries (view root)) in
    omega (arith, long, weighed, tree-few bytes_cost bs (length bytes) root made, claims-fit bytes_fair bs bytes limit (document_sound bs bytes limit has.0))

-- the records and strings of what the calls read can be counted
pub tree-fits : (bytes : List ℕ) (limit : ℕ) (root : Value) → IsText bytes → IsTree bytes limit root → Fits bytes 0 0 (tree_entries (view root))
tree-fits bytes limit root text tree =
    grind (arith, nat_tests, common_steps, few-records bytes limit root tree, length-records bytes 0 (tree_entries (view root)), short-strings bytes limit root tree)
