-- The tree of the earlier values, one level at a time.
use Rattle.toml_span_lex.proofs.Common.{common_steps, nat_tests, ◌≡◌, ℕ, ◌-◌, ◌≤◌, ◌++◌, length, take, drop, get_or, arith, Bool, true, false, cond, List, [], ◌∷◌, map, Option, Some, None, option_map, is_some, BTreeMap, Ordering, is_eq, nat_cmp, refl, sym, ap, ◌∙◌, rules, unwrap_or, cow_str_bytes, slice_cmp, set_value, insert_entry, cases_Bool, false≢true, nat_list_cmp_total, none-some}
use Rattle.toml_span_read.specs.Data.{SimpleKey, simple_key}
use Rattle.toml_span_read.proofs.EarlierLemmas.{crossed_more, crossed_none}
use Rattle.std.proofs.Math.Path.{fun_ext}
use Rattle.std.specs.Option.{option_or}
use Rattle.std.proofs.lemmas.Map.Made.{lookup-map_values}
use Rattle.std.specs.Cmp.{tied_itself}
use Rattle.std.specs.FinMap.{nat_cmp-IsAntisymmetric, slice_cmp-IsAntisymmetric}
use Rattle.toml_span_lex.specs.declared.key.Key.{Key}
use Rattle.toml_span_lex.specs.declared.span.Span.{Span}
use Rattle.toml_span_read.specs.declared.earlier.Node.{Node as Tree, the_lemmas}
use Rattle.toml_span_read.specs.declared.earlier.Node.TheViews.{roll-Node, out-Node}
use Rattle.toml_span_read.specs.declared.earlier.Node.TheFolds.{fold-roll-Node}
use Rattle.toml_span_read.specs.declared.earlier.Node.TheOpen.{Node-F}
use Rattle.toml_span_read.specs.code.Earlier.{child, no_spans, below, Holds, holds_step, holds, Puts, PutsBelow}
use Rattle.toml_span_lex.specs.Key.{is_named}
use Rattle.toml_span_read.specs.Earlier.{part_names, crossed}

-- the order of keys
abbrev pub key_cmp : Key → Key → Ordering
key_cmp x y = slice_cmp nat_cmp (cow_str_bytes x.name) (cow_str_bytes y.name)

abbrev pub Children : Type 0
Children = List (Key × Tree)

pub holds-here : (n : Node-F Tree) → holds (roll-Node n) [] ≡ n.value
holds-here n = search (rules, the_lemmas)

pub holds-below : (n : Node-F Tree) (name : List ℕ) (names : List (List ℕ)) → holds (roll-Node n) (name ∷ names) ≡ below (option_map holds (child name n.below.entries)) names
holds-below n name names =
    ap (λ f. f (name ∷ names)) (fold-roll-Node Holds holds_step n)
    ∙ ap (λ o. below o names) (lookup-map_values holds (is_named name) n.below.entries)

pub roll-out : (n : Tree) → roll-Node (out-Node n) ≡ n
roll-out n = search (rules, the_lemmas)

-- ---- names

abbrev pub same : List ℕ → List ℕ → Bool
same k l = is_eq (slice_cmp nat_cmp k l)

pub same_name : (k l : List ℕ) → same k l ≡ true → k ≡ l
same_name k l h = slice_cmp-IsAntisymmetric nat_cmp-IsAntisymmetric k l (grind (arith, nat_tests, common_steps))

pub same-self : (k : List ℕ) → same k k ≡ true
same-self k = rw (tied_itself nat_list_cmp_total k)

same-back : (k l : List ℕ) → same k l ≡ true → same l k ≡ true
same-back k l h = rw (same_name k l h) (same-self l)

pub same-sym : (k l : List ℕ) → same k l ≡ same l k
same-sym k l = grind (arith, cases_Bool, same-back, false≢true)

-- ---- children

-- the children after a child was inserted under the name k
abbrev pub PutsChild : List ℕ → Tree → Children → Children → Type 0
PutsChild k w es fs = (l : List ℕ) → child l fs ≡ cond (same k l) (Some w) (child l es)

pub puts-set_value : (k : List ℕ) (w x : Tree) (es : Children) → child k es ≡ Some x → PutsChild k w es (set_value (is_named k) es w)
puts-set_value k w x [] h l = absurd (none-some x h)
puts-set_value k w x (e ∷ es) h l = grind (arith, puts-set_value k w x es, same_name, same-sym)

pub puts-insert : (key : Key) (w : Tree) (es : Children) → PutsChild (cow_str_bytes key.name) w es (insert_entry key_cmp es key w)
puts-insert key w [] l = ap (λ b. cond b (Some w) None) (same-sym l (cow_str_bytes key.name))
puts-insert key w (e ∷ es) l = grind (arith, puts-insert key w es, same_name, same-sym)

-- ---- what is inserted

-- the child with a name is another one
pub puts-below : (a b : Node-F Tree) (k : List ℕ) (w : Tree) → b.value ≡ a.value → PutsChild k w a.below.entries b.below.entries
    → PutsBelow k (holds w) (holds (roll-Node a)) (holds (roll-Node b))
puts-below a b k w value puts = (
  λ names. grind (arith, nat_tests, holds-below b k names, same-self k, puts k),
  holds-here b ∙ value ∙ sym (holds-here a),
  λ l rest ne. grind (arith, nat_tests, same_name k l, holds-below a l rest, holds-below b l rest, puts l),
)

-- what is inserted into a child is inserted under its name
pub puts-child : (k : List ℕ) (names : List (List ℕ)) (first : Span) (x w old new : Holds) → ((rest : List (List ℕ)) → old (k ∷ rest) ≡ x rest)
    → PutsBelow k w old new → Puts names first x w → Puts (k ∷ names) first old new
puts-child k names first x w old new was (under_k, here, beside) (at, apart) =
    (under_k names ∙ at ∙ ap (λ o. Some (unwrap_or o first)) (sym (was names)), others)
  where
    others : (other : List (List ℕ)) → (other ≡ k ∷ names → ⊥) → new other ≡ old other
    others [] ne = here
    others (l ∷ rest) ne = grind (arith, same_name k l, same-self, under_k rest, apart rest, was rest, beside l rest)

-- a value where there was none
pub puts-here : (x : Tree) (b : Node-F Tree) (first : Span) → b.value ≡ Some first → b.below.entries ≡ (out-Node x).below.entries → holds x [] ≡ None → Puts [] first (holds x) (holds (roll-Node b))
puts-here x b first value entries none = (holds-here b ∙ value ∙ ap (λ o. Some (unwrap_or o first)) (sym none), others)
  where
    others : (other : List (List ℕ)) → (other ≡ [] → ⊥) → holds (roll-Node b) other ≡ holds x other
    others [] ne = absurd (ne refl)
    others (l ∷ rest) ne = holds-below b l rest ∙ ap (λ es. below (option_map holds (child l es)) rest) entries ∙ sym (holds-below (out-Node x) l rest) ∙ ap (λ n. holds n (l ∷ rest)) (roll-out x)

pub holds-value : (x : Tree) → holds x [] ≡ (out-Node x).value
holds-value x = ap (λ n. holds n []) (sym (roll-out x)) ∙ holds-here (out-Node x)

-- what the tree stores below a name is what the child with that name stores
pub holds-under : (n : Tree) (k : List ℕ) (names : List (List ℕ)) (o : Option Tree) → child k (out-Node n).below.entries ≡ o → holds n (k ∷ names) ≡ below (option_map holds o) names
holds-under n k names o is = ap (λ m. holds m (k ∷ names)) (sym (roll-out n)) ∙ holds-below (out-Node n) k names ∙ ap (λ o. below (option_map holds o) names) is

-- inserts into the child that is found under a name
pub puts-found : (n : Tree) (b : Node-F Tree) (k : List ℕ) (names : List (List ℕ)) (first : Span) (x w : Tree)
    → child k (out-Node n).below.entries ≡ Some x → b.value ≡ (out-Node n).value → b.below.entries ≡ set_value (is_named k) (out-Node n).below.entries w
    → Puts names first (holds x) (holds w) → Puts (k ∷ names) first (holds n) (holds (roll-Node b))
puts-found n b k names first x w found value written =
    puts-child k names first (holds x) (holds w) (holds n) (holds (roll-Node b)) (λ rest. holds-under n k rest (Some x) found)
    (grind (arith, roll-out n, puts-below (out-Node n) b k w value, puts-set_value k w x (out-Node n).below.entries found))

-- inserts a new child under a name that is missing
pub puts-missing : (n : Tree) (lent : BTreeMap Key Tree) (k : List ℕ) (names : List (List ℕ)) (first : Span) (fresh w new : Holds)
    → lent ≡ (out-Node n).below → child k (out-Node n).below.entries ≡ None → fresh ≡ no_spans → Puts names first fresh w
    → PutsBelow k w (holds (roll-Node (record { value = (out-Node n).value; below = lent }))) new → Puts (k ∷ names) first (holds n) new
puts-missing n lent k names first fresh w new kept missing none h below =
    puts-child k names first fresh w (holds n) new (λ rest. grind (arith, holds-under n k rest None missing)) (grind (arith, roll-out n)) h

-- a child under the name of a key
pub puts-key : (n : Tree) (b : Node-F Tree) (k : List ℕ) (key : Key) (w : Tree) → cow_str_bytes key.name ≡ k → b.value ≡ (out-Node n).value
    → b.below.entries ≡ insert_entry key_cmp (out-Node n).below.entries key w → PutsBelow k (holds w) (holds n) (holds (roll-Node b))
puts-key n b k key w is value written = grind (arith, roll-out n, puts-below (out-Node n) b k w value, puts-insert key w (out-Node n).below.entries)

-- ---- look-ups

-- ---- tests

pub none_is : (o : Option Span) → is_some o ≡ false → o ≡ None
none_is o h = grind (arith, false≢true)

pub puts-full : (x : Tree) (first : Span) (o : Option Span) → (out-Node x).value ≡ o → is_some o ≡ true → Puts [] first (holds x) (holds x)
puts-full x first o is h = grind (arith, false≢true, holds-value)

-- the parts of a key, beginning with the one at hand
pub parts-front : (xs : List Key) (key d last : Key) → 1 ≤ length xs → key ≡ get_or xs 0 d
    → part_names (map simple_key xs ++ (simple_key last ∷ [])) ≡ cow_str_bytes key.name ∷ part_names (map simple_key (take (length xs - 1) (drop 1 xs)) ++ (simple_key last ∷ []))
parts-front xs key d last some same = grind (arith, nat_tests, common_steps)

pub parts-first : (xs : List Key) (key d : Key) → 1 ≤ length xs → key ≡ get_or xs 0 d
    → map simple_key xs ≡ simple_key key ∷ map simple_key (take (length xs - 1) (drop 1 xs))
parts-first xs key d some same = grind (arith, nat_tests, common_steps)

-- ---- the outermost value

-- the first part leads to a child, or there is none
crosses : (n : Tree) (p : SimpleKey) (ps : List SimpleKey) (last : SimpleKey) (o : Option Tree) → child p.name (out-Node n).below.entries ≡ o
    → crossed (holds n) (p ∷ (ps ++ (last ∷ []))) ≡ option_or (option_map (λ first. (p.span.start, first)) (below (option_map holds o) [])) (crossed (below (option_map holds o)) (ps ++ (last ∷ [])))
crosses n p ps last o is =
    crossed_more (holds n) p ps last
    ∙ ap (λ (f : Holds). option_or (option_map (λ first. (p.span.start, first)) (f [])) (crossed f (ps ++ (last ∷ [])))) (fun_ext (λ names. holds-under n p.name names o is))

pub finds-missing : (n : Tree) (p : SimpleKey) (ps : List SimpleKey) (last : SimpleKey) → child p.name (out-Node n).below.entries ≡ None → None ≡ crossed (holds n) (p ∷ (ps ++ (last ∷ [])))
finds-missing n p ps last missing = sym (crosses n p ps last None missing ∙ crossed_none no_spans (ps ++ (last ∷ [])) (length (ps ++ (last ∷ []))) (λ names l. refl) (omega arith))

pub finds-here : (n : Tree) (p : SimpleKey) (ps : List SimpleKey) (last : SimpleKey) (x : Tree) (first : Span) → child p.name (out-Node n).below.entries ≡ Some x → (out-Node x).value ≡ Some first
    → Some (p.span.start, first) ≡ crossed (holds n) (p ∷ (ps ++ (last ∷ [])))
finds-here n p ps last x first found value = sym (crosses n p ps last (Some x) found ∙ rw (holds-value x ∙ value))

pub finds-below : (n : Tree) (p : SimpleKey) (ps : List SimpleKey) (last : SimpleKey) (x : Tree) → child p.name (out-Node n).below.entries ≡ Some x → (out-Node x).value ≡ None
    → crossed (holds x) (ps ++ (last ∷ [])) ≡ crossed (holds n) (p ∷ (ps ++ (last ∷ [])))
finds-below n p ps last x found value = sym (crosses n p ps last (Some x) found ∙ rw (holds-value x ∙ value))
