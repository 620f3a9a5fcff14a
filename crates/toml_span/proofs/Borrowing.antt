-- The strings and keys in the tree under construction are borrowed like those that are put into it, and these as they
-- were read.
use Rattle.std.specs.Option.{option_or}
use Rattle.toml_span_lex.proofs.Common.{◌≡◌, ℕ, zero, suc, Bool, List, [], ◌∷◌, ◌++◌, map, Option, Some, None, is_eq, rules, inl, inr, refl, sym, ap, ◌∙◌, subst, BTreeMap, ◌-◌, ◌<◌, ◌≤◌, length, take, drop, set, get_or, take_all, Result, Ok, arith, OnOk, insert_entry, keys_of, box_value, cow_str_bytes, IsBorrowedStr, Box, lookup, lookup_entry, cases_Bool, false≢true, none-some, same_Some, IfSome, IsErrAnd, nat_tests, common_steps}
use Rattle.toml_span_lex.specs.declared.key.Key.{Key}
use Rattle.toml_span_lex.specs.declared.span.Span.{Span}
use Rattle.toml_span_tree.specs.declared.value.Value.{Value}
use Rattle.toml_span_read.proofs.EarlierTree.{key_cmp}
use Rattle.toml_span_read.proofs.BorrowLemmas.{all_append, all_front, all_after, assignment_written_is}
use Rattle.toml_span.specs.declared.branch.Branch.{Branch, fold-Branch}
use Rattle.toml_span.specs.declared.branch.Branch.TheOpen.{Branch-F}
use Rattle.toml_span.specs.declared.branch.Branch.TheViews.{roll-Branch, out-Branch}
use Rattle.toml_span.specs.declared.branch.Branch.TheFolds.{fold-roll-Branch}
use Rattle.toml_span.specs.declared.claims.ClaimInfo.{ClaimInfo}
use Rattle.toml_span.specs.Borrowed.{StringOrKey, IsBorrowedRight, AreBorrowedRight}
use Rattle.toml_span.specs.code.Borrowed.{Contents, node_step, named_strings, name_span, own_held, branch_strings, value_strings, KeepsBorrows, KeepsName, IsWrittenAt}
use Rattle.toml_span.specs.code.ClaimInfos.{PlaceError, remember}
use Rattle.toml_span.specs.code.Tree.{entries, infos, IsFresh}
use Rattle.toml_span_lex.specs.Key.{is_named}
use Rattle.toml_span.proofs.Claimed.{remember-cases}
use Rattle.toml_span.proofs.KeyMaps.{insert_by}
use Rattle.toml_span.proofs.Nodes.{out-roll, roll-out}
use Rattle.toml_span.proofs.Placed.{with_tables}
use Rattle.toml_span_read.specs.declared.section.Section.{Section}
use Rattle.toml_span_read.specs.declared.value.Assignment.{Assignment}
use Rattle.toml_span_read.specs.Borrowed.{Written, IsWrittenRight, AreWrittenRight, joined, key_written, keys_written, written, assignment_written, assignments_written, section_written}

-- ---- one level at a time

abbrev contents : Branch → Contents
contents = fold-Branch Contents node_step

-- a branch with its name, several, values with their keys, and entries
abbrev pub box_strings : Key × Box Branch → List StringOrKey
box_strings e = (e.0.name, name_span (infos (box_value e.1))) ∷ branch_strings (box_value e.1)

abbrev pub boxes_strings : List (Key × Box Branch) → List StringOrKey
boxes_strings es = joined (map box_strings es)

abbrev pub values_strings : List (Key × Value) → List StringOrKey
values_strings es = joined (map value_strings es)

abbrev pub entries_of : List Branch → List StringOrKey
entries_of ns = joined (map branch_strings ns)

name_is : (n : Branch) → (contents n).0 ≡ name_span (infos n)
name_is n = ap (λ x. (contents x).0) (sym (roll-out n)) ∙ ap (λ (x : Contents). x.0) (fold-roll-Branch Contents node_step (out-Branch n))

boxes_map : (f : Key × Box Branch → Key × Box Contents) → ((e : Key × Box Branch) → (f e).0 ≡ e.0) → ((e : Key × Box Branch) → box_value (f e).1 ≡ contents (box_value e.1)) → (es : List (Key × Box Branch))
    → joined (map named_strings (map f es)) ≡ boxes_strings es
boxes_map f names boxes [] = refl
boxes_map f names boxes (e ∷ es) = rw (names e, boxes e, name_is (box_value e.1), boxes_map f names boxes es) refl

entries_map : (ns : List Branch) → joined (map (λ x. x.1) (map contents ns)) ≡ entries_of ns
entries_map [] = refl
entries_map (n ∷ ns) = ap (λ l. branch_strings n ++ l) (entries_map ns)

pub branch_strings-roll : (b : Branch-F Branch) → branch_strings (roll-Branch b) ≡ values_strings b.values.entries ++ (boxes_strings b.tables.entries ++ entries_of b.entries.items)
branch_strings-roll b =
    ap (λ (x : Contents). x.1) (fold-roll-Branch Contents node_step b)
    ∙ ap (λ z. values_strings b.values.entries ++ (z ++ joined (map (λ x. x.1) (map contents b.entries.items)))) (boxes_map _ (λ e. refl) (λ e. refl) b.tables.entries)
    ∙ ap (λ z. values_strings b.values.entries ++ (boxes_strings b.tables.entries ++ z)) (entries_map b.entries.items)

pub strings_is : (n : Branch) → branch_strings n ≡ values_strings (out-Branch n).values.entries ++ (boxes_strings (out-Branch n).tables.entries ++ entries_of (out-Branch n).entries.items)
strings_is n = ap branch_strings (sym (roll-out n)) ∙ branch_strings-roll (out-Branch n)

-- a fresh branch has no strings and keys
pub fresh-bare : (n : Branch) → IsFresh n → branch_strings n ≡ []
fresh-bare n fresh = strings_is n ∙ rw (fresh.no_values, fresh.no_tables, fresh.no_entries)

infos-roll : (b : Branch-F Branch) → infos (roll-Branch b) ≡ b.infos.items
infos-roll b = ap (λ (n : Branch-F Branch). n.infos.items) (out-roll b)

-- ---- results

pub ok_map : {A E : Type 0} (r : Result A E) (P Q : Type 0) → (P → Q) → OnOk r P → OnOk r Q
ok_map r P Q f h = grind (arith, nat_tests, common_steps)

pub err_ok : {A E : Type 0} (r : Result A E) (Q : E → Type 0) (P : Type 0) → IsErrAnd r Q → OnOk r P
err_ok r Q P h = grind (arith, nat_tests, common_steps)

-- ---- where names are written

first-remember : (ms : List ClaimInfo) (m : ClaimInfo) → name_span (remember ms m) ≡ option_or (name_span ms) (Some m.key)
first-remember [] m = refl
first-remember (x ∷ ms) m = grind (arith, nat_tests, common_steps, remember-cases)

-- of a branch that is claimed once more
written-remember : (next at : Span) (n : Branch) (m : ClaimInfo) → m.key ≡ next → IsWrittenAt next at n → name_span (remember (infos n) m) ≡ Some at
written-remember next at n m key (inl is) = first-remember (infos n) m ∙ ap (λ o. option_or o (Some m.key)) is
written-remember next at n m key (inr (fresh, same)) = first-remember (infos n) m ∙ ap (λ ms. option_or (name_span ms) (Some m.key)) fresh.no_infos ∙ ap (λ s. Some s) (key ∙ same)

-- ---- parts and wholes

module _ (text : List ℕ) where
  abbrev pub Borrows : StringOrKey → Type 0
  Borrows = IsBorrowedRight text

  pub of_node : (n : Branch) → AreBorrowedRight text (branch_strings n)
      → AreBorrowedRight text (values_strings (out-Branch n).values.entries) × AreBorrowedRight text (boxes_strings (out-Branch n).tables.entries) × AreBorrowedRight text (entries_of (out-Branch n).entries.items)
  of_node n h = let all = rw (strings_is n) at h in search (rules, all_front, all_after)

  node_of : (b : Branch-F Branch) → AreBorrowedRight text (values_strings b.values.entries) → AreBorrowedRight text (boxes_strings b.tables.entries) → AreBorrowedRight text (entries_of b.entries.items)
      → AreBorrowedRight text (branch_strings (roll-Branch b))
  node_of b values tables entries = rw (branch_strings-roll b) (search (rules, all_append))

  -- ---- entries by name, each with these strings and keys

  module _ (X : Type 0) (g : Key × X → List StringOrKey) where
    abbrev Right : List (Key × X) → Type 0
    Right es = AreBorrowedRight text (joined (map g es))

    pub entry_right : (test : Key → Bool) (es : List (Key × X)) → Right es → IfSome (lookup_entry test es) (λ e. AreBorrowedRight text (g e))
    entry_right test [] h = tt
    entry_right test (e ∷ es) h = elim (cases_Bool (test e.0)) [
      | inl here ↦ rw here (all_front Borrows (g e) (joined (map g es)) h)
      | inr off ↦ rw off (entry_right test es (all_after Borrows (g e) (joined (map g es)) h))
    ]

    -- inserted at a name that is free
    pub insert_new : (k : Key) (v : X) (es : List (Key × X)) → lookup_entry (is_named (cow_str_bytes k.name)) es ≡ None → AreBorrowedRight text (g (k, v)) → Right es → Right (insert_entry key_cmp es k v)
    insert_new k v [] free here h = all_append Borrows (g (k, v)) [] here tt
    insert_new k v (e ∷ es) free here h = elim (cases_Bool (is_named (cow_str_bytes k.name) e.0)) [
      | inl there ↦ absurd (none-some e (sym free ∙ rw there))
      | inr apart ↦
          let rest = insert_new k v es (rw apart at free) here (all_after Borrows (g e) (joined (map g es)) h) in
          insert_by Right k v e es (λ less. all_append Borrows (g (k, v)) (joined (map g (e ∷ es))) here h) (λ tie. absurd (false≢true (sym apart ∙ ap is_eq tie)))
          (λ more. all_append Borrows (g e) (joined (map g (insert_entry key_cmp es k v))) (all_front Borrows (g e) (joined (map g es)) h) rest)
    ]

    -- inserted in place of another one
    pub insert_again : (k : Key) (x v : X) (es : List (Key × X)) → lookup (is_named (cow_str_bytes k.name)) es ≡ Some x → keys_of (insert_entry key_cmp es k v) ≡ keys_of es
        → ((l : Key) → AreBorrowedRight text (g (l, x)) → AreBorrowedRight text (g (l, v))) → Right es → Right (insert_entry key_cmp es k v)
    insert_again k x v [] found same next h = absurd (none-some x found)
    insert_again k x v (e ∷ es) found same next h =
        insert_by (λ made. keys_of made ≡ keys_of (e ∷ es) → Right made) k v e es (λ less same. absurd (omega (arith, ap length same)))
        (λ tie same.
        let is : e.1 ≡ x = same_Some e.1 x (rw tie at found) in
        all_append Borrows (g (e.0, v)) (joined (map g es)) (next e.0 (subst (λ y. AreBorrowedRight text (g (e.0, y))) is (all_front Borrows (g e) (joined (map g es)) h))) (all_after Borrows (g e) (joined (map g es)) h))
        (λ more same.
        all_append Borrows (g e) (joined (map g (insert_entry key_cmp es k v))) (all_front Borrows (g e) (joined (map g es)) h)
        (insert_again k x v es (rw more at found) (cc) next (all_after Borrows (g e) (joined (map g es)) h))) same

  -- a branch among those by name
  box_found : (test : Key → Bool) (x : Box Branch) (es : List (Key × Box Branch)) → lookup test es ≡ Some x → AreBorrowedRight text (boxes_strings es) → AreBorrowedRight text (branch_strings (box_value x))
  box_found test x [] found h = absurd (none-some x found)
  box_found test x (e ∷ es) found h = grind (arith, nat_tests, common_steps, all_front, all_after, box_found test x es)

-- ---- what was read

module _ (text : List ℕ) where
  pub front_right : (keys : List Key) (first d : Key) → 1 ≤ length keys → first ≡ get_or keys 0 d → AreWrittenRight text (keys_written keys)
      → IsWrittenRight text (key_written first) × AreWrittenRight text (keys_written (take (length keys - 1) (drop 1 keys)))
  front_right [] first d some same h = absurd (omega arith)
  front_right (key ∷ keys) first d some same h = grind (arith, nat_tests, common_steps, take_all)

  pub assignment_right : (a : Assignment) → AreWrittenRight text (assignment_written a)
      → AreWrittenRight text (keys_written a.parts.inner.items) × IsWrittenRight text (key_written a.parts.last) × AreWrittenRight text (written a.value)
  assignment_right a h =
      let both = rw (assignment_written_is a) at h in
      let last : AreWrittenRight text (key_written a.parts.last ∷ []) = search (rules, all_front, all_after) in
      (search (rules, all_front), last.0, search (rules, all_after))

  -- the first, and those after it
  pub first_right : {A : Type 0} (f : A → List Written) (old new : List A) (x : A) → old ≡ x ∷ new → AreWrittenRight text (joined (map f old)) → AreWrittenRight text (f x) × AreWrittenRight text (joined (map f new))
  first_right f old new x is h = let all : AreWrittenRight text (f x ++ joined (map f new)) = rw is at h in search (rules, all_front, all_after)

  pub section_right : (s : Section) → AreWrittenRight text (section_written s) → AreWrittenRight text (keys_written s.header.items) × AreWrittenRight text (assignments_written s.assignments.items)
  section_right s h = search (rules, all_front, all_after)

  -- a clone of a key is borrowed correctly if the key is
  clone_right : (k c : Key) → cow_str_bytes c.name ≡ cow_str_bytes k.name → (IsBorrowedStr k.name → IsBorrowedStr c.name) → (IsBorrowedStr c.name → IsBorrowedStr k.name) → IsWrittenRight text (key_written k)
      → IsBorrowedRight text (c.name, Some k.span)
  clone_right k c same forth back h = grind (arith, nat_tests, common_steps)

  -- ---- nodes

  abbrev Kept : Branch → Branch → Type 0
  Kept old new = AreBorrowedRight text (branch_strings new) × (infos new ≡ infos old)

  abbrev KeptName : Span → Branch → Branch → Type 0
  KeptName next old new = AreBorrowedRight text (branch_strings new) × ((at : Span) → IsWrittenAt next at old → name_span (infos new) ≡ Some at)

  pub keeps_same : (a n new : Branch) (r : Result (Unit {0}) PlaceError) → a ≡ n → KeepsBorrows text a new r → KeepsBorrows text n new r
  keeps_same a n new r is keep = subst (λ x. KeepsBorrows text x new r) is keep

  pub names_same : (next : Span) (a n new : Branch) (r : Result (Unit {0}) PlaceError) → a ≡ n → KeepsName text next a new r → KeepsName text next n new r
  names_same next a n new r is keep = subst (λ x. KeepsName text next x new r) is keep

  -- a branch that is claimed by a key
  pub keeps_marked : (n : Branch) (b : Branch-F Branch) (m : ClaimInfo) (next : Span) (new : Branch) (r : Result (Unit {0}) PlaceError) → m.key ≡ next → b.infos.items ≡ remember (infos n) m
      → b.values ≡ (out-Branch n).values → b.tables ≡ (out-Branch n).tables → b.entries.items ≡ entries n → KeepsBorrows text (roll-Branch b) new r → KeepsName text next n new r
  keeps_marked n b m next new r key claims values tables items keep h =
      ok_map r (Kept (roll-Branch b) new) (KeptName next n new) (λ k. (k.0, λ at is. ap name_span (k.1 ∙ infos-roll b ∙ claims) ∙ written-remember next at n m key is)) (keep (rw (branch_strings-roll b, values, tables, items, ← strings_is n) h))

  -- an array of tables is not claimed again
  pub keeps_array : (next : Span) (n new : Branch) (r : Result (Unit {0}) PlaceError) → (entries n ≡ [] → ⊥) → KeepsBorrows text n new r → KeepsName text next n new r
  keeps_array next n new r some keep h = ok_map r (Kept n new) (KeptName next n new) (λ k. (k.0, λ at is. ap name_span k.1 ∙ stays at is)) (keep h)
    where
      stays : (at : Span) → IsWrittenAt next at n → name_span (infos n) ≡ Some at
      stays at (inl is) = is
      stays at (inr fresh) = absurd (some fresh.0.no_entries)

  -- a branch with a name that exists
  pub keeps_found : (n : Branch) (tables made : BTreeMap Key (Box Branch)) (c : Key) (x w : Box Branch) (next : Span) (r : Result (Unit {0}) PlaceError)
      → made.entries ≡ insert_entry key_cmp (out-Branch n).tables.entries c w → tables ≡ made → lookup (is_named (cow_str_bytes c.name)) (out-Branch n).tables.entries ≡ Some x
      → keys_of made.entries ≡ keys_of (out-Branch n).tables.entries → KeepsName text next (box_value x) (box_value w) r → KeepsBorrows text n (with_tables n tables) r
  keeps_found n tables made c x w next r inserted is found same keep h =
      let inside = of_node text n h in
      ok_map r (KeptName next (box_value x) (box_value w)) (Kept n (with_tables n tables))
      (λ k. (
        node_of text (record { infos = (out-Branch n).infos; values = (out-Branch n).values; tables = tables; entries = (out-Branch n).entries }) inside.0
            (rw (is, inserted) (insert_again text (Box Branch) box_strings c x w (out-Branch n).tables.entries found (ap keys_of (sym inserted) ∙ same)
            (λ l right. (named l (name_span (infos (box_value x))) refl right.0 k.1, k.0)) inside.1)) inside.2,
        infos-roll (record { infos = (out-Branch n).infos; values = (out-Branch n).values; tables = tables; entries = (out-Branch n).entries }),
      ))
      (keep (box_found text _ x (out-Branch n).tables.entries found inside.1))
    where
      named : (l : Key) (o : Option Span) → name_span (infos (box_value x)) ≡ o → IsBorrowedRight text (l.name, o) → ((at : Span) → IsWrittenAt next at (box_value x) → name_span (infos (box_value w)) ≡ Some at)
          → IsBorrowedRight text (l.name, name_span (infos (box_value w)))
      named l None is right stays = absurd right
      named l (Some at) is right stays = rw (stays at (inl is)) right

  -- a branch with a new name
  pub keeps_new : (n : Branch) (tables made : BTreeMap Key (Box Branch)) (k c : Key) (x : Branch) (w : Box Branch) (r : Result (Unit {0}) PlaceError)
      → cow_str_bytes c.name ≡ cow_str_bytes k.name → (IsBorrowedStr k.name → IsBorrowedStr c.name) → (IsBorrowedStr c.name → IsBorrowedStr k.name)
      → made.entries ≡ insert_entry key_cmp (out-Branch n).tables.entries c w → tables ≡ made → lookup_entry (is_named (cow_str_bytes c.name)) (out-Branch n).tables.entries ≡ None
      → IsFresh x → IsWrittenRight text (key_written k) → KeepsName text k.span x (box_value w) r → KeepsBorrows text n (with_tables n tables) r
  keeps_new n tables made k c x w r same forth back inserted is free fresh key keep h =
      let inside = of_node text n h in
      ok_map r (KeptName k.span x (box_value w)) (Kept n (with_tables n tables))
      (λ kept.
      let here : AreBorrowedRight text (box_strings (c, w)) = (rw (kept.1 k.span (inr (fresh, refl))) (clone_right k c same forth back key), kept.0) in (
        node_of text (record { infos = (out-Branch n).infos; values = (out-Branch n).values; tables = tables; entries = (out-Branch n).entries }) inside.0
            (rw (is, inserted) (insert_new text (Box Branch) box_strings c w (out-Branch n).tables.entries free here inside.1)) inside.2,
        infos-roll (record { infos = (out-Branch n).infos; values = (out-Branch n).values; tables = tables; entries = (out-Branch n).entries }),
      ))
      (keep (rw (fresh-bare x fresh) tt))

  pub keeps_value : (n : Branch) (b : Branch-F Branch) (k : Key) (v : Value) → lookup_entry (is_named (cow_str_bytes k.name)) (out-Branch n).values.entries ≡ None
      → b.infos.items ≡ infos n → b.tables ≡ (out-Branch n).tables → b.entries.items ≡ entries n → b.values.entries ≡ insert_entry key_cmp (out-Branch n).values.entries k v
      → IsWrittenRight text (key_written k) → ((at : Option Span) → AreBorrowedRight text (own_held at v)) → AreBorrowedRight text (branch_strings n)
      → AreBorrowedRight text (branch_strings (roll-Branch b)) × (infos (roll-Branch b) ≡ infos n)
  keeps_value n b k v free claims tables items inserted key right h =
      let inside = of_node text n h in (
        rw (branch_strings-roll b, tables, items, inserted)
            (all_append (Borrows text) _ _ (insert_new text Value value_strings k v (out-Branch n).values.entries free (key, right (Some k.span)) inside.0) (search (rules, all_append))),
        infos-roll b ∙ claims,
      )

  -- ---- entries

  abbrev AllRight : List Branch → Type 0
  AllRight ns = AreBorrowedRight text (entries_of ns)

  entry_at : (m : ℕ) (ns : List Branch) (x : Branch) → m < length ns → x ≡ get_or ns m x → AllRight ns → AreBorrowedRight text (branch_strings x)
  entry_at m [] x within is h = absurd (omega arith)
  entry_at zero (n ∷ ns) x within is h = grind (arith, common_steps, all_front)
  entry_at (suc m) (n ∷ ns) x within is h = grind (arith, common_steps, all_after, entry_at m ns x)

  entries_set : (m : ℕ) (ns : List Branch) (w : Branch) → AreBorrowedRight text (branch_strings w) → AllRight ns → AllRight (set ns m w)
  entries_set m [] w right h = h
  entries_set zero (n ∷ ns) w right h = search (rules, all_append, all_after)
  entries_set (suc m) (n ∷ ns) w right h = search (rules, all_append, all_front, all_after, entries_set m ns w)

  entries_push : (ns : List Branch) (w : Branch) → AreBorrowedRight text (branch_strings w) → AllRight ns → AllRight (ns ++ (w ∷ []))
  entries_push [] w right h = search (rules, all_append)
  entries_push (n ∷ ns) w right h = search (rules, all_append, all_front, all_after, entries_push ns w)

  pub keeps_entry : (next : Span) (n : Branch) (b : Branch-F Branch) (m : ℕ) (x w : Branch) (r : Result (Unit {0}) PlaceError) → b.infos.items ≡ infos n → b.values ≡ (out-Branch n).values → b.tables ≡ (out-Branch n).tables
      → b.entries.items ≡ set (entries n) m w → m < length (entries n) → x ≡ get_or (entries n) m x → KeepsName text next x w r → KeepsName text next n (roll-Branch b) r
  keeps_entry next n b m x w r claims values tables items within is keep =
      keeps_array next n (roll-Branch b) r (λ none. absurd (omega (arith, ap length none)))
      (λ h.
      let inside = of_node text n h in
      ok_map r (KeptName next x w) (Kept n (roll-Branch b)) (λ made. let right = made.0 in (rw (branch_strings-roll b, values, tables, items) (search (rules, all_append, entries_set)), infos-roll b ∙ claims)) (keep (entry_at m (entries n) x within is inside.2)))

  pub keeps_pushed : (next : Span) (n : Branch) (b : Branch-F Branch) (x w : Branch) → IsFresh x → b.infos.items ≡ infos n → b.values ≡ (out-Branch n).values → b.tables ≡ (out-Branch n).tables
      → b.entries.items ≡ entries n ++ (w ∷ []) → KeepsName text next x w (Ok tt) → AreBorrowedRight text (branch_strings n) → AreBorrowedRight text (branch_strings (roll-Branch b)) × (infos (roll-Branch b) ≡ infos n)
  keeps_pushed next n b x w fresh claims values tables items keep h =
      let inside = of_node text n h in
      let made : AreBorrowedRight text (branch_strings w) = (keep (rw (fresh-bare x fresh) tt)).0 in
      (rw (branch_strings-roll b, values, tables, items) (search (rules, all_append, entries_push)), infos-roll b ∙ claims)
