-- One placement after another, and below a step.
use Rattle.toml_span_lex.proofs.Common.{◌≡◌, ℕ, Bool, false, List, [], ◌∷◌, Option, Some, None, option_map, Result, Ok, Err, OnOk, cond, refl, sym, ap, ◌∙◌, subst, inl, inr, box_value, BTreeMap, insert_entry, cow_str_bytes, Box, lookup, IsErrAnd, bytes_eq, bytes_eq-Decides, arith, nat_tests, common_steps}
use Rattle.toml_span_tree.specs.Path.{Path, Step, key, position}
use Rattle.toml_span_tree.specs.Value.{span_of}
use Rattle.toml_span_tree.proofs.Values.{view_is}
use Rattle.toml_span_tree.specs.declared.value.Value.{Value}
use Rattle.toml_span_lex.specs.declared.key.Key.{Key}
use Rattle.toml_span.specs.declared.claims.ClaimInfo.{ClaimInfo}
use Rattle.toml_span.specs.declared.claims.ClaimKind.{ClaimKind}
use Rattle.toml_span.specs.declared.claims.ClaimKind.TheVariants.{ArrayOfTables, Assigned}
use Rattle.toml_span.specs.code.ClaimInfos.{PlaceError, with_name}
use Rattle.toml_span_lex.specs.declared.stop.Stop.TheVariants.{Memory, Fault}
use Rattle.toml_span.specs.declared.branch.Branch.{Branch}
use Rattle.toml_span.specs.declared.branch.Branch.TheViews.{roll-Branch, out-Branch}
use Rattle.toml_span_read.proofs.EarlierTree.{key_cmp}
use Rattle.toml_span.specs.Claims.{Claim, Claims, claimed, followed, pair_info}
use Rattle.toml_span.specs.Clashes.{NamedClash, clash_kind}
use Rattle.toml_span.specs.code.Machine.{OkOrClash, earliest_clash, clash_found, put_all, graft}
use Rattle.toml_span.specs.code.Placing.{Reaches, Places, Passes}
use Rattle.toml_span.specs.code.Relative.{under}
use Rattle.toml_span_read.specs.Paths.{same_step}
use Rattle.toml_span.specs.code.Tree.{infos, entries, child, child_in, closed, closed_infos, cells, counts, is_array_kind, is_entry_kind, IsChild, IsFresh, IsHeld, IsNamed, IsScope, Sound}
use Rattle.toml_span_lex.specs.Key.{is_named}
use Rattle.toml_span.proofs.Grafts.{reported-followed, put_all-followed, reported-under, put_all-under}
use Rattle.toml_span.proofs.KeyMaps.{puts-insert}
use Rattle.toml_span.proofs.Nodes.{Slot, Sets, cells-at, cells-slot, cells-sets, counts-at, counts-named, cells-fresh, counts-fresh, good-child, scope-fresh, scope-named, sets-roll, slot, slot_in, sound-good, sound-shape}

-- ---- results

pub gives-map : {A : Type 0} (r : Result A PlaceError) (o p : Option NamedClash) (P Q : A → Type 0) → p ≡ o → ((x : A) → P x → Q x) → OkOrClash r o P → OkOrClash r p Q
gives-map r o p P Q same more h = grind (arith, nat_tests, common_steps)

pub gives-err : {A B : Type 0} (r : Result B PlaceError) (e : PlaceError) (o p : Option NamedClash) (P : A → Type 0) (Q : B → Type 0)
    → r ≡ Err e → ((t : NamedClash) → o ≡ Some t → p ≡ Some t) → OkOrClash {A = A} (Err e) o P → OkOrClash r p Q
gives-err r e o p P Q is more h = grind (arith, nat_tests, common_steps)

-- the error that `?` returns
pub err-of : {A : Type 0} (r : Result A PlaceError) (e : PlaceError) (Q : PlaceError → Type 0) → IsErrAnd r Q → ((y : PlaceError) → Q y → y ≡ e) → r ≡ Err e
err-of r e Q h k = grind (arith, nat_tests, common_steps)

pub on_ok : {A E : Type 0} (r : Result A E) (P : Type 0) → P → OnOk r P
on_ok r P h = grind (arith, nat_tests, common_steps)

-- ---- one after another

pub reaches-then : (A B C : Branch → Type 0) (old mid new : Branch) (r : Result (Unit {0}) PlaceError) (xs ys : Claims) (c d : Path → ℕ)
    → Reaches A B old mid (Ok tt) xs c → Reaches B C mid new r ys d → Reaches A C old new r (followed xs ys) d
reaches-then A B C old mid new r xs ys c d h g before = grind (arith, nat_tests, common_steps, gives-map, put_all-followed, reported-followed)

-- what is placed below a step, beginning at a branch x, which becomes w
pub reaches-below : (A B C D : Branch → Type 0) (s : Step) (n new x w : Branch) (r : Result (Unit {0}) PlaceError) (cs : Claims) (c d : Path → ℕ)
    → (λ p. cells n (s ∷ p)) ≡ cells x → (A n → C x) → OnOk r (A n → D w → (cells new ≡ graft s (cells n) (cells w)) × (counts w ≡ c → counts new ≡ d) × B new)
    → Reaches C D x w r cs c → Reaches A B n new r (under s cs) d
reaches-below A B C D s n new x w (Ok u) cs c d at start set h before =
    let g = h (start before) in
    let now = set before g.1.2 in (
      reported-under s (cells n) cs ∙ ap (λ f. clash_found f cs) at ∙ g.0,
      (now.0 ∙ ap (graft s (cells n)) (g.1.0 ∙ ap (λ f. put_all f cs) (sym at)) ∙ sym (put_all-under s (cells n) cs), now.1 g.1.1, now.2),
    )
reaches-below A B C D s n new x w (Err (Fault t)) cs c d at start set h before = reported-under s (cells n) cs ∙ ap (λ f. clash_found f cs) at ∙ h (start before)
reaches-below A B C D s n new x w (Err (Memory e)) cs c d at start set h before = tt

-- after an error nothing is stated about the branch and its entries
pub reaches-stops : (A B : Branch → Type 0) (n new other : Branch) (e : PlaceError) (cs : Claims) (c d : Path → ℕ) → Reaches A B n other (Err e) cs c → Reaches A B n new (Err e) cs d
reaches-stops A B n new other e cs c d h = grind (arith, nat_tests, common_steps)

-- ---- below a name

-- what is at a name depends on the name, and so do both parts of a slot
pub cond-same : {A : Type 0} (k l : List ℕ) (f : List ℕ → A) → f l ≡ cond (bytes_eq k l) (f k) (f l)
cond-same k l f = grind (arith, nat_tests, common_steps, bytes_eq-Decides)

pub cond-slot : (b : Bool) (x y : Slot) → (cond b x.0 y.0, cond b x.1 y.1) ≡ cond b x y
cond-slot b x y = grind (arith, nat_tests, common_steps)

-- the branch, with other branches by name
abbrev pub with_tables : Branch → BTreeMap Key (Box Branch) → Branch
with_tables n tables = roll-Branch (record { infos = (out-Branch n).infos; values = (out-Branch n).values; tables = tables; entries = (out-Branch n).entries })

-- inserted into the map, which may have the name
pub sets-entry : (n : Branch) (tables made : BTreeMap Key (Box Branch)) (k : List ℕ) (name : Key) (w : Box Branch) → cow_str_bytes name.name ≡ k
    → made.entries ≡ insert_entry key_cmp (out-Branch n).tables.entries name w → tables ≡ made → Sets (key k) (Some (box_value w), closed k n) n (with_tables n tables)
sets-entry n tables made k name w is written same = sets-roll (key k) (Some (box_value w), closed k n) n (record { infos = (out-Branch n).infos; values = (out-Branch n).values; tables = tables; entries = (out-Branch n).entries }) refl at
  where
    named_now : (l : List ℕ) → child_in l tables ≡ cond (bytes_eq k l) (Some (box_value w)) (child l n)
    named_now l = grind (arith, nat_tests, common_steps, puts-insert)

    at : (t : Step) → slot_in t (record { infos = (out-Branch n).infos; values = (out-Branch n).values; tables = tables; entries = (out-Branch n).entries }) ≡ cond (same_step (key k) t) (Some (box_value w), closed k n) (slot t n)
    at (key l) = (λ i. (named_now l i, cond-same k l (λ l. closed l n) i)) ∙ cond-slot (bytes_eq k l) (Some (box_value w), closed k n) (slot (key l) n)
    at (position i) = refl

-- the branch with a name in a scope
pub held-child : (n x : Branch) (k : List ℕ) → child k n ≡ Some x → IsScope n → (closed k n ≡ None) × IsNamed (infos x) × Sound x
held-child n x k found before = good-child n k x (sound-good n before.0 (key k)) found

-- x is the branch at the name k, or a fresh one if there is none
pub record Starts (n x : Branch) (k : List ℕ) : Type 0 where
  pub shown : (λ p. cells n (key k ∷ p)) ≡ cells x
  pub counted : (λ p. counts n (key k ∷ p)) ≡ counts x
  pub is_open : IsScope n → (closed k n ≡ None) × IsChild x

pub starts-found : (n x : Branch) (k : List ℕ) → child k n ≡ Some x → Starts n x k
starts-found n x k found = record {
  shown = cells-at n (key k) (Some x) found;
  counted = counts-at n (key k) (Some x) found;
  is_open = λ scope. let held = held-child n x k found scope in (held.0, (held.2, inr held.1));
}

pub starts-new : (n x : Branch) (k : List ℕ) → child k n ≡ None → closed k n ≡ None → IsFresh x → Starts n x k
starts-new n x k missing free fresh = record {
  shown = cells-slot n (key k) (None, None) (λ i. (missing i, free i)) ∙ sym (cells-fresh x fresh);
  counted = counts-at n (key k) None missing ∙ sym (counts-fresh x fresh);
  is_open = λ scope. (free, ((scope-fresh x fresh).0, inl fresh));
}

-- what is placed in the branch at a name
pub places-below : (n new x w : Branch) (k : List ℕ) (r : Result (Unit {0}) PlaceError) (cs : (Path → ℕ) → Claims) (c : (Path → ℕ) → Path → ℕ)
    → Starts n x k → Sets (key k) (Some w, closed k n) n new → Passes x w r (cs (counts x)) (c (counts x))
    → Places n new r (under (key k) (cs (λ p. counts n (key k ∷ p)))) (graft (key k) (counts n) (c (λ p. counts n (key k ∷ p))))
places-below n new x w k r cs c start sets h =
    subst (λ f. Places n new r (under (key k) (cs f)) (graft (key k) (counts n) (c f))) (sym start.counted)
    (reaches-below IsScope (λ m. IsScope m × (infos m ≡ infos n)) IsChild IsHeld (key k) n new x w r (cs (counts x)) (c (counts x))
    (graft (key k) (counts n) (c (counts x))) start.shown (λ before. (start.is_open before).1)
    (on_ok r _ (λ before held. (
      cells-sets (key k) (Some w, closed k n) n new sets,
      λ same. counts-named k (Some w, closed k n) n new sets before ∙ ap (graft (key k) (counts n)) same,
      scope-named k (Some w, closed k n) n new sets ((start.is_open before).0, held.1, held.0) before,
    ))) h)

-- ---- a claim that clashes at a name

pub places-refused : (n new : Branch) (k : List ℕ) (r : Result (Unit {0}) PlaceError) (c : Claim) (cs : Claims) (P : Unit {0} → Type 0) (d : Path → ℕ)
    → c.path ≡ [] → (IsScope n → OnOk r ⊥ × OkOrClash r (earliest_clash (cells n (key k ∷ [])).infos c.info c.name) P) → Places n new r (under (key k) (claimed c cs)) d
unfolding clash_found
places-refused n new k (Ok u) c cs P d here h before = absurd (h before).0
places-refused n new k (Err (Fault t)) c cs P d here h before = grind (arith, nat_tests, common_steps, reported-under)
places-refused n new k (Err (Memory e)) c cs P d here h before = tt

-- with a value of this name
pub places-beside : (n new : Branch) (k : List ℕ) (q : Result (Unit {0}) PlaceError) (e : PlaceError) (c : Claim) (cs : Claims) (P : Unit {0} → Type 0) (d : Path → ℕ)
    → child k n ≡ None → c.path ≡ [] → q ≡ Err e → OkOrClash (Err e) (earliest_clash (closed_infos (closed k n)) c.info c.name) P
    → Places n new q (under (key k) (claimed c cs)) d
places-beside n new k q e c cs P d missing here same h =
    rw same (places-refused n new k (Err e) c cs P d here (λ before. (tt, rw (ap (λ f. (f []).infos) (cells-at n (key k) None missing)) h)))

-- ---- what clashes

-- any claim at a name with a value, and that of a table with an array
pub named-clashes : (s : ClaimKind) → is_entry_kind s ≡ false → (clash_kind s Assigned ≡ None → ⊥) × (clash_kind Assigned s ≡ None → ⊥) × (is_array_kind s ≡ false → clash_kind s ArrayOfTables ≡ None → ⊥)
named-clashes s e = grind (arith, nat_tests, common_steps)

-- what clashes with no claim does not clash with the first one
pub met-first : (x m : ClaimInfo) (ms : List ClaimInfo) (name : List ℕ) → earliest_clash (x ∷ ms) m name ≡ None → clash_kind x.kind m.kind ≡ None
met-first x m ms name h = grind (arith, nat_tests, common_steps)

-- what clashes with any array of tables is a claim on a table
pub not-array : (n : Branch) (m : ClaimInfo) (name : List ℕ) → (clash_kind ArrayOfTables m.kind ≡ None → ⊥) → earliest_clash (infos n) m name ≡ None → Sound n → entries n ≡ []
not-array n m name clashes free h = grind (arith, nat_tests, common_steps, met-first, sound-shape)

-- if nothing clashes with it, there is none
pub unclosed : (o : Option (Key × Value)) (m : ClaimInfo) (name : List ℕ) → earliest_clash (closed_infos o) m name ≡ None → is_entry_kind m.kind ≡ false → o ≡ None
unclosed o m name h with_name = grind (arith, nat_tests, common_steps, met-first, named-clashes)

-- two values that are assigned to one name clash
pub assigned_twice : (r : Result (Unit {0}) PlaceError) (a b : ClaimInfo) (name : List ℕ) (Q : Unit {0} → Type 0) (P : Type 0) → a.kind ≡ Assigned → b.kind ≡ Assigned → OkOrClash r (earliest_clash (a ∷ []) b name) Q → OnOk r P
assigned_twice r a b name Q P d e h = grind (arith, nat_tests, common_steps)

-- ---- maps by name

-- the claim of the value at a name
pub infos-found : (o : Option (Key × Value)) (k : Key) (v : Value) (m : ClaimInfo) → o ≡ Some (k, v) → m ≡ pair_info Assigned k.span v.span → closed_infos o ≡ m ∷ []
infos-found o k v m is info = ap closed_infos is ∙ ap (λ s. pair_info Assigned k.span s ∷ []) (ap span_of (view_is v)) ∙ ap (λ x. x ∷ []) (sym info)

-- what looking up a key with the name k says about the branch at k
pub looked : (k : List ℕ) (name : Key) (m : BTreeMap Key (Box Branch)) (o : Option (Box Branch)) → cow_str_bytes name.name ≡ k
    → lookup (is_named (cow_str_bytes name.name)) m.entries ≡ o → option_map box_value (lookup (is_named k) m.entries) ≡ option_map box_value o
looked k name m o same is = ap (λ l. option_map box_value (lookup (is_named l) m.entries)) (sym same) ∙ ap (option_map box_value) is

-- the clash is the same, whatever the type of the result
pub reported : {A B : Type 0} (e : PlaceError) (o : Option NamedClash) (P : A → Type 0) (Q : B → Type 0) → OkOrClash {A = A} (Err e) o P → OkOrClash {A = B} (Err e) o Q
reported e o P Q h = gives-err (Err e) e o o P Q refl (λ t k. k) h
