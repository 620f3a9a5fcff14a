-- Maps by key, after an entry has been inserted.
use Rattle.toml_span_lex.proofs.Common.{◌≡◌, ℕ, Bool, true, false, cond, List, [], ◌∷◌, Option, Some, None, option_map, Ordering, Less, Equal, Greater, match_ordering, is_eq, nat_cmp, refl, sym, ap, ◌∙◌, insert_entry, slice_cmp, cow_str_bytes, lookup, lookup_entry, lookup_key, bytes_eq, is_eq-slice_cmp, none-some, arith, nat_tests, common_steps}
use Rattle.toml_span_lex.specs.declared.key.Key.{Key}
use Rattle.toml_span_read.proofs.EarlierTree.{key_cmp, same_name, same-sym}
use Rattle.toml_span_lex.specs.Key.{is_named}

-- an entry is inserted first, at an equal key, or after the first one
pub insert_by : {X : Type 0} (P : List (Key × X) → Type 0) (k : Key) (v : X) (e : Key × X) (es : List (Key × X)) → (key_cmp k e.0 ≡ Less → P ((k, v) ∷ e ∷ es))
    → (key_cmp k e.0 ≡ Equal → P ((e.0, v) ∷ es))
    → (key_cmp k e.0 ≡ Greater → P (e ∷ insert_entry key_cmp es k v)) → P (insert_entry key_cmp (e ∷ es) k v)
insert_by {X} P k v e es less tie more = go (key_cmp k e.0) refl
  where
    go : (o : Ordering) → key_cmp k e.0 ≡ o → P (match_ordering o ((k, v) ∷ e ∷ es) ((e.0, v) ∷ es) (e ∷ insert_entry key_cmp es k v))
    go Less is = less is
    go Equal is = tie is
    go Greater is = more is

pub named-by : (l : List ℕ) (k : Key) → is_named l k ≡ bytes_eq (cow_str_bytes k.name) l
named-by l k = same-sym l (cow_str_bytes k.name) ∙ is_eq-slice_cmp (cow_str_bytes k.name) l

module _ {X : Type 0} where
  -- what is found in a map after `insert`: the value under the key, or under an equal key that the map had
  pub found-insert : (key : Key) (w : X) (l : List ℕ) (es : List (Key × X))
      → (k : Key) × (lookup_entry (is_named l) (insert_entry key_cmp es key w) ≡ cond (is_named l key) (Some (k, w)) (lookup_entry (is_named l) es)) × (lookup_entry (is_named (cow_str_bytes key.name)) es ≡ None → k ≡ key)
  found-insert key w l [] = (key, refl, λ free. refl)
  found-insert key w l (e ∷ es) =
      insert_by
      (λ made. (k : Key) × (lookup_entry (is_named l) made ≡ cond (is_named l key) (Some (k, w)) (lookup_entry (is_named l) (e ∷ es))) × (lookup_entry (is_named (cow_str_bytes key.name)) (e ∷ es) ≡ None → k ≡ key))
      key w e es (λ less. (key, refl, λ free. refl))
      (λ tie.
      let here : is_named l e.0 ≡ is_named l key = ap (λ n. is_eq (slice_cmp nat_cmp l n)) (sym (same_name (cow_str_bytes key.name) (cow_str_bytes e.0.name) (ap is_eq tie))) in
      rw here (e.0, twice (is_named l key) (Some (e.0, w)) (Some e) (lookup_entry (is_named l) es), λ free. absurd (none-some e (sym (rw tie at free)))))
      (λ more. let rest = found-insert key w l es in rw more (rest.0, ap (cond (is_named l e.0) (Some e)) rest.1 ∙ later (is_named l key) refl rest.0 more, rest.2))
    where
      twice : (b : Bool) (x y z : Option (Key × X)) → cond b x z ≡ cond b x (cond b y z)
      twice true x y z = refl
      twice false x y z = refl

      later : (b : Bool) → is_named l key ≡ b → (k : Key) → key_cmp key e.0 ≡ Greater
          → cond (is_named l e.0) (Some e) (cond b (Some (k, w)) (lookup_entry (is_named l) es)) ≡ cond b (Some (k, w)) (cond (is_named l e.0) (Some e) (lookup_entry (is_named l) es))
      later true at k more = let apart : is_named l e.0 ≡ false = rw (same_name l (cow_str_bytes key.name) at) (ap is_eq more) in rw apart
      later false at k more = refl

  -- a value is found where its entry is
  pub value-of : (test : Key → Bool) (es : List (Key × X)) → lookup test es ≡ option_map (λ e. e.1) (lookup_entry test es)
  value-of test [] = refl
  value-of test (e ∷ es) = grind (arith, nat_tests, common_steps, value-of test es)

  pub puts-insert : (key : Key) (w : X) (es : List (Key × X)) (l : List ℕ) → lookup (is_named l) (insert_entry key_cmp es key w) ≡ cond (bytes_eq (cow_str_bytes key.name) l) (Some w) (lookup (is_named l) es)
  puts-insert key w es l = let found = found-insert key w l es in grind (arith, nat_tests, common_steps, value-of, named-by)

  -- if the name was free, the map has the key with its value
  pub holds-insert : (key : Key) (w : X) (es : List (Key × X)) → lookup_entry (is_named (cow_str_bytes key.name)) es ≡ None
      → (l : List ℕ) → lookup_entry (is_named l) (insert_entry key_cmp es key w) ≡ cond (bytes_eq (cow_str_bytes key.name) l) (Some (key, w)) (lookup_entry (is_named l) es)
  holds-insert key w es free l = let found = found-insert key w l es in grind (arith, nat_tests, common_steps, named-by)

  pub entry-missing : (k : List ℕ) (es : List (Key × X)) → lookup (is_named k) es ≡ None → lookup_entry (is_named k) es ≡ None
  entry-missing k [] h = refl
  entry-missing k (e ∷ es) h = grind (arith, nat_tests, common_steps, entry-missing k es)

  -- an entry is its key and its value
  pub entry-found : (k : List ℕ) (es : List (Key × X)) (e : Key × X) → lookup_key (is_named k) es ≡ Some e.0 → lookup (is_named k) es ≡ Some e.1 → lookup_entry (is_named k) es ≡ Some e
  entry-found k [] e h g = absurd (none-some e.0 h)
  entry-found k (f ∷ es) e h g = grind (arith, nat_tests, common_steps, entry-found k es e)
