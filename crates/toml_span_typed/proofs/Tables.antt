-- Entries of a table, and the members that they are seen as.
use Rattle.toml_span_lex.proofs.Common.{common_steps, arith, ◌≡◌, ℕ, List, [], ◌∷◌, length, map, Option, Some, None, option_map, cond, Bool, true, IfSome, Equal, nat_cmp, refl, sym, ap, ◌∙◌, slice_cmp, cow_str_bytes, keys_of, lookup, lookup_entry, lookup_key, remove_entry, is_eq, bytes_eq-Decides, is_eq-slice_cmp}
use Rattle.toml_span_lex.specs.declared.key.Key.{Key}
use Rattle.toml_span_lex.specs.declared.span.Span.{Span}
use Rattle.toml_span_tree.specs.Error.{ErrorContent}
use Rattle.toml_span_tree.specs.Node.{Members, Node, entry_at, member}
use Rattle.toml_span_tree.specs.Value.{is_filled, members_view, view}
use Rattle.toml_span_tree.proofs.Values.{Entry, at_name, entry_at-lookup}
use Rattle.toml_span_typed.specs.TableHelper.{remaining_keys, where_filled, without}

parts_of_entry : (p : Key → Bool) (es : List Entry) (r : Option Entry) → option_map (λ e. e.0) r ≡ lookup_key p es → option_map (λ e. e.1) r ≡ lookup p es → r ≡ lookup_entry p es
parts_of_entry p [] r k v = grind (arith, common_steps)
parts_of_entry p (e ∷ es) r k v = let rest = parts_of_entry p es r in grind (arith, common_steps)

-- the key's span and the value
abbrev pub place : Entry → Option Span × Node
place e = (Some e.0.span, view e.1)

-- an entry with the key and the value that look-ups find is the one at that name
pub entry-of_parts : (name : List ℕ) (es : List Entry) (r : Option Entry) → option_map (λ e. e.0) r ≡ lookup_key (at_name name) es → option_map (λ e. e.1) r ≡ lookup (at_name name) es → option_map place r ≡ entry_at name (members_view es)
entry-of_parts name es r k v = ap (option_map place) (parts_of_entry (at_name name) es r k v) ∙ entry_at-lookup name es

members_cond : (b c : Bool) (e : Entry) (es fs : List Entry) (ms : Members) → b ≡ c → members_view fs ≡ ms
    → members_view (cond b es (e ∷ fs)) ≡ cond c (members_view es) (member (cow_str_bytes e.0.name) e.0.span (view e.1) ms)
members_cond b c e es fs ms same rest = grind (arith, common_steps)

-- the entries without that of a name
pub without-of_name : (name : List ℕ) (es : List Entry) → members_view (remove_entry (at_name name) es) ≡ without name (members_view es)
without-of_name name [] = refl
without-of_name name (e ∷ es) =
    members_cond _ _ e es (remove_entry (at_name name) es) _ (is_eq-slice_cmp name (cow_str_bytes e.0.name)) (without-of_name name es)

same_name : (name other : List ℕ) → slice_cmp nat_cmp name other ≡ Equal → other ≡ name
same_name name other h = sym ((bytes_eq-Decides name other).0 (sym (is_eq-slice_cmp name other) ∙ ap is_eq h))

-- a key that compares equal to a name has that name
pub named-of_equal : (name sought : List ℕ) (r : Option Entry) → sought ≡ name → IfSome r (λ e. slice_cmp nat_cmp sought (cow_str_bytes e.0.name) ≡ Equal) → IfSome r (λ e. cow_str_bytes e.0.name ≡ name)
named-of_equal name sought None e h = tt
named-of_equal name sought (Some entry) e h = same_name sought (cow_str_bytes entry.0.name) h ∙ e

-- a key's name and its span
abbrev pub key_place : Key → List ℕ × Span
key_place key = (cow_str_bytes key.name, key.span)

pub names-of_keys : (es : List Entry) → map key_place (keys_of es) ≡ remaining_keys (members_view es)
names-of_keys [] = refl
names-of_keys (e ∷ es) = ap (λ names. key_place e.0 ∷ names) (names-of_keys es)

-- a table that has entries leaves its keys unasked
pub unasked-of_entries : (es : List Entry) (faults : List ErrorContent) → (length es ≡ 0 → ⊥) → where_filled (members_view es) faults ≡ faults
unasked-of_entries [] faults h = absurd (h refl)
unasked-of_entries (e ∷ es) faults h = refl

pub filled-of_entries : (es : List Entry) → (length es ≡ 0 → ⊥) → is_filled (members_view es) ≡ true
filled-of_entries [] h = absurd (h refl)
filled-of_entries (e ∷ es) h = refl
