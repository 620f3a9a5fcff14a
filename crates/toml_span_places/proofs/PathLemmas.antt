-- Paths of headers and the elements of arrays of tables, one step at a time; and what keys name.
use Rattle.toml_span_lex.proofs.Common.{◌≡◌, ℕ, zero, suc, ◌-◌, ◌<◌, true, false, List, [], ◌∷◌, ◌++◌, Option, Some, Vec, Global, map, take, drop, length, get_or, refl, arith, ◌≤◌, ◌==◌, Result, IfOk, nat_tests, common_steps, OnOk}
use Rattle.toml_span_lex.specs.declared.key.Key.{Key}
use Rattle.toml_span_tree.specs.declared.nodes.Step.{Step as Lent}
use Rattle.toml_span_tree.specs.Path.{Path}
use Rattle.toml_span_read.specs.Data.{ParsedSection, simple_key}
use Rattle.toml_span_read.specs.Paths.{enter, target, with_key}
use Rattle.toml_span_places.specs.Mentions.{Mentioned, by_header, header_mentions, inside, latest, steps_of}
use Rattle.toml_span_places.specs.declared.keys.Role.TheVariants as roles
use Rattle.toml_span_places.specs.declared.tables.TableForm.TheVariants as forms

-- into the latest element, or nowhere
enter_latest : (n : ℕ) (p : Path) → enter n p ≡ inside p (latest n)
unfolding enter
enter_latest zero p = refl
enter_latest (suc n) p = refl

-- ---- lists of keys, of which one is taken

pub same_path_ok : {E : Type 0} (r : Result (Vec Lent Global) E) (p q : Path) → p ≡ q →
    IfOk r (λ below. steps_of below ≡ p) → IfOk r (λ below. steps_of below ≡ q)
same_path_ok r p q same h = grind (arith, nat_tests, common_steps)

abbrev pub after_first : List Key → List Key
after_first xs = take (length xs - 1) (drop 1 xs)

pub keys_first : (xs : List Key) (key d : Key) → 1 ≤ length xs → key ≡ get_or xs 0 d →
    map simple_key xs ≡ simple_key key ∷ map simple_key (after_first xs)
keys_first xs key d some same = grind (arith, nat_tests, common_steps)

pub header_none : (counts : Path → ℕ) (p : Path) (xs : List Key) → length xs < 1 → p ≡ target counts p (map simple_key xs)
unfolding target
header_none counts p xs few = grind (arith, nat_tests, common_steps)

pub header_last : (counts : Path → ℕ) (p : Path) (xs : List Key) (key d : Key) → 1 ≤ length xs → key ≡ get_or xs 0 d →
    (length (after_first xs) == 0) ≡ true → with_key p (simple_key key) ≡ target counts p (map simple_key xs)
unfolding target
header_last counts p xs key d some first none = grind (arith, nat_tests, common_steps, keys_first)

pub header_more : (counts : Path → ℕ) (p over into : Path) (e : Option ℕ) (xs : List Key) (key d : Key) → 1 ≤ length xs → key ≡ get_or xs 0 d →
    (length (after_first xs) == 0) ≡ false → over ≡ with_key p (simple_key key) → e ≡ latest (counts over) → into ≡ inside over e →
    target counts into (map simple_key (after_first xs)) ≡ target counts p (map simple_key xs)
unfolding target
header_more counts p over into e xs key d some first more over_is e_is into_is = grind (arith, nat_tests, common_steps, keys_first, enter_latest)

-- ---- what a call has listed

pub on_ok_same : {A E : Type 0} (r : Result A E) (P Q : Type 0) → (P → Q) → OnOk r P → OnOk r Q
on_ok_same r P Q f h = grind (arith, nat_tests, common_steps)

pub header_listed : (counts : Path → ℕ) (b : ParsedSection) (p over into : Path) (e : Option ℕ) (xs : List Key) (key d : Key) (before now next : List Mentioned) →
    1 ≤ length xs → key ≡ get_or xs 0 d → (length (after_first xs) == 0) ≡ false →
    over ≡ with_key p (simple_key key) → e ≡ latest (counts over) → into ≡ inside over e →
    now ≡ before ++ ((over, by_header b e (Some roles.Header) (Some forms.Passed) key.span) ∷ []) →
    next ≡ now ++ header_mentions counts b into (map simple_key (after_first xs)) →
    next ≡ before ++ header_mentions counts b p (map simple_key xs)
header_listed counts b p over into e xs key d before now next some first more over_is e_is into_is here then =
    let after : 0 < length (map simple_key (after_first xs)) = grind (arith, nat_tests, common_steps) in grind (arith, nat_tests, common_steps, keys_first xs key d some first, after)
