-- Dotted keys with positions, one step at a time.
use Rattle.toml_span_lex.proofs.Common.{◌≡◌, ◌<◌, ◌≤◌, ◌∙◌, ℕ, List, [], ◌∷◌, ◌++◌, length, drop, drop_more, take, take_rest, ◌-◌, get_or, map, cow_str_bytes, true, Option, Some, None, option_and_then, Result, Ok, Err, Vec, Global, refl, ap, sym, subst, inl, inr, append_assoc, append-nil, arith, nat_tests, common_steps}
use Rattle.std.specs.declared.borrow.CowStr.{CowStr}
use Rattle.toml_span_lex.specs.Bytes.{right_bracket}
use Rattle.toml_span_lex.specs.declared.stop.Stop.{Stop}
use Rattle.toml_span_lex.specs.declared.stop.Stop.TheVariants as memory_or
use Rattle.toml_span_tree.specs.Node.{Node}
use Rattle.toml_span_tree.specs.Pointer.{pointer_segments}
use Rattle.toml_span_tree.specs.code.Pointer.{untaken_entry, value_named}
use Rattle.toml_span_tree.proofs.Pointers.{found-more}
use Rattle.toml_span_places.specs.Dotted.{IsDotted, IsKey, IsPath, IsPathOf, IsStep, named, NoStep, Outcome, Reads, Steps, ends, goes_on, is_closed, onto, stops}
use Rattle.toml_span_places.specs.code.Dotted.{AfterSegments, StepGives, prefixed}
use Rattle.toml_span_places.specs.declared.dotted.PathError.{PathError}

abbrev as-ok : List (List ℕ) → Outcome
as-ok segments = Ok segments

prefixed-onto : (names : List (List ℕ)) (segment : List ℕ) (rest : Outcome) → prefixed names (onto segment rest) ≡ prefixed (names ++ segment ∷ []) rest
prefixed-onto names segment (Ok segments) = ap as-ok (sym (append_assoc names (segment ∷ []) segments))
prefixed-onto names segment (Err e) = refl

prefixed-one : (name : List ℕ) (rest : Outcome) → prefixed (name ∷ []) rest ≡ onto name rest
prefixed-one name (Ok segments) = refl
prefixed-one name (Err e) = refl

pub after_first : (text : List ℕ) (j : ℕ) (name : List ℕ) → IsKey text 0 j name → AfterSegments text (name ∷ []) j
after_first text j name key rest steps = inl (j, name, rest, key, steps, prefixed-one name rest)

pub after_more : (text : List ℕ) (names : List (List ℕ)) (i j : ℕ) (segment : List ℕ) → i < length text → IsStep text i j segment → AfterSegments text names i → AfterSegments text (names ++ segment ∷ []) j
after_more text names i j segment below step after rest steps =
    subst (λ (all : Outcome). IsDotted text all) (prefixed-onto names segment rest)
    (after (onto segment rest) (goes_on i j segment rest (onto segment rest) below step steps refl))

pub dotted_end : (text : List ℕ) (names : List (List ℕ)) (i : ℕ) → length text ≤ i → AfterSegments text names i → IsDotted text (Ok names)
dotted_end text names i past after =
    subst (λ (all : List (List ℕ)). IsDotted text (as-ok all)) (append-nil names) (after (Ok []) (ends i past))

pub step_stops : (Z : Type 0) (stop : Stop PathError) (text : List ℕ) (names : List (List ℕ)) (i : ℕ) → i < length text → StepGives {Z = Z} text i (Err stop) → AfterSegments text names i → Reads {Z = Z} (IsDotted text) (Err stop)
step_stops Z (memory_or.Memory e) text names i below none after = tt
step_stops Z (memory_or.Fault e) text names i below none after = after (Err e) (stops i e below none)

pub closed_byte : (text digits : List ℕ) (k : ℕ) → is_closed text digits k ≡ true → get_or text k 0 ≡ right_bracket
closed_byte text digits k is = grind (arith, nat_tests, common_steps)

-- ---- paths

pub pointed_path : (text : List ℕ) (names found : List (List ℕ)) → pointer_segments text ≡ Some names → found ≡ names → IsPath text (Ok found)
pointed_path text names found is same = subst (λ (o : Option (List (List ℕ))). IsPathOf o text (as-ok found)) (sym is) (ap as-ok same)

pub dotted_read : (Z : Type 0) (r : Result (Vec (CowStr Z) Global) (Stop PathError)) (text : List ℕ) → pointer_segments text ≡ None → Reads {Z = Z} (IsDotted text) r → Reads {Z = Z} (IsPath text) r
dotted_read Z (Ok parts) text none is = subst (λ (o : Option (List (List ℕ))). IsPathOf o text (as-ok (map cow_str_bytes parts.items))) (sym none) is
dotted_read Z (Err (memory_or.Fault e)) text none is = subst (λ (o : Option (List (List ℕ))). IsPathOf o text (Err e)) (sym none) is
dotted_read Z (Err (memory_or.Memory e)) text none is = tt

-- segments are followed one at a time
abbrev pub after_one : (Z : Type 0) → List (CowStr Z) → List (CowStr Z)
after_one Z xs = take (length xs - 1) (drop 1 xs)

pub named_more : (Z : Type 0) (xs : List (CowStr Z)) (x d : CowStr Z) (n : Node) → 1 ≤ length xs → x ≡ get_or xs 0 d →
    named (map cow_str_bytes xs) n ≡ option_and_then (named (map cow_str_bytes (after_one Z xs))) (untaken_entry (cow_str_bytes x) n)
named_more Z xs x d n some first =
    ap (λ (l : List (CowStr Z)). value_named (map cow_str_bytes l) n) (drop_more xs 0 d some ∙ ap (λ (y : CowStr Z). y ∷ drop 1 xs) (sym first))
    ∙ found-more (cow_str_bytes x) (map cow_str_bytes (drop 1 xs)) n
    ∙ ap (λ (l : List (CowStr Z)). option_and_then (named (map cow_str_bytes l)) (untaken_entry (cow_str_bytes x) n)) (sym (take_rest xs 1))
