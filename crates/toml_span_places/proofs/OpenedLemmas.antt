-- The elements of arrays of tables, in the map that counts them.
use Rattle.toml_span_lex.proofs.Common.{◌≡◌, ℕ, ◌+◌, Bool, true, cond, List, [], ◌∷◌, map, Some, Vec, Global, refl, sym, arith, is_eq, lookup, insert_entry, slice_cmp, is_eq-slice_cmp, nat_tests, common_steps}
use Rattle.std.specs.Cmp.{both_tied}
use Rattle.std.proofs.Math.Path.{fun_ext}
use Rattle.toml_span_tree.specs.Path.{Path}
use Rattle.toml_span_read.specs.Paths.{elements_added, opened_by, same_path, same_step}
use Rattle.toml_span_read.proofs.PathLemmas.{same_path-eq, same_step-self}
use Rattle.toml_span_read.specs.Data.{ParsedSection}
use Rattle.toml_span_places.specs.code.Opened.{counts_after, counts_in, one_more, sorted_step}
use Rattle.toml_span_places.specs.code.Opened.{sorted_steps}
use Rattle.toml_span_places.specs.declared.opened.SortedStep.{SortedStep}
use Rattle.toml_span_places.specs.contracts.opened.SortedStepOrd.TheImpl as order

-- ---- paths are the same where they are equal

pub same_path-self : (p : Path) → same_path p p ≡ true
unfolding same_path
same_path-self [] = refl
same_path-self (s ∷ p) = rw (same_step-self s, same_path-self p) refl

pub same_path-sym : (p q : Path) → same_path p q ≡ same_path q p
same_path-sym p q = grind (arith, nat_tests, common_steps, same_path-eq p q, same_path-eq q p, same_path-self p)

-- ---- the order of steps and of paths

step_tie : (x y : SortedStep) → is_eq (order.ghosts.cmp x y) ≡ same_step (sorted_step x) (sorted_step y)
step_tie x y = grind (arith, nat_tests, common_steps, is_eq-slice_cmp)

pub path_tie : (xs ys : List SortedStep) →
    is_eq (slice_cmp order.ghosts.cmp xs ys) ≡ same_path (map sorted_step xs) (map sorted_step ys)
unfolding same_path
path_tie [] [] = refl
path_tie [] (y ∷ ys) = refl
path_tie (x ∷ xs) [] = refl
path_tie (x ∷ xs) (y ∷ ys) = sym (both_tied _ _ (order.ghosts.cmp x y) _ (sym (step_tie x y)) (sym (path_tie xs ys)))

-- ---- entries

abbrev Entry : Type 0
Entry = Vec SortedStep Global × ℕ

abbrev stands : Path → Vec SortedStep Global → Bool
stands p k = same_path p (sorted_steps k)

pub counts_read : (es : List Entry) (xs : List SortedStep) (p : Path) → map sorted_step xs ≡ p →
    lookup (λ k. is_eq (slice_cmp order.ghosts.cmp xs k.items)) es ≡ lookup (stands p) es
counts_read [] xs p is = refl
counts_read (e ∷ es) xs p is = grind (arith, nat_tests, common_steps, counts_read es xs p is, path_tie)

inserted : (es : List Entry) (k : Vec SortedStep Global) (v : ℕ) (p : Path) →
    lookup (stands p) (insert_entry (λ a b. slice_cmp order.ghosts.cmp a.items b.items) es k v)
    ≡ cond (stands p k) (Some v) (lookup (stands p) es)
inserted [] k v p = refl
inserted (e ∷ es) k v p = grind (arith, nat_tests, common_steps, inserted es k v p, path_tie k.items e.0.items, same_path-eq, same_path-sym)

-- one more element of the array at a path
pub counts_put : (es new : List Entry) (k : Vec SortedStep Global) (v : ℕ) (p : Path) → sorted_steps k ≡ p →
    v ≡ counts_in es p + 1 → new ≡ insert_entry (λ a b. slice_cmp order.ghosts.cmp a.items b.items) es k v →
    counts_in new ≡ one_more (counts_in es) p
counts_put es new k v p at more new_is = grind (arith, nat_tests, common_steps, fun_ext, inserted, same_path-eq, same_path-sym)

-- after a section
pub counts_next : (counts counts' : Path → ℕ) (earlier : List ParsedSection) (b : ParsedSection) → counts' ≡ counts_after counts b →
    counts ≡ elements_added (opened_by earlier) → counts' ≡ elements_added (opened_by (b ∷ earlier))
unfolding opened_by
counts_next counts counts' earlier b beyond was = grind (arith, nat_tests, common_steps, fun_ext)
