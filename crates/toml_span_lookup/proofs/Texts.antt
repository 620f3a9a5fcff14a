-- Parts of texts.
use Rattle.std.proofs.Common.{◌≡◌, ◌∙◌, ◌+◌, ◌-◌, ◌<◌, ◌≤◌, ℕ, zero, suc, Bool, true, false, List, ap, arith, get_or, length, refl, slice_index, subst}
use Rattle.std.proofs.lemmas.Str.{IsCharBoundary-after_ascii, IsCharBoundary-start, is_utf8-from_IsUtf8, IsUtf8-from_is_utf8}
use Rattle.std.specs.Str.{IsCharBoundary, IsUtf8, is_utf8}

pub utf8_is : (bs : List ℕ) → IsUtf8 bs → is_utf8 bs ≡ true
utf8_is bs is = is_utf8-from_IsUtf8 bs is

false_unless_true : (b : Bool) → ¬ (b ≡ true) → b ≡ false
false_unless_true true differs = absurd (differs refl)
false_unless_true false differs = refl

pub not_utf8 : (bs : List ℕ) → ¬ IsUtf8 bs → is_utf8 bs ≡ false
not_utf8 bs is_not = false_unless_true (is_utf8 bs) (λ is. is_not (IsUtf8-from_is_utf8 bs is))

-- a path can be cut after a slash
pub boundary_after_slash : (path : List ℕ) (n : ℕ) → IsUtf8 path → n ≤ length path
    → (0 < n → slice_index path (n - 1) ≡ 47) → IsCharBoundary path n
boundary_after_slash path zero utf8 within slash = IsCharBoundary-start path utf8
boundary_after_slash path (suc n) utf8 within slash =
    let last : suc n - 1 ≡ n = omega arith in
    let here : slice_index path n ≡ 47 = subst (λ k. slice_index path k ≡ 47) last (slash (omega arith)) in
    let next : n + 1 ≡ suc n = omega arith in
    subst (IsCharBoundary path) next (IsCharBoundary-after_ascii path n utf8 (omega arith) (omega arith))
