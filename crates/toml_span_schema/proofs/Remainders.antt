-- Remainders of numbers whose digits are read one after another.
use Rattle.std.proofs.Common.{◌≡◌, ℕ, ◌+◌, ◌-◌, ◌*◌, ◌%◌, ◌^◌, ◌<◌, List, [], ◌∷◌, sym, ◌∙◌, ap, length, get_or, drop, add-one, add-zero, drop-cons}
use Rattle.std.proofs.Math.Nat.{add-mod-mod, mod-mod, mul_assoc, mul_comm, add_comm}
use Rattle.std.proofs.lemmas.Nat.{mul-mod_first, pow-add}
use Rattle.toml_span_schema.specs.Numbers.{value_after}

-- a number and its remainder have the same remainder after more digits
pub shift_mod : (n c m k : ℕ) → ((n % m) * c + k) % m ≡ (n * c + k) % m
shift_mod n c m k =
    ap (λ x. x % m) (add_comm ((n % m) * c) k)
    ∙ sym (add-mod-mod k ((n % m) * c) m)
    ∙ ap (λ x. (k + x) % m) (mul-mod_first n c m)
    ∙ add-mod-mod k (n * c) m
    ∙ ap (λ x. x % m) (add_comm k (n * c))

pub value_after_mod : (ds : List ℕ) (n m : ℕ) → value_after (n % m) ds % m ≡ value_after n ds % m
value_after_mod [] n m = mod-mod n m
value_after_mod (d ∷ ds) n m =
    sym (value_after_mod ds ((n % m) * 10 + (d - 48)) m)
    ∙ ap (λ x. value_after x ds % m) (shift_mod n 10 m (d - 48))
    ∙ value_after_mod ds (n * 10 + (d - 48)) m

-- a step of the loop over the digits
pub digit_step : (left i m : ℕ) (ds : List ℕ) → i < length ds
    → value_after ((left * 10 + (get_or ds i 0 - 48)) % m) (drop (i + 1) ds) % m ≡ value_after left (drop i ds) % m
digit_step left i m ds h =
    value_after_mod (drop (i + 1) ds) (left * 10 + (get_or ds i 0 - 48)) m
    ∙ ap (λ l. value_after (left * 10 + (get_or ds i 0 - 48)) l % m) (ap (λ k. drop k ds) (add-one i))
    ∙ ap (λ l. value_after left l % m) (sym (drop-cons ds i 0 h))

regroup : (l p : ℕ) → (l * 10 + 0) * p ≡ l * (p * 10)
regroup l p = ap (λ x. x * p) (add-zero (l * 10)) ∙ mul_assoc l 10 p ∙ ap (λ x. l * x) (mul_comm 10 p)

-- a step of the loop over the zeros
pub zero_step : (left j m : ℕ) → (((left * 10 + 0) % m) * 10 ^ j) % m ≡ (left * 10 ^ (j + 1)) % m
zero_step left j m =
    mul-mod_first (left * 10 + 0) (10 ^ j) m
    ∙ ap (λ x. x % m) (regroup left (10 ^ j) ∙ ap (λ x. left * x) (sym (pow-add 10 j 1)))
