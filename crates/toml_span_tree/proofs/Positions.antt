-- Positions in decimal.
use Rattle.toml_span_lex.proofs.Common.{common_steps, nat_tests, ◌≡◌, ◌↔◌, ℕ, ◌<◌, ◌^◌, ◌||◌, ◌==◌, not, List, length, get_or, true, Some, ap, ◌∙◌, arith, decimal_digit, first_decimal, decimal_nonempty, digits_decimal, digits_value-decimal, decimal-digits_value, decimal}
use Rattle.toml_span_tree.specs.Pointer.{is_decimal_form, position_of}
use Rattle.toml_span_tree.proofs.Pointers.{numerals, form_parts, no_position, some_position}

position_of-decimal : (segment : List ℕ) (i : ℕ) → i < 2 ^ 64 → position_of segment ≡ Some i → segment ≡ decimal i
position_of-decimal segment i small h = grind (arith, nat_tests, common_steps, form_parts segment, some_position segment, no_position segment, decimal-digits_value numerals segment)

no_leading : (i : ℕ) → i < 2 ^ 64 → length (decimal i) == 1 || not (get_or (decimal i) 0 0 == 48) ≡ true
no_leading i small = grind (arith, nat_tests, common_steps, first_decimal i, decimal_digit i)

form : (i : ℕ) → i < 2 ^ 64 → is_decimal_form (decimal i) ≡ true
form i small = grind (arith, nat_tests, common_steps, decimal_nonempty i small, digits_decimal numerals i small, no_leading i small)

decimal-position_of : (i : ℕ) → i < 2 ^ 64 → position_of (decimal i) ≡ Some i
decimal-position_of i small = some_position (decimal i) (form i small) ∙ ap Some (digits_value-decimal numerals i small)

pub position_of-is : (segment : List ℕ) (i : ℕ) → i < 2 ^ 64 → (position_of segment ≡ Some i) ↔ (segment ≡ decimal i)
position_of-is segment i small = (position_of-decimal segment i small, λ e. ap position_of e ∙ decimal-position_of i small)
