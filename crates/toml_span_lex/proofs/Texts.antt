-- Names as lists of bytes: their equality and their order.
use Rattle.toml_span_lex.proofs.Common.{common_steps, nat_tests, ◌≡◌, ℕ, ◌⊎◌, Bool, true, false, List, inl, inr, sym, ◌∙◌, ap, arith, nat_eq, nat_cmp, is_eq, Ordering, Equal, pointwise, slice_cmp, same_text, other_text, texts_ties}

either : (b : Bool) → (b ≡ true) ⊎ (b ≡ false)
either b = grind (arith, nat_tests, common_steps)

pub equal_text : (xs ys : List ℕ) → pointwise nat_eq xs ys ≡ true → xs ≡ ys
equal_text xs ys e = same_text xs ys (sym e)

pub text_equal : (xs ys : List ℕ) → xs ≡ ys → pointwise nat_eq xs ys ≡ true
text_equal xs ys e = elim (either (pointwise nat_eq xs ys)) [ inl t ↦ t | inr f ↦ absurd (other_text xs ys (sym f) e) ]

is_equal : (o : Ordering) → is_eq o ≡ true → o ≡ Equal
is_equal o e = grind arith

pub tie_equal : (xs ys : List ℕ) → slice_cmp nat_cmp xs ys ≡ Equal → pointwise nat_eq xs ys ≡ true
tie_equal xs ys e = texts_ties xs ys ∙ ap is_eq e

pub equal_tie : (xs ys : List ℕ) → pointwise nat_eq xs ys ≡ true → slice_cmp nat_cmp xs ys ≡ Equal
equal_tie xs ys e = is_equal _ (sym (texts_ties xs ys) ∙ e)
