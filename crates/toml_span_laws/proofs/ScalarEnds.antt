-- A scalar ends after its span starts.
use Rattle.toml_span_lex.proofs.Common.{◌≡◌, ℕ, ◌+◌, ◌<◌, true, false≢true, List, get_or, arith, sym, ◌∙◌, inl, inr, cases_lt, and_parts, nat_tests, common_steps}
use Rattle.toml_span_lex.specs.declared.span.Span.{Span}
use Rattle.toml_span_lex.proofs.Copies.{content_fits}
use Rattle.toml_span_lex.proofs.MadeStrings.{content_from_after}
use Rattle.toml_span_tree.specs.Node.{Scalar, text as text_scalar, integer, float, boolean, datetime, finite, infinite, not_a_number}
use Rattle.toml_span_read.specs.Dates.{begins_date, IsCandidate}
use Rattle.toml_span_read.specs.Grammar.{SpellsScalar}
use Rattle.toml_span_read.specs.Numbers.{IsNumber}
use Rattle.toml_span_read.specs.Numerals.{after_sign}
use Rattle.toml_span_read.proofs.NumberLemmas.{digits_on, sign_on}
use Rattle.toml_span_read.proofs.NumberReads.{float_on}
use Rattle.toml_span_read.proofs.ShortIntegers.{decimal_keylike}
use Rattle.toml_span_laws.proofs.KeptScalars.{candidate_stops}

number_some : (s : Scalar) (text : List ℕ) (i j : ℕ) → IsNumber s text i j → i < j
number_some (integer n) text i j (inl d) = omega (arith, (sign_on text i).0, digits_on 10 text (after_sign text i) j d.digits.digits)
number_some (integer n) text i j (inr x) = omega (arith, digits_on x.radix text (i + 2) j x.digits)
number_some (float (finite digits)) text i j (f, e) = (float_on text i j f).0
number_some (float (infinite b)) text i j (f, e) = omega (arith, (sign_on text i).0, f.some)
number_some (float (not_a_number b)) text i j (f, e) = omega (arith, (sign_on text i).0, f.some)
number_some (text_scalar v) text i j h = absurd h
number_some (boolean b) text i j h = absurd h
number_some (datetime d) text i j h = absurd h

date_some : (text : List ℕ) (i j : ℕ) → begins_date text i ≡ true → IsCandidate text i j → i < j
date_some text i j h c = elim (cases_lt i j) [
  | inl less ↦ less
  | inr more ↦
      let z = candidate_stops text i j c in
      let e : j ≡ i = omega (arith, z.0) in
      absurd (false≢true (sym (rw e at z.1) ∙ decimal_keylike (get_or text i 0) (and_parts _ _ (and_parts _ _ h).0).0))
]

pub scalar_some : (s : Scalar) (span : Span) (text : List ℕ) (i j : ℕ) → SpellsScalar s span text i j → span.start < j
scalar_some (text_scalar v) span text i j (source, multi, h) =
    let fit = content_fits (get_or text i 0) multi text v h.from h.to j h.content_is in grind (arith, nat_tests, common_steps, content_from_after multi text i h.from h.begins)
scalar_some (integer n) span text i j (b, h, e) = rw e (number_some (integer n) text i j h)
scalar_some (float x) span text i j (b, h, e) = rw e (number_some (float x) text i j h)
scalar_some (boolean b) span text i j (run, e) = rw e (run.0)
scalar_some (datetime d) span text i j (b, c, is, same, e) = rw e (date_some text i j b c)
