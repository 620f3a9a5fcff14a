-- Bytes either are a document or are refused, and have one output.
use Rattle.toml_span_lex.proofs.Common.{arith, nat_tests, common_steps, ◌≡◌, ℕ, ◌+◌, ◌≤◌, ◌⊎◌, Bool, true, false, nat_lt, List, ◌++◌, Option, Some, None, take, Err, refl, sym, ap, subst, ◌∙◌, inl, inr, length, cases_lt, false≢true, take_at, IsUtf8-from_is_utf8, is_utf8-from_IsUtf8, Appends, Consumes, IsAtEnd, IsUtf8, is_utf8}
use Rattle.std.proofs.lemmas.List.{append-nil, take_all}
use Rattle.toml_span_lex.specs.declared.stop.Stop.TheVariants as stops
use Rattle.toml_span_tree.specs.Error.{content_of}
use Rattle.toml_span_tree.specs.declared.error.Error.{Error}
use Rattle.toml_span.specs.Claims.{claims}
use Rattle.toml_span.specs.Flat.{flat}
use Rattle.toml_span.specs.Parsing.{IsRefusal}
use Rattle.toml_span_laws.specs.Outcomes.{resolved}
use Rattle.toml_span_laws.proofs.Answered.{sections-one, decides, one-refusal}
use Rattle.toml_span_lines.specs.Lines.{error_line}
use Rattle.toml_span_lines.specs.Run.{bound, IsShown, IsAnswer, Runs}
use Rattle.toml_span_lines.specs.Shown.{ShowsDocument, ShowsRefusal, ShowsPlaces}
use Rattle.toml_span_laws.proofs.OneText.{one-text}

pub one-shown : (bytes : List ℕ) (limit : ℕ) (text other : List ℕ) → ShowsDocument bytes limit text → ShowsDocument bytes limit other → text ≡ other
one-shown bytes limit text other d e =
    let same = sections-one bytes limit e.sections d.sections e.read d.read in
    one-text (flat (length bytes) (claims d.sections)) text other d.shown (subst (λ l. ShowsPlaces (flat (length bytes) (claims l)) other) same e.shown)

pub not-refused : (bytes : List ℕ) (limit : ℕ) (text other : List ℕ) → ShowsDocument bytes limit text → ShowsRefusal bytes limit other → ⊥
not-refused bytes limit text other d (error, refusal, is) = decides bytes limit (resolved d.sections) (Err (stops.Fault error)) (d.read, d.resolves) refusal

pub one-reported : (bytes : List ℕ) (limit : ℕ) (error : Error) (text : List ℕ) → IsRefusal bytes limit (stops.Fault error) → ShowsRefusal bytes limit text → text ≡ error_line (content_of error)
one-reported bytes limit error text c (other, refusal, is) = is ∙ ap (λ f. error_line f) (one-refusal bytes limit other error refusal c)

pub one-refused : (bytes : List ℕ) (limit : ℕ) (text other : List ℕ) → ShowsRefusal bytes limit text → ShowsRefusal bytes limit other → text ≡ other
one-refused bytes limit text other (e, a, is) (f, b, at) = is ∙ ap (λ x. error_line x) (one-refusal bytes limit e f a b) ∙ sym at

-- ---- one output

one-show : (bytes : List ℕ) (limit status other : ℕ) (text last : List ℕ) → IsShown bytes limit status text → IsShown bytes limit other last → (status ≡ other) × (text ≡ last)
one-show bytes limit status other text last (inl (s, d)) (inl (t, e)) = (s ∙ sym t, one-shown bytes limit text last d e)
one-show bytes limit status other text last (inl (s, d)) (inr (t, r)) = absurd (not-refused bytes limit text last d r)
one-show bytes limit status other text last (inr (s, r)) (inl (t, d)) = absurd (not-refused bytes limit last text d r)
one-show bytes limit status other text last (inr (s, r)) (inr (t, q)) = (s ∙ sym t, one-refused bytes limit text last r q)

-- bytes that are not too long either are UTF-8 or are not
short-output : (bytes : List ℕ) (limit status other : ℕ) (text last : List ℕ) (is : Bool) → is_utf8 bytes ≡ is → length bytes ≤ bound → IsAnswer bytes limit status text → IsAnswer bytes limit other last
    → (status ≡ other) × (text ≡ last)
short-output bytes limit status other text last true is short a b =
    let utf8 = IsUtf8-from_is_utf8 bytes is in one-show bytes limit status other text last (a.shown short utf8) (b.shown short utf8)
short-output bytes limit status other text last false is short a b =
    let none : IsUtf8 bytes → ⊥ = λ utf8. false≢true (sym is ∙ is_utf8-from_IsUtf8 bytes utf8) in
    let x = a.no_text short none in
    let y = b.no_text short none in
    (x.0 ∙ sym y.0, x.1 ∙ sym y.1)

pub one-output : (bytes : List ℕ) (limit status other : ℕ) (text last : List ℕ) → IsAnswer bytes limit status text → IsAnswer bytes limit other last → (status ≡ other) × (text ≡ last)
one-output bytes limit status other text last a b = elim (cases_lt bound (length bytes)) [
  | inl long ↦
      let x = a.too_long long in
      let y = b.too_long long in
      (x.0 ∙ sym y.0, x.1 ∙ sym y.1)
  | inr short ↦ short-output bytes limit status other text last (is_utf8 bytes) refl short a b
]

-- the first n bytes are read from a known input
first-read : (n : ℕ) (input bytes : List ℕ) (left : Option (List ℕ)) → Consumes (Some input) left bytes → length bytes ≤ n → (length bytes ≡ n) ⊎ IsAtEnd left → bytes ≡ take n input
first-read n input bytes None h l e = absurd h
first-read n input bytes (Some rest) h l (inl full) = sym (ap (λ xs. take n xs) h ∙ take_at bytes rest n full)
first-read n input bytes (Some rest) h l (inr end) = sym (ap (λ xs. take n xs) (h ∙ ap (λ xs. bytes ++ xs) end ∙ append-nil bytes) ∙ take_all n bytes l)

same-written : (old : List ℕ) (new last : Option (List ℕ)) (text other : List ℕ) → Appends (Some old) new text → Appends (Some old) last other → text ≡ other → new ≡ last
same-written old new last text other a b e = grind (arith, nat_tests, common_steps)

pub one-run : (limit status other : ℕ) (input old : List ℕ) (left rest new last : Option (List ℕ)) (a b c d : Bool) → Runs limit (Some input) left a (Some old) new b status
    → Runs limit (Some input) rest c (Some old) last d other → nat_lt status 3 ≡ true → nat_lt other 3 ≡ true → (status ≡ other) × (new ≡ last)
one-run limit status other input old left rest new last a b c d r s l m =
    let x = r.answers l in
    let y = s.answers m in
    let same : x.0 ≡ y.0 = first-read (bound + 1) input x.0 left x.2.0.0 x.2.0.1 x.2.1 ∙ sym (first-read (bound + 1) input y.0 rest y.2.0.0 y.2.0.1 y.2.1) in
    let u = one-output y.0 limit status other x.1 y.1 (subst (λ (bs : List ℕ). IsAnswer bs limit status x.1) same x.3) y.3 in
    (u.0, same-written old new last x.1 y.1 x.4 y.4 u.1)
