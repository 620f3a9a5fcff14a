-- A form in one text has an equal form in another: how forms consist of others, and what is in a part of a text.
use Rattle.toml_span_lex.proofs.Common.{◌≡◌, ℕ, ◌+◌, ◌-◌, ◌<◌, ◌≤◌, ◌⊎◌, Bool, true, false, List, length, get_or, take, drop, arith, inl, inr, sym, ◌∙◌, length-take, length-drop, slice_range, cases_lt, false≢true, false_from_ne_true, get_or-take, ext_get_or, nat_tests, common_steps}
use Rattle.std.proofs.lemmas.List.{get_or-drop}
use Rattle.toml_span_lex.specs.Bytes.{MaximalRun}

-- where R holds between two offsets, S holds between the corresponding ones
pub record Moves (At R S : ℕ → ℕ → Type 0) : Type 0 where
  pub on : (i j : ℕ) → R i j → i ≤ j
  pub to : (i j k l : ℕ) → At i k → At j l → R i j → S k l

pub either : {At R S P Q : ℕ → ℕ → Type 0} → Moves At R S → Moves At P Q → Moves At (λ i j. R i j ⊎ P i j) (λ k l. S k l ⊎ Q k l)
either x y = grind (arith, nat_tests, common_steps)

-- the same for equivalent relations
pub said : {At R S P Q : ℕ → ℕ → Type 0} → ((i j : ℕ) → P i j → R i j) → ((k l : ℕ) → S k l → Q k l) → Moves At R S → Moves At P Q
said f g x = record { on = λ i j h. x.on i j (f i j h); to = λ i j k l u v h. g k l (x.to i j k l u v (f i j h)) }

-- and for what holds where the form is
pub also : {At R S P Q : ℕ → ℕ → Type 0} → Moves At R S → ((i j k l : ℕ) → i ≤ j → At i k → At j l → R i j → P i j → Q k l) → Moves At (λ i j. R i j × P i j) (λ k l. S k l × Q k l)
also x f = record { on = λ i j h. x.on i j h.0; to = λ i j k l u v h. (x.to i j k l u v h.0, f i j k l (x.on i j h.0) u v h.0 h.1) }

-- and for what holds anywhere
pub given : {At R S : ℕ → ℕ → Type 0} {P Q : Type 0} → (P → Q) → Moves At R S → Moves At (λ i j. P × R i j) (λ k l. Q × S k l)
given f x = record { on = λ i j h. x.on i j h.1; to = λ i j k l u v h. (f h.0, x.to i j k l u v h.1) }

-- one after the other, if any offset between two that have counterparts has one
pub joined : {At R S P Q : ℕ → ℕ → Type 0} → ((i j k l m : ℕ) → i ≤ m → m ≤ j → At i k → At j l → (n : ℕ) × At m n) → Moves At R S → Moves At P Q
    → Moves At (λ i j. (m : ℕ) × R i m × P m j) (λ k l. (m : ℕ) × S k m × Q m l)
joined between x y = record {
  on = λ i j h. omega (arith, x.on i h.0 h.1, y.on h.0 j h.2);
  to = λ i j k l u v h. (let m = between i j k l h.0 (x.on i h.0 h.1) (y.on h.0 j h.2) u v in (m.0, x.to i h.0 k m.0 u m.1 h.1, y.to h.0 j m.0 l m.1 v h.2));
}

-- ---- a copy

-- From t to n, b has the bytes that a has from s on, and after them the byte c.
pub record Copied (a b : List ℕ) (s t n c : ℕ) : Type 0 where
  pub same : (i k : ℕ) → s ≤ i → i + t ≡ k + s → k < n → get_or a i 0 ≡ get_or b k 0
  pub fits : n + s ≤ length a + t
  pub within : n ≤ length b
  pub next : get_or b n 0 ≡ c

-- the offset i in a is k in b, with at least e more bytes to the end of the copy
pub record At (s t n e i k : ℕ) : Type 0 where
  pub after : s ≤ i
  pub moved : i + t ≡ k + s
  pub inside : k + e ≤ n

pub further : {s t n e i k : ℕ} (d : ℕ) → (k + d) + e ≤ n → At s t n e i k → At s t n e (i + d) (k + d)
further d l u = record { after = omega arith; moved = omega arith; inside = l }

pub room : {s t n e i k : ℕ} (d : ℕ) → k + d ≤ n → At s t n e i k → At s t n d i k
room d l u = record { after = u.after; moved = u.moved; inside = l }

pub between : {s t n e : ℕ} (i j k l m : ℕ) → i ≤ m → m ≤ j → At s t n e i k → At s t n e j l → (x : ℕ) × At s t n e m x
between {s} {t} i j k l m o p u v = ((m + t) - s, record { after = omega arith; moved = omega arith; inside = omega arith })

pub in_sequence : {s t n e : ℕ} {R S P Q : ℕ → ℕ → Type 0} → Moves (At s t n e) R S → Moves (At s t n e) P Q → Moves (At s t n e) (λ i j. (m : ℕ) × R i m × P m j) (λ k l. (m : ℕ) × S k m × Q m l)
in_sequence x y = joined between x y

pub nothing : {s t n e : ℕ} → Moves (At s t n e) (λ i j. j ≡ i) (λ k l. l ≡ k)
nothing = record { on = λ i j h. omega arith; to = λ i j k l u v h. omega arith }

module _ {a b : List ℕ} {s t n c : ℕ} (w : Copied a b s t n c) where
  pub byte : {A : Type 0} {e i k : ℕ} (p : ℕ → A) (x : A) → At s t n e i k → k < n → p (get_or a i 0) ≡ x → p (get_or b k 0) ≡ x
  byte {i = i} {k} p x u l h = rw (w.same i k u.after u.moved l) at h

  -- a byte that differs from c is before the end
  pub before_end : (p : ℕ → Bool) (k : ℕ) → p c ≡ false → k ≤ n → p (get_or b k 0) ≡ true → k < n
  before_end p k off l h = elim (cases_lt k n) [ inl x ↦ x | inr x ↦ let e : k ≡ n = omega arith in absurd (false≢true (sym off ∙ (rw (e, w.next) at h))) ]

  pub back : {e i k : ℕ} (p : ℕ → Bool) → At s t n e i k → p c ≡ false → p (get_or b k 0) ≡ true → p (get_or a i 0) ≡ true
  back {i = i} {k} p u off h = rw (w.same i k u.after u.moved (before_end p k off (omega arith) h)) h

  pub stays : {e i k : ℕ} (p : ℕ → Bool) → At s t n e i k → p c ≡ false → p (get_or a i 0) ≡ false → p (get_or b k 0) ≡ false
  stays p u off h = false_from_ne_true _ (λ y. false≢true (sym h ∙ back p u off y))

  -- a byte, and a form after it
  pub first : {A : Type 0} {e : ℕ} {R S : ℕ → ℕ → Type 0} (p : ℕ → A) (x : A) → Moves (At s t n e) R S → Moves (At s t n e) (λ i j. (p (get_or a i 0) ≡ x) × R (i + 1) j) (λ k l. (p (get_or b k 0) ≡ x) × S (k + 1) l)
  first p x m = grind (arith, nat_tests, common_steps)

  pub run : {e : ℕ} (p : ℕ → Bool) → (n < length b → p c ≡ false) → Moves (At s t n e) (MaximalRun p a) (MaximalRun p b)
  run p off = record {
    on = λ i j r. r.forward;
    to = λ i j k l u v r. record {
      forward = omega (arith, r.forward);
      within = omega (arith, w.within);
      passes = λ m x y. (let g = r.passes ((m + s) - t) (omega arith) (omega arith) in rw (w.same ((m + s) - t) m (omega arith) (omega arith) (omega arith)) at g);
      stops = λ x. elim (cases_lt l n) [
        | inl y ↦ byte p false v y (r.stops (omega (arith, w.fits)))
        | inr y ↦ let z : l ≡ n = omega arith in rw (z, w.next) (off (rw z at x))
      ];
    };
  }

  pub same_range : {e : ℕ} (i j k l : ℕ) → i ≤ j → At s t n e i k → At s t n e j l → slice_range a i j ≡ slice_range b k l
  same_range i j k l o u v =
      ext_get_or 0 (take (j - i) (drop i a)) (take (l - k) (drop k b)) (omega (arith, w.fits, w.within, length-take (j - i) (drop i a), length-take (l - k) (drop k b), length-drop i a, length-drop k b)) (
      λ m x.
      let less : m < j - i = omega (arith, length-take (j - i) (drop i a)) in
      let also : m < l - k = omega arith in
      get_or-take (j - i) (drop i a) m 0 less
      ∙ (get_or-drop i a m 0
      ∙ (w.same (i + m) (k + m) (omega arith) (omega arith) (omega arith)
      ∙ (sym (get_or-drop k b m 0) ∙ sym (get_or-take (l - k) (drop k b) m 0 also))))
      )
