-- A part of a text: its bytes, and those after it.
use Rattle.toml_span_lex.proofs.Common.{◌≡◌, ℕ, ◌+◌, ◌-◌, ◌<◌, ◌≤◌, Bool, true, List, [], ◌∷◌, ◌++◌, length, get_or, drop, arith, sym, ◌∙◌, refl, ap, append-nil, append_assoc, length-append, slice_range, get_or_append_left, get_or-append-add, drop-drop, drop_at, nat_tests, common_steps}
use Rattle.std.proofs.lemmas.List.{get_or-drop}

-- from i on the text is this part and the rest, and the part ends at j
pub record Part (text part rest : List ℕ) (i j : ℕ) : Type 0 where
  pub is : drop i text ≡ part ++ rest
  pub on : j ≡ i + length part
  pub all : j + length rest ≡ length text

-- a part between two texts
pub between : (before part rest : List ℕ) → Part (before ++ (part ++ rest)) part rest (length before) (length before + length part)
between before part rest = grind (arith, nat_tests, common_steps)

-- the text itself
pub whole : (text : List ℕ) → Part text text [] 0 (length text)
whole text = record { is = sym (append-nil text); on = omega arith; all = omega arith }

pub same_part : {text part rest : List ℕ} {i j : ℕ} (other : List ℕ) → part ≡ other → Part text part rest i j → Part text other rest i j
same_part other e p = rw e at p

-- two parts side by side
pub front : {text rest : List ℕ} {i j : ℕ} (a b : List ℕ) → Part text (a ++ b) rest i j → Part text a (b ++ rest) i (i + length a)
front {rest = rest} a b p = grind (arith, nat_tests, common_steps)

pub back : {text rest : List ℕ} {i j : ℕ} (a b : List ℕ) → Part text (a ++ b) rest i j → Part text b rest (i + length a) j
back {text} {rest} {i} a b p =
    let n = length-append a b in
    let x = p.on in
    record {
      is = sym (drop-drop (length a) i text) ∙ (ap (λ (l : List ℕ). drop (length a) l) (p.is ∙ append_assoc a b rest) ∙ drop_at a (b ++ rest) (length a) refl);
      on = omega arith;
      all = p.all;
    }

-- a byte and what follows it
pub tail : {text rest : List ℕ} {i j : ℕ} (c : ℕ) (cs : List ℕ) → Part text (c ∷ cs) rest i j → Part text cs rest (i + 1) j
tail c cs p = back (c ∷ []) cs p

pub here : {text rest : List ℕ} {i j : ℕ} (c : ℕ) (cs : List ℕ) → Part text (c ∷ cs) rest i j → get_or text i 0 ≡ c
here {text} {rest} {i} c cs p = grind (arith, nat_tests, common_steps)

pub byte : {text part rest : List ℕ} {i j : ℕ} → Part text part rest i j → (k : ℕ) → k < length part → get_or text (i + k) 0 ≡ get_or part k 0
byte {text} {part} {rest} {i} p k h = sym (get_or-drop i text k 0) ∙ (ap (λ (l : List ℕ). get_or l k 0) p.is ∙ get_or_append_left part rest 0 k h)

-- the byte at an offset in the part, by its offset in the text
pub byte_at : {text part rest : List ℕ} {i j : ℕ} → Part text part rest i j → (k : ℕ) → i ≤ k → k < j → get_or text k 0 ≡ get_or part (k - i) 0
byte_at {text} {part} {rest} {i} p k a b = grind (arith, nat_tests, common_steps)

pub past : {text part rest : List ℕ} {i j : ℕ} → Part text part rest i j → (k : ℕ) → get_or text (j + k) 0 ≡ get_or rest k 0
past {text} {part} {rest} {i} {j} p k =
    let x = p.on in
    let at : j + k ≡ i + (length part + k) = omega arith in
    rw at (sym (get_or-drop i text (length part + k) 0) ∙ (ap (λ (l : List ℕ). get_or l (length part + k) 0) p.is ∙ get_or-append-add part rest k 0))

pub next : {text part rest : List ℕ} {i j : ℕ} → Part text part rest i j → get_or text j 0 ≡ get_or rest 0 0
next {text} {part} {rest} {i} {j} p = let z : j + 0 ≡ j = omega arith in let e : get_or text (j + 0) 0 ≡ get_or rest 0 0 = past p 0 in rw z at e

pub range : {text part rest : List ℕ} {i j : ℕ} → Part text part rest i j → slice_range text i j ≡ part
range {text} {part} {rest} {i} {j} p = grind (arith, nat_tests, common_steps)

pub within : {text part rest : List ℕ} {i j : ℕ} → Part text part rest i j → j ≤ length text
within p = let x = p.all in omega arith

-- what holds for each byte of the part
pub each : {text part rest : List ℕ} {i j : ℕ} → Part text part rest i j → (p : ℕ → Bool) → ((k : ℕ) → k < length part → p (get_or part k 0) ≡ true) → (k : ℕ) → i ≤ k → k < j → p (get_or text k 0) ≡ true
each {text} {part} {rest} {i} w p h k a b =
    let x = w.on in rw (byte_at w k a b) (h (k - i) (omega arith))

pub empty_range : (text : List ℕ) (i : ℕ) → slice_range text i i ≡ []
empty_range text i = let e : i - i ≡ 0 = omega arith in rw e refl
