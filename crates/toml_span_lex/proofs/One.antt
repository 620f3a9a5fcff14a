-- Of one thing alone something holds.
use Rattle.toml_span_lex.proofs.Common.{◌≡◌, ◌⊎◌, Bool, true, false, Result, Ok, Err, inl, inr, sym, ◌∙◌, false≢true}

abbrev pub One : {T : Type 0} → (T → Type 0) → Type 0
One {T = T} m = (r s : T) → m r → m s → r ≡ s

pub one_is : {T : Type 0} {a : T} → One (λ r. r ≡ a)
one_is r s h g = h ∙ sym g

pub one_where : {T P : Type 0} {m : T → Type 0} → One m → One (λ r. P × m r)
one_where one r s h g = one r s h.1 g.1

pub one_given : {T B : Type 0} {P : B → Type 0} {next : B → T → Type 0} → One P → ((b : B) → One (next b)) → One (λ r. (b : B) × P b × next b r)
one_given unique one r s (a, h, g) (b, k, l) = let e : b ≡ a = unique b a k h in one a r s g (rw e at l)

pub one_either : {T : Type 0} {this that : T → Type 0} → One this → One that → ((r s : T) → this r → that s → ⊥) → One (λ r. this r ⊎ that r)
one_either one other apart r s (inl h) (inl g) = one r s h g
one_either one other apart r s (inl h) (inr g) = absurd (apart r s h g)
one_either one other apart r s (inr h) (inl g) = absurd (apart s r g h)
one_either one other apart r s (inr h) (inr g) = other r s h g

-- the one where a test passes, the other where it fails
abbrev pub Choice : {T : Type 0} → Bool → (T → Type 0) → (T → Type 0) → T → Type 0
Choice test this that r = ((test ≡ true) × this r) ⊎ ((test ≡ false) × that r)

pub one_choice : {T : Type 0} {test : Bool} {this that : T → Type 0} → One this → One that → One (Choice test this that)
one_choice one other = one_either (one_where one) (one_where other) (λ r s h g. false≢true (sym g.0 ∙ h.0))

-- what holds of one thing alone, since this does
pub one_through : {T : Type 0} {m n : T → Type 0} → ((r : T) → m r → n r) → One n → One m
one_through into one r s h g = one r s (into r h) (into s g)

pub ok_same : {A E : Type 0} {a b : A} → ◌≡◌ {A = Result A E} (Ok a) (Ok b) → a ≡ b
ok_same e = cc

pub err_same : {A E : Type 0} {a b : E} → ◌≡◌ {A = Result A E} (Err a) (Err b) → a ≡ b
err_same e = cc
