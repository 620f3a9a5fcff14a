-- A key that clashes with no earlier assignment goes through none of their values.
use Rattle.std.specs.Option.{option_or}
use Rattle.toml_span_lex.proofs.Common.{◌≡◌, ℕ, Bool, true, List, [], ◌∷◌, ◌++◌, map, Option, Some, None, option_map, refl, sym, subst, inl, inr, cases_Bool, append_assoc, bytes_eq, pointwise, false≢true, arith, nat_tests, common_steps}
use Rattle.toml_span_lex.specs.declared.span.Span.{Span}
use Rattle.toml_span_tree.specs.Path.{Path, key}
use Rattle.toml_span_read.specs.Data.{ParsedAssignment, ParsedValue, SimpleKey}
use Rattle.toml_span_read.specs.Earlier.{part_names, crossed, crossing, value_at}
use Rattle.toml_span_read.proofs.EarlierLemmas.{clear_from, same_path as same_names}
use Rattle.toml_span.specs.declared.claims.ClaimInfo.{ClaimInfo}
use Rattle.toml_span.specs.declared.claims.ClaimKind.{ClaimKind}
use Rattle.toml_span.specs.declared.claims.ClaimKind.TheVariants.{Dotted, Assigned}
use Rattle.toml_span.specs.declared.claims.ClashInfo.{ClashInfo}
use Rattle.toml_span.specs.Claims.{Claim, Claims, no_claims, claimed, scope, assigned, dotted, key_claims, value_claims, assignments_claims}
use Rattle.toml_span.specs.code.Placing.{assignment_claims}
use Rattle.toml_span_read.specs.Paths.{same_path, with_key}
use Rattle.toml_span.specs.code.ClaimInfos.{earliest_clash_info, has_kind, with_name}
use Rattle.toml_span.specs.code.Machine.{CellMap, change, with_claim, show_all, put_all, clash_found, earliest_clash}
use Rattle.toml_span.proofs.Claimed.{remember-cases, same_kind-eq}
use Rattle.toml_span_read.proofs.PathLemmas.{same_step-self}
use Rattle.toml_span.proofs.Grafts.{put_all-followed}
use Rattle.toml_span.proofs.Shown.{show_all-infos}

path-self : (p : Path) → same_path p p ≡ true
unfolding same_path
path-self [] = refl
path-self (s ∷ p) = grind (arith, nat_tests, common_steps, same_step-self, path-self p)

-- ---- values in the state

-- whether a value is assigned at the path
abbrev has_value : CellMap → Path → Bool
has_value st p = has_kind (st p).infos Assigned

kind-kept : (ms : List ClaimInfo) (m : ClaimInfo) (kind : ClaimKind) → has_kind ms kind ≡ true → has_kind (ms ++ m ∷ []) kind ≡ true
kind-kept [] m kind h = absurd (false≢true h)
kind-kept (x ∷ ms) m kind h = grind (arith, nat_tests, common_steps, kind-kept ms m kind)

kind-last : (ms : List ClaimInfo) (m : ClaimInfo) → has_kind (ms ++ m ∷ []) m.kind ≡ true
kind-last [] m = grind (arith, nat_tests, common_steps)
kind-last (x ∷ ms) m = grind (arith, nat_tests, common_steps, kind-last ms m)

kept-one : (st : CellMap) (c : Claim) (p : Path) → has_value st p ≡ true → has_value (change st c.path (with_claim c)) p ≡ true
unfolding change
kept-one st c p h = grind (arith, nat_tests, common_steps, kind-kept, remember-cases)

kept : (st : CellMap) (cs : Claims) (p : Path) → has_value st p ≡ true → has_value (put_all st cs) p ≡ true
unfolding put_all
kept st no_claims p h = h
kept st (claimed c cs) p h = kept (change st c.path (with_claim c)) cs p (kept-one st c p h)
kept st (scope inner cs) p h = kept (show_all st inner) cs p (rw (show_all-infos st inner p) h)

made-one : (st : CellMap) (c : Claim) → c.info.kind ≡ Assigned → has_value (change st c.path (with_claim c)) c.path ≡ true
unfolding change
made-one st c is = grind (arith, nat_tests, common_steps, path-self c.path, kind-last, remember-cases)

-- the value of a key
made : (st : CellMap) (p : Path) (k : SimpleKey) (more : List SimpleKey) (v : ParsedValue) (inside : Path → Claims) → has_value (put_all st (key_claims p (k ∷ more) v inside)) (p ++ map key (part_names (k ∷ more))) ≡ true
unfolding key_claims put_all
made st p k [] v inside =
    let c = assigned (with_key p k) k v in
    kept (change st (with_key p k) (with_claim c)) (inside (with_key p k)) (with_key p k) (made-one st c refl)
made st p k (l ∷ more) v inside =
    let q = with_key p k in
    let next = change st q (with_claim (dotted q k v)) in
    subst (λ r. has_value (put_all next (key_claims q (l ∷ more) v inside)) r ≡ true) (append_assoc p (key k.name ∷ []) (map key (part_names (l ∷ more)))) (made next q l more v inside)

named-made : (st : CellMap) (parts : List SimpleKey) (v : ParsedValue) (inside : Path → Claims) (name : List ℕ) (names : List (List ℕ)) → part_names parts ≡ name ∷ names
    → has_value (put_all st (key_claims [] parts v inside)) (key name ∷ map key names) ≡ true
named-made st [] v inside name names is = cc
named-made st (k ∷ more) v inside name names is = subst (λ ns. has_value (put_all st (key_claims [] (k ∷ more) v inside)) (map key ns) ≡ true) is (made st [] k more v inside)

-- the value of an assignment
value-made : (st : CellMap) (es : List ParsedAssignment) (name : List ℕ) (names : List (List ℕ)) (at : Span) → value_at es (name ∷ names) ≡ Some at
    → has_value (put_all st (assignments_claims es [])) (key name ∷ map key names) ≡ true
unfolding value_at assignments_claims
value-made st [] name names at h = cc
value-made st (e ∷ es) name names at h =
    subst (λ (s : CellMap). has_value s (key name ∷ map key names) ≡ true) (sym (put_all-followed st (assignment_claims e []) (assignments_claims es [])))
    (elim (cases_Bool (pointwise bytes_eq (part_names e.parts) (name ∷ names))) [
      | inl same ↦
          let is : part_names e.parts ≡ name ∷ names = grind (arith, nat_tests, common_steps, same_names (part_names e.parts) (name ∷ names)) in
          kept (put_all st (assignment_claims e [])) (assignments_claims es []) (key name ∷ map key names) (named-made st e.parts e.value (value_claims e.value) name names is)
      | inr other ↦ value-made (put_all st (assignment_claims e [])) es name names at (rw other at h)
    ])

-- ---- a key that clashes with nothing

clash-value : (ms : List ClaimInfo) (m : ClaimInfo) → m.kind ≡ Dotted → has_kind ms Assigned ≡ true → earliest_clash_info ms m ≡ None → ⊥
clash-value [] m is h none = absurd (false≢true h)
clash-value (x ∷ ms) m is h none = grind (arith, nat_tests, common_steps, same_kind-eq, clash-value ms m is)

both-none : {A : Type 0} (x y : Option A) → option_or x y ≡ None → (x ≡ None) × (y ≡ None)
both-none None y h = (refl, h)
both-none (Some x) y h = cc

unmapped : (name : List ℕ) (o : Option ClashInfo) → option_map (with_name name) o ≡ None → o ≡ None
unmapped name None h = refl
unmapped name (Some x) h = cc

clear-first : (at : ℕ) (o : Option Span) (p : Option (ℕ × Span)) → o ≡ None → p ≡ None → option_or (option_map (λ first. (at, first)) o) p ≡ None
clear-first at o p none rest = rw none rest

none-or : (o : Option Span) → ((at : Span) → o ≡ Some at → ⊥) → o ≡ None
none-or None h = refl
none-or (Some at) h = absurd (h at refl)

clear : (st : CellMap) (f : List (List ℕ) → Option Span) (p : Path) (parts : List SimpleKey) (v : ParsedValue) (inside : Path → Claims)
    → ((name : List ℕ) (names : List (List ℕ)) (at : Span) → f (name ∷ names) ≡ Some at → has_value st (p ++ (key name ∷ map key names)) ≡ true)
    → clash_found st (key_claims p parts v inside) ≡ None → crossed f parts ≡ None
unfolding crossed key_claims clash_found
clear st f p [] v inside known none = refl
clear st f p (k ∷ []) v inside known none = refl
clear st f p (k ∷ l ∷ more) v inside known none =
    let q = with_key p k in
    let c = dotted q k v in
    let next = change st q (with_claim c) in
    let both = both-none (earliest_clash (st q).infos c.info c.name) (clash_found next (key_claims q (l ∷ more) v inside)) none in
    let first = unmapped c.name (earliest_clash_info (st q).infos c.info) both.0 in
    let here : f (k.name ∷ []) ≡ None = none-or (f (k.name ∷ [])) (λ at is. clash-value (st q).infos c.info refl (known k.name [] at is) first) in
    clear-first k.span.start (f (k.name ∷ [])) (crossed (λ names. f (k.name ∷ names)) (l ∷ more)) here
    (clear next (λ names. f (k.name ∷ names)) q (l ∷ more) v inside
    (λ name names at is.
    subst (λ r. has_value next r ≡ true) (sym (append_assoc p (key k.name ∷ []) (key name ∷ map key names))) (kept-one st c (p ++ (key k.name ∷ key name ∷ map key names)) (known k.name (name ∷ names) at is)))
    both.1)

-- Assignments have been placed, and another one after them.
pub clear-placed : (st : CellMap) (es : List ParsedAssignment) (e : ParsedAssignment) → clash_found (put_all st (assignments_claims es [])) (assignment_claims e []) ≡ None → crossing es e ≡ None
clear-placed st es e none =
    clear_from es e (clear (put_all st (assignments_claims es [])) (value_at es) [] e.parts e.value (value_claims e.value) (value-made st es) none)
