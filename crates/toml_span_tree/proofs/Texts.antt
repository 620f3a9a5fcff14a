-- A `&mut Value` and a string, as the functions that follow a pointer take them. Assumes `Logic`.
--     row, params, kept, stayed, goes, stored, tells      the parameters, in the form that `proved` requires
--     twice, text                                         a string is copied; a call returns a string
use Rattle.toml_span_tree.proofs.Walks.{◌≡◌, refl, ℕ, List, [], ◌∷◌, ap, w8, Bor, Lft, Val, ‵, ◌⊛◌, ◌$◌, named, plain, mut_ref_to, named_lft, yes, no, RattleType, Logic, Item, Is, shows, mut_vals, mut_Tells, Stays, stay_dropped, Goes-dropped, Goes-spent_ref, only, peeks, rewrite, split, use1, Ura, Lfts, Goal, Seq, Step, step, Spells, Tells, Tellss, Ises, UInt, Slot, types_at, shr_slice_vals, Str, StrRefOf, Utf8, str-copy, AllGo}
use denote.Triple.End.{Kepts}
use denote.Slice.{ShrSlice, shr_slice_Tells}
use denote.Such.{such_Tells}
use Rattle.toml_span_tree.specs.contracts.value.Value as value

abbrev pub row : Lfts 2 → RattleType
row κs = value.the_row (named_lft 2 1 tt κs)

abbrev pub params : List (Slot 2)
params = mut_ref_to (0 ∷ []) tt (plain row) ∷ StrRefOf (1 ∷ []) tt ∷ []

abbrev pub kept : Kepts params
kept = (no, (yes, tt))

abbrev pub stayed : Stays params kept
stayed = (stay_dropped (mut_ref_to (0 ∷ []) tt (plain row)) no, (stay_dropped (StrRefOf (1 ∷ []) tt) yes, tt))

abbrev pub goes : {M : Type 1} {𝓤 : Ura M} (𝓛 : Logic 𝓤) → AllGo 𝓛 2 params kept stayed
goes 𝓛 = (Goes-spent_ref 𝓛 2 (0 ∷ []) tt (plain row), (Goes-dropped 𝓛 2 (StrRefOf (1 ∷ []) tt) yes (λ κs x e. refl), tt))

abbrev pub stored : (κs : Lfts 2) → Spells (types_at params κs)
stored κs = (mut_vals, (shr_slice_vals, tt))

abbrev pub text_tells : (κ : Lft) → Tells (Str (named 1) κ) (Is (Str (named 1) κ)) shr_slice_vals
text_tells κ = such_Tells (ShrSlice (named 1) κ (UInt w8)) (λ x. Utf8 x.now) (λ x cs. (tt, tt)) shr_slice_vals (shr_slice_Tells (named 1) κ (UInt w8))

abbrev pub tells : (κs : Lfts 2) → Tellss (types_at params κs) (Ises (types_at params κs)) (stored κs)
tells κs = (mut_Tells (named 0) κs.0 (row κs), (text_tells κs.1.0, tt))

module _ {M : Type 1} {𝓤 : Ura M} {𝓛 : Logic 𝓤} {K : Type 0} {Γ : List (Item 𝓤)} {G : Goal 𝓤 𝓛.H} where
  pub twice : K → (κ : Lft) (x : Bor (List ℕ))
      → Step K 𝓛 (‵ ((Str (named 1) κ).own_val x (shr_slice_vals x)) ∷ ‵ ((Str (named 1) κ).own_val x (shr_slice_vals x)) ∷ Γ) G (‵ ((Str (named 1) κ).own_val x (shr_slice_vals x)) ∷ Γ) G
  twice i κ x = step (λ s. use1 𝓛 (‵ ((Str (named 1) κ).own_val x (shr_slice_vals x)) ⊛ ‵ ((Str (named 1) κ).own_val x (shr_slice_vals x)))
      (((str-copy (record { mir = named 1; lft = κ })).copies _ 𝓤 𝓛).twice x (shr_slice_vals x)) $ split i $ s)

  pub text : K → (κ : Lft) (x : Bor (List ℕ)) (v : Val) → (Is (Str (named 1) κ) x (v ∷ []) → v ≡ only (shr_slice_vals x) → Seq K 𝓛 (‵ ((Str (named 1) κ).own_val x (shr_slice_vals x)) ∷ Γ) G)
      → Seq K 𝓛 (‵ ((Str (named 1) κ).own_val x (v ∷ [])) ∷ Γ) G
  text i κ x v next = peeks i (Str (named 1) κ) (Is (Str (named 1) κ)) (shows 𝓛 (Str (named 1) κ)) x (v ∷ []) (λ is.
      rewrite i 0 (λ (us : List Val). ‵ ((Str (named 1) κ).own_val x us)) (text_tells κ x (v ∷ []) is) refl $ next is (ap only (text_tells κ x (v ∷ []) is)))
