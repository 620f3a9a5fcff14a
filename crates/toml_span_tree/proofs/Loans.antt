-- A `&mut` that is lent on: what is known of the lender's final value, one step at a time. Assumes `Logic`.
--     so_then        joins two steps
--     so_on          the same if the first is a function
--     so_of          a function is a relation
--     so_some        weakens a relation; one that is also defined for `None` holds if there is a reference
--     so_none        what is known of the lender's final value if there is no reference
--     some_opened    a reference in a `Some`: the machine value, and the reference
--     some_closed    puts a reference into a `Some`
--     none_closed    a `None` owns nothing
-- Toolchain: an `ensures*` is proved by the borrow checker only if it is a `follows`. Here each step is a function
-- `&mut A -> &mut B` with a walk over its MIR (`Proof.antt`), and `so_then` joins two. No rule opens a variant of a
-- recursive enum behind a `&mut`: `Payloads.antt` says what a table or an array owns.
use Rattle.toml_span_tree.proofs.Walks.{Ura, ent, sep, GName, Fml, fres, fsep, feq, fex, ftrue, Logic, sem, ‵, raw, ◌$◌, ◌∵◌, !, qed, done, by, move, use2, fpick, fpack, RattleType, Valss, owns, in_a_row, nothing, follows_if, follows_so, follows_then, ⊤, ◌++◌, named, Val, vptr, vcons, vnil, of_list, Lft, emp, fact, fact_i, use0, keep, fsplit, fjoin, feq_l, feq_i, live, MutRef, mut_vals, only}
use denote.Follow.{such_by, follows_by}
use mathlib.Core.Path.{◌≡◌, refl, ap, ◌∙◌}
use mathlib.Core.Option.{Option, none, some}
use Rattle.std.specs.Prelude.{Some, None}
use Rattle.std.specs.Borrow.{Lends}
use Rattle.toml_span_tree.specs.code.Lending.{LendsBy}
use mathlib.Core.List.{List, [], ◌∷◌}
use denote.Ref.{MutBor}
use Prim.Native.Nat.{ℕ}
use Rattle.std.specs.contracts.option.Option as O

module _ {M : Type 1} {𝓤 : Ura M} (𝓛 : Logic 𝓤) (R T : RattleType) (r : MutBor R.Denot) where
  abbrev Such : (T.Denot → R.Denot → Type 0) → (R.Denot → Type 0) → Type 0
  Such P P₀ = (s : (T.Denot → R.Denot) × R.Denot) × ((w : T.Denot) → P w (s.0 w)) × P₀ s.1

  abbrev Packed : Option GName → (T.Denot → R.Denot) × R.Denot → Fml
  Packed m s = follows_if R T r.ghost_name m s.0 s.1

  pub so_none : (Q : T.Denot → R.Denot → Type 0) (Q₀ : R.Denot → Type 0) (v : R.Denot) → ((w : T.Denot) → Q w v) → Q₀ v
      → ent 𝓤 (sem 𝓛 (fres r.ghost_name (R.coded.code v))) (sem 𝓛 (follows_so R T r.ghost_name none Q Q₀))
  unfolding such_by follows_by
  so_none Q Q₀ v h h₀ = qed 𝓛 (‵ (fres r.ghost_name (R.coded.code v)) ∷ []) ∵ fpack ! (Such Q Q₀) (λ s. Packed none s.0) (((λ w. v), v), h, h₀) $ done !

  module _ (t : MutBor T.Denot) where
    abbrev So : (T.Denot → R.Denot → Type 0) → (R.Denot → Type 0) → Fml
    So = follows_so R T r.ghost_name (some t.ghost_name)

    pub so_some : (P Q : T.Denot → R.Denot → Type 0) (P₀ Q₀ : R.Denot → Type 0) → ((w : T.Denot) (n : R.Denot) → P w n → Q w n) → (v : R.Denot) → Q₀ v
        → ent 𝓤 (sem 𝓛 (So P P₀)) (sem 𝓛 (So Q Q₀))
    unfolding such_by follows_by
    so_some P Q P₀ Q₀ h v h₀ = qed 𝓛 (‵ (So P P₀) ∷ []) ∵ fpick ! (λ s. fpack ! (Such Q Q₀) (λ s. Packed (some t.ghost_name) s.0) ((s.0.0, v), (λ w. h w (s.0.0 w) (s.1 w)), h₀) $ done !)

    pub so_of : (F : T.Denot → R.Denot) (P : R.Denot → T.Denot → Type 0) → ((w : T.Denot) → P (F w) w) → ent 𝓤 (sem 𝓛 (Lends R T r t F)) (sem 𝓛 (LendsBy R T r t P))
    unfolding such_by follows_by
    so_of F P h = qed 𝓛 (‵ (Lends R T r t F) ∷ []) ∵ fpack ! (Such (λ w n. P n w) (λ _. ⊤)) (λ s. Packed (some t.ghost_name) s.0) ((F, r.now), h, tt) $ done !

module _ {M : Type 1} {𝓤 : Ura M} (𝓛 : Logic 𝓤) (R T U : RattleType) (r : MutBor R.Denot) (t : MutBor T.Denot) (u : MutBor U.Denot) where
  pub so_on : (F : T.Denot → R.Denot) (Q : T.Denot → U.Denot → Type 0) (S : R.Denot → U.Denot → Type 0) → ((w : U.Denot) (m : T.Denot) → Q m w → S (F m) w)
      → ent 𝓤 (sep 𝓤 (sem 𝓛 (Lends R T r t F)) (sem 𝓛 (LendsBy T U t u Q))) (sem 𝓛 (LendsBy R U r u S))
  unfolding such_by follows_by
  so_on F Q S h = qed 𝓛 (‵ (Lends R T r t F) ∷ ‵ (LendsBy T U t u Q) ∷ []) ∵ move ! (1 ∷ []) $ fpick ! (λ s. move ! (1 ∷ 0 ∷ []) $
      use2 𝓛 (‵ (Lends R U r u (λ w. F (s.0.0 w)))) (follows_then 𝓛 R T U F s.0.0 r.ghost_name t.ghost_name u.ghost_name) $
      by ! (so_of 𝓛 R U r u (λ w. F (s.0.0 w)) S (λ w. h w (s.0.0 w) (s.1 w))))

  pub so_then : (P : R.Denot → T.Denot → Type 0) (Q : T.Denot → U.Denot → Type 0) (S : R.Denot → U.Denot → Type 0) → ((w : U.Denot) (m : T.Denot) (n : R.Denot) → Q m w → P n m → S n w)
      → ent 𝓤 (sep 𝓤 (sem 𝓛 (LendsBy R T r t P)) (sem 𝓛 (LendsBy T U t u Q))) (sem 𝓛 (LendsBy R U r u S))
  unfolding such_by follows_by
  so_then P Q S h = qed 𝓛 (‵ (LendsBy R T r t P) ∷ ‵ (LendsBy T U t u Q) ∷ []) ∵ fpick ! (λ s. by ! (so_on s.0.0 Q S (λ w m q. h w m (s.0.0 m) q (s.1 m))))

module _ {M : Type 1} {𝓤 : Ura M} (𝓛 : Logic 𝓤) (κ : Lft) (R : RattleType) (x : MutBor R.Denot) (v : Val) where
  pub some_opened : ent 𝓤 (sem 𝓛 ((O.the_row (MutRef (named 0) κ R)).own_val (Some x) (v ∷ []))) (sep 𝓤 (fact 𝓤 (v ≡ live 1 (vcons (vptr x.ref_ptr.0 x.ref_ptr.1) vnil))) (sem 𝓛 ((MutRef (named 0) κ R).own_val x (mut_vals x))))
  some_opened = qed 𝓛 (‵ ((O.the_row (MutRef (named 0) κ R)).own_val (Some x) (v ∷ [])) ∷ []) ∵
      fpick ! (λ us. fsplit ! $ feq_l ! (λ e. fpick ! (λ vss. fsplit ! $ feq_l ! (λ e'. fsplit ! $ fsplit ! $ feq_l ! (λ vis.
      feq_i ! (List Val) (mut_vals x) (mut_vals x) refl $ fjoin ! $
      use0 𝓛 (raw (fact 𝓤 (v ≡ live 1 (vcons (vptr x.ref_ptr.0 x.ref_ptr.1) vnil)))) (fact_i 𝓤 _ (emp 𝓤) (ap only e ∙ ap (λ (ws : List Val). live 1 (of_list ws)) (e' ∙ ap (λ (ws : List Val). ws ++ []) vis))) $
      keep ! (0 ∷ 1 ∷ []) $ done !)))))

  -- what the value of a variant owns, at the rows of its fields
  abbrev tagged : (k : ℕ) (Ts : List RattleType) → (Valss Ts → Fml) → List Val → List Val → Fml
  tagged k Ts F vs us = fsep (feq (List Val) vs (live k (of_list us) ∷ [])) (fex (Valss Ts) (in_a_row Ts F us))

  abbrev B : RattleType
  B = MutRef (named 0) κ R

  abbrev pub held : Val
  held = live 1 (vcons (vptr x.ref_ptr.0 x.ref_ptr.1) vnil)

  pub some_closed : ent 𝓤 (sem 𝓛 (B.own_val x (mut_vals x))) (sem 𝓛 ((O.the_row B).own_val (Some x) (held ∷ [])))
  some_closed = qed 𝓛 (‵ (B.own_val x (mut_vals x)) ∷ []) ∵ nothing ! $ move ! (1 ∷ 0 ∷ []) $ fjoin ! $ feq_i ! (List Val) (mut_vals x) (mut_vals x) refl $ fjoin ! $
      fpack ! (Valss (B ∷ [])) (in_a_row (B ∷ []) (owns (B ∷ []) (x, tt)) (mut_vals x)) (mut_vals x, tt) $
      feq_i ! (List Val) (held ∷ []) (held ∷ []) refl $ fjoin ! $ fpack ! (List Val) (tagged 1 (B ∷ []) (owns (B ∷ []) (x, tt)) (held ∷ [])) (mut_vals x) $ done !

  pub none_closed : ent 𝓤 (sem 𝓛 ftrue) (sem 𝓛 ((O.the_row B).own_val None (live 0 vnil ∷ [])))
  none_closed = qed 𝓛 (‵ ftrue ∷ []) ∵ feq_i ! (List Val) [] [] refl $ fjoin ! $
      fpack ! (Valss []) (in_a_row [] (owns [] tt) []) tt $
      feq_i ! (List Val) (live 0 vnil ∷ []) (live 0 vnil ∷ []) refl $ fjoin ! $ fpack ! (List Val) (tagged 0 [] (owns [] tt) (live 0 vnil ∷ [])) [] $ done !
