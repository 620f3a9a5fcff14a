-- The names that manual proofs cite.
pub use Rattle.std.proofs.Common.{◌≡◌, ℕ, ◌≤◌, ◌<◌, ◌^◌, ◌+◌, ◌-◌, List, [], ◌∷◌, length, refl, sym, ap, subst, ◌∙◌, lit<, nltb→le, w8, w64, Bor, MutBor, arith, BTreeMap, Global, IsSome, None, Option, Some, Vec, drop as drop_l, slice_index_or, vec_len}
pub use Rattle.std.proofs.raw_atomic.Walks.{proved}
pub use Rattle.std.proofs.VecSteps.Shapes.{after, head, arm_body}
pub use base.Fraction.{full_share}
pub use base.Logic.{id⊢, ent, emp, via, sep, all, SProp, apply∗, wand}
pub use base.Fml.{Fml, Lft, Share, GName, ftrue, fsep, fat, fobs, fauth, fobor, flft, fres, fdead, feq, fex, flent}
pub use mir.Syntax.{ty_int, named, erased, Ty, Body, Dict, Sym, Tys, Tyss, dnil, impl, tcons, tnil, ty_enum}
pub use mir.Val.{Val, Vals, vunit, vint, vptr, of_list, vcons, vnil}
pub use contract.Monad.{fact, fact_i, Fun}
pub use contract.Running.{tables}
pub use prog.Wp.{Calls, Loops, Env, Wp, after_seq, WpFn}
pub use types.Logic.{Logic, sem}
pub use types.Kit.{Item, Post, any_q, post, ‵, raw, ◌⊛◌, some, later, prop, at_ret, mean, Sq, ◌$◌, ◌∵◌, !, qed, done, move, keep, drop, use0, use1, use2, use3, split, split3, join, fsplit, fsplit3, fjoin, fjoin3, feq_i, feq_l, pick, await, rewrite, regoal, suffices, frame, group, by, Goal, Seq, Soaks, Step, fpack, fpick, step, ⋆}
pub use types.Run.{enter, of_opd, lit, unit_lit, bin, addr, load, look, store, stop, fld, hop, no_more, and_then, assigns, assigns_last, first, blocks, branches, skips, exec, returns, returns_within, switches_on, well_typed, from}
pub use types.Part.{whole, agg}
pub use types.Match.{live, vrt, look_tag, by_variants, in_variant}
pub use types.ByLocal.{alloc_all, pass_all, free_all, look_at, get, through, sets, sets_last, lands_as, env, get_in, get_tag, give_at, take_at}
pub use types.Mut.{open_ref}
pub use types.SemTy.{Body as BodyAt}
pub use denote.Builtin.{usize, bool, unit}
pub use denote.Exit.{yes, no}
pub use denote.Laws.{shows, Is, Ises, Spells, Tells, Tellss}
pub use denote.Memory.{mem, part_at, lone}
pub use denote.Plain.{uint_vals, uint_Tells, uint_row_laws, uint_Makes, UInt}
pub use denote.Ref.{MutRef, mut_vals, mut_Tells, NamedLft, ShrRef, shr_Tells, shr_vals}
pub use denote.RattleType.{RattleType, Valss, owns}
pub use denote.Follow.{follows, follows_so, follows_if, follows_then, lends_Part}
pub use denote.Signature.{plain, mut_ref_to, named_lft, Slot, shr_ref_to, types_at}
pub use denote.Steps.{nothing, owned, heard, peeks, only, facts}
pub use denote.Triple.Call.{calls_at, calls_from}
pub use denote.Triple.Clauses.{Lasts, lasts}
pub use denote.Triple.Entry.{on_entry}
pub use denote.Triple.Spec.{triple_of}
pub use denote.Triple.Walked.{Stays, walk_of, says, stay_dropped, Goes-dropped, Goes-spent_ref, ends_at, AllGo, walk_meets_at, walked_at}
pub use denote.Triple.Table.{framed}
pub use borrow.Follows.Kept.{follows_itself}
pub use mathlib.Core.Bool.{Bool, true, false}
pub use lib.Dec.{T, T_not}
pub use Rattle.std.specs.Cow.{cow_str_bytes}
pub use Rattle.std.specs.Prelude.{⊤}
pub use Rattle.std.specs.Vec.{with_item}
pub use Rattle.std.specs.contracts.impls.GlobalAllocator.TheImpl.{ghosts}
pub use Rattle.toml_span_lex.specs.declared.key.Key.{Key}
pub use Rattle.toml_span_tree.specs.Node.{get_member}
pub use Rattle.toml_span_tree.specs.Pointer.{pointed, segments}
pub use Rattle.toml_span_tree.specs.Value.{inner_view, members_view, view}
pub use Rattle.toml_span_tree.specs.code.Lending.{lends_at, lends_child, lends_entry, lends_item, lends_member, lends_named}
pub use Rattle.toml_span_tree.specs.code.Pointer.{entry, untaken_entry, value_named}
pub use Rattle.toml_span_tree.specs.declared.value.Value.{Value}
pub use Rattle.toml_span_tree.specs.declared.value.ValueInner.{Array, Table}
pub use base.FractionLaws.{common}
pub use base.Share.{left, right}
pub use borrow.Table.OneValue.{part_in_at, part_out_at}
pub use contract.BorrowLft.{meet_⊑_left, meet_⊑_right, ⊑_meet, ◌⊑◌}
pub use contract.Lifetimes.{Lfts, Shares}
pub use denote.Enum.Enum.{in_a_row, payload as pays, tag}
pub use denote.Param.{arg, layout}
pub use denote.Param.Laws.{Laws, arg_copy, arg_laws, of_copyable, of_field}
pub use denote.Param.NoDrop.{glues}
pub use denote.Slice.{shr_slice_vals}
pub use denote.Text.{Str, StrRefOf, Utf8, str-copy}
pub use mathlib.Core.List.{not-mem-nil, ◌++◌}
pub use mathlib.Core.Logic.{inl, inr, ⊎_elim}
pub use mathlib.Core.Option.{some as some'}
pub use mir.Raw.{raw as bare, raw as raw_ty}
pub use seplogic.Ra.Ura.{Ura}
pub use types.Tokens.{lft-common, lft_end, lft_new}
use seplogic.Ra.Ura.{Ura}
use types.Kit.{Seq, Step, Goal, Soaks, step}

-- runs the statements after a part of a body
module _ {M : Type 1} {𝓤 : Ura M} (𝓛 : Logic 𝓤) where
  open 𝓛 use {H}

  abbrev pub then_runs : Calls 𝓤 H → Loops 𝓤 H → Env 𝓤 H → Body → Post 𝓤 H → Post 𝓤 H
  then_runs C Λ E b q = any_q (after_seq 𝓤 H (Wp 𝓤 H C Λ E b (post 𝓤 H q)) (post 𝓤 H q))

-- ---- the steps that the walks share
module _ {M : Type 1} {𝓤 : Ura M} {𝓛 : Logic 𝓤} {K : Type 0} where
  open 𝓛 use {H}

  -- at the start: two arguments, the tokens, and the preconditions
  pub begins : K → {G : Goal 𝓤 H} {a b : Fml} {t : Item 𝓤} {φ : Type 0} → (φ → Seq K 𝓛 (‵ a ∷ ‵ b ∷ t ∷ []) G) → Seq K 𝓛 ((t ⊛ ‵ a ⊛ ‵ b ⊛ ‵ ftrue) ∷ raw (fact 𝓤 φ) ∷ []) G
  begins i next = move i (1 ∷ []) $ heard i _ (λ x. split i $ move i (1 ∷ []) $ split3 i $ keep i (0 ∷ 1 ∷ 3 ∷ []) $ next x)

  -- at the return of a reference m, of which f is known and x shown
  pub ends : K → {P : SProp 𝓤} {m f : Fml} {t : Item 𝓤} {φ : Type 0}
      → ent 𝓤 (sep 𝓤 (sep 𝓤 (mean 𝓛 t) (sep 𝓤 (sem 𝓛 (fsep ftrue (fsep ftrue ftrue))) (sem 𝓛 m))) (sep 𝓤 (sem 𝓛 f) (fact 𝓤 φ))) P → φ → Seq K 𝓛 (‵ m ∷ ‵ f ∷ t ∷ []) (prop P)
  ends i {P} h x = suffices i _ h $ move i (0 ∷ 2 ∷ []) $ nothing i $ nothing i $ fjoin i $ nothing i $ fjoin i $ join i $ move i (1 ∷ 0 ∷ []) $ join i $ frame i $ says i x $ done i

  module _ {Γ : List (Item 𝓤)} {G : Goal 𝓤 H} where
    -- what a call takes: its arguments, the tokens, and its preconditions
    pub hands1 : {a : Fml} {t : Item 𝓤} {A : SProp 𝓤} → K → ent 𝓤 (emp 𝓤) A → (P : SProp 𝓤) → ent 𝓤 (sep 𝓤 (sep 𝓤 (mean 𝓛 t) (sem 𝓛 (fsep a ftrue))) A) P → Step K 𝓛 (raw P ∷ Γ) G (‵ a ∷ t ∷ Γ) G
    hands1 {A = A} i x P h = step (λ s. nothing i $ move i (1 ∷ 0 ∷ []) $ fjoin i $ move i (1 ∷ 0 ∷ []) $ join i $ use0 𝓛 (raw A) x $ move i (1 ∷ 0 ∷ []) $ use2 𝓛 (raw P) h $ s)

    pub args : {a b : Fml} {t : Item 𝓤} → K → Step K 𝓛 ((t ⊛ ‵ (fsep a (fsep b ftrue))) ∷ Γ) G (‵ a ∷ ‵ b ∷ t ∷ Γ) G
    args i = step (λ s. nothing i $ move i (2 ∷ 0 ∷ []) $ fjoin i $ move i (1 ∷ 0 ∷ []) $ fjoin i $ move i (1 ∷ 0 ∷ []) $ join i $ s)

    pub hands : {a b : Fml} {t : Item 𝓤} {φ : Type 0} → K → φ → (P : SProp 𝓤) → ent 𝓤 (sep 𝓤 (sep 𝓤 (mean 𝓛 t) (sem 𝓛 (fsep a (fsep b ftrue)))) (fact 𝓤 φ)) P → Step K 𝓛 (raw P ∷ Γ) G (‵ a ∷ ‵ b ∷ t ∷ Γ) G
    hands {φ = φ} i x P h = step (λ s. args i $ use0 𝓛 (raw (fact 𝓤 φ)) (fact_i 𝓤 φ (emp 𝓤) x) $ move i (1 ∷ 0 ∷ []) $ use2 𝓛 (raw P) h $ s)

    -- what a call returns: the postconditions for the result y, the result and the tokens
    pub gives : K → Soaks G → (R : RattleType) (v : Val) (t : Item 𝓤) {W : Type 0} (L : W → Fml) (E : R.Denot → Item 𝓤) {B : SProp 𝓤}
        → ent 𝓤 B (mean 𝓛 (later (some (λ (y : R.Denot). (t ⊛ ‵ (R.own_val y (v ∷ []))) ⊛ some (λ (ws : W). ‵ (L ws) ⊛ E y)))))
        → ((y : R.Denot) → Seq K 𝓛 (E y ∷ ‵ (R.own_val y (v ∷ [])) ∷ t ∷ Γ) G) → Seq K 𝓛 (raw B ∷ Γ) G
    gives i z R v t {W} L E h next =
        use1 𝓛 (later (some (λ (y : R.Denot). (t ⊛ ‵ (R.own_val y (v ∷ []))) ⊛ some (λ (ws : W). ‵ (L ws) ⊛ E y)))) h $
        await i z $ pick i (λ y. split i $ move i (1 ∷ []) $ pick i (λ ws. split i $ drop i $ move i (1 ∷ []) $ split i $ move i (2 ∷ 1 ∷ 0 ∷ []) $ next y))

    -- the same for a reference that is lent on; F is known of the borrow
    pub lends : K → Soaks G → (κ : Lft) (T : RattleType) (v : Val) (t : Item 𝓤) {W : Type 0} (L : W → Fml) (F : MutBor T.Denot → Fml) (φ : MutBor T.Denot → Type 0) {B : SProp 𝓤}
        → ent 𝓤 B (mean 𝓛 (later (some (λ (y : MutBor T.Denot). (t ⊛ ‵ ((MutRef (named 0) κ T).own_val y (v ∷ []))) ⊛ some (λ (ws : W). ‵ (L ws) ⊛ (‵ (F y) ⊛ raw (fact 𝓤 (φ y))))))))
        → ((y : MutBor T.Denot) → φ y → v ≡ vptr y.ref_ptr.0 y.ref_ptr.1 → Seq K 𝓛 (‵ ((MutRef (named 0) κ T).own_val y (mut_vals y)) ∷ ‵ (F y) ∷ t ∷ Γ) G) → Seq K 𝓛 (raw B ∷ Γ) G
    lends i z κ T v t L F φ h next = gives i z (MutRef (named 0) κ T) v t L (λ y. ‵ (F y) ⊛ raw (fact 𝓤 (φ y))) h (λ y.
        split i $ move i (1 ∷ []) $ heard i _ (λ x. move i (1 ∷ []) $ fsplit i $ feq_l i (λ vis. feq_i i (List Val) (mut_vals y) (mut_vals y) refl $ fjoin i $ next y x (ap only vis))))

-- the answer of a test
pub is-true : (x : Bool) → T x → x ≡ true
is-true true t = refl
is-true false t = absurd t

pub is-false : (x : Bool) → (T x → ⊥) → x ≡ false
is-false true t = absurd (t tt)
is-false false t = refl
