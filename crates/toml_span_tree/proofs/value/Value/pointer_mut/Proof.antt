-- The value that a pointer names is lent, if there is one.
use Rattle.toml_span_tree.proofs.Walks.{◌≡◌, ℕ, List, [], ◌∷◌, refl, sym, ap, lit<, full_share, Bor, MutBor, id⊢, ftrue, flft, named, Val, vptr, fact, tables, ‵, raw, ◌⊛◌, some, later, at_ret, ◌$◌, ◌∵◌, !, qed, move, keep, drop, use1, use2, split, split3, fsplit, pick, await, rewrite, by, enter, addr, stop, no_more, and_then, returns, alloc_all, pass_all, free_all, look_at, get, through, sets, lands_as, env, MutRef, mut_vals, RattleType, follows_so, nothing, heard, only, calls_at, Lasts, lasts, triple_of, walk_of, ends_at, framed, Ura, Logic, Item, ⋆, ent, SProp, Fun, Lfts, Shares, Bool, true, false, T_not, bool, Str, shr_slice_vals, shows, facts, first, branches, skips, exec, returns_within, some', ⊤, Some, IsSome, Value, view, pointed, live, vnil, after, sep, wand, apply∗, Lft, fres, fdead, left, right, common, fsplit3, use3, lft_new, lft_end, lft-common, agg, lit, ◌⊑◌, meet_⊑_left, meet_⊑_right, GName, proved, None, ends, args, hands, lends, is-true, is-false, group, lends_at}
use prog.Memory.{Memory}
use prog.Routine.{Routine}
use contract.Lifetimes.{AllOutlive}
use Rattle.toml_span_tree.specs.Pointer.{put_pointed}
use Rattle.toml_span_tree.proofs.Loans.{so_some, so_none, some_closed, none_closed, held}
use mathlib.Core.Option.{none as none'}
use denote.Lend.{lends_again, comes_back, LentAgain}
use Rattle.std.specs.Option.{OnSome}
use Rattle.toml_span_tree.proofs.value.Value.pointer_mut.Statement.{statement}
use Rattle.toml_span_tree.proofs.Texts.{row, stayed, goes, stored, tells, twice}
use denote.Triple.Statement.{Contract}
use Rattle.std.specs.contracts.option.Option as O
use Rattle.toml_span_tree.specs.contracts.pointer.is_pointed as e
use Rattle.toml_span_tree.proofs.pointer.is_pointed.Met as e-thm
use Rattle.toml_span_tree.specs.contracts.pointer.at_pointer as g
use Rattle.toml_span_tree.proofs.pointer.at_pointer.Met as g-thm
use Rattle.toml_span_tree.specs.contracts.value.Value.pointer_mut as f
use Rattle.toml_span_tree.proofs.value.Value.pointer_mut.Code as code

module _ {M : Type 1} {𝓤 : Ura M} (𝓛 : Logic 𝓤) (at_mem : Memory → SProp 𝓤) (run' : Routine → Fun 𝓤) (κs : Lfts 2) (qs : Shares 2) (bounds : AllOutlive 2 f.ended.signature.outlives κs) (r : MutBor Value) (path : Bor (List ℕ)) where
  abbrev W : Contract 𝓤
  W = walk_of 𝓛 f.ended stayed (f.clauses 𝓛 at_mem run')

  abbrev Y : W.Ghost
  Y = ((κs, qs, bounds, (r, (path, tt)), (mut_vals r, (shr_slice_vals path, tt))), tt)

  abbrev V : RattleType
  V = row κs

  abbrev F : Value → Value → Type 0
  F w n = view n ≡ put_pointed path.now (view w) (view r.now)

  abbrev tokens : Item 𝓤
  tokens = ‵ (flft κs.0 qs.0) ⊛ ‵ (flft κs.1.0 qs.1.0) ⊛ ‵ ftrue

  abbrev Left : MutBor Value → List (Item 𝓤)
  Left m = ‵ ((MutRef (named 0) κs.0 V).own_val m (mut_vals m)) ∷ ‵ (lends_at r path.now m) ∷ tokens ∷ []

  -- the return, with a reference m
  leaves_with : (m : MutBor Value) → pointed path.now (view r.now) ≡ Some (view m.now) → ent 𝓤 (⋆ 𝓛 (Left m)) (W.post Y (held 𝓛 κs.0 V m (vptr m.ref_ptr.0 m.ref_ptr.1)))
  leaves_with m there =
      qed 𝓛 (Left m) ∵
      use1 𝓛 (‵ ((O.the_row (MutRef (named 0) κs.0 V)).own_val (Some m) (held 𝓛 κs.0 V m (vptr m.ref_ptr.0 m.ref_ptr.1) ∷ []))) (some_closed 𝓛 κs.0 V m (vptr m.ref_ptr.0 m.ref_ptr.1)) $ move ! (1 ∷ []) $
      use1 𝓛 (‵ (follows_so V V r.ghost_name (some' m.ghost_name) (λ w n. OnSome (Some m) (F w n)) (λ n. n ≡ r.now))) (so_some 𝓛 V V r m F F (λ _. ⊤) (λ n. n ≡ r.now) (λ w n p. p) r.now refl) $
      move ! (1 ∷ []) $ ends ! (ends_at 𝓛 f.ended stayed (f.clauses 𝓛 at_mem run') Y (held 𝓛 κs.0 V m (vptr m.ref_ptr.0 m.ref_ptr.1)) (Some m) (tt, (tt, tt)) (tt, (tt, tt))) (sym there)

  abbrev Empty : List (Item 𝓤)
  Empty = ‵ ((MutRef (named 0) κs.0 V).own_val r (mut_vals r)) ∷ tokens ∷ []

  -- the return with none: the reference is given up as it is
  leaves_none : pointed path.now (view r.now) ≡ None → ent 𝓤 (⋆ 𝓛 Empty) (W.post Y (live 0 vnil))
  leaves_none none =
      qed 𝓛 Empty ∵ fsplit3 ! $ move ! (1 ∷ []) $ use1 𝓛 (‵ (fres r.ghost_name (V.coded.code r.now))) (𝓛.names.obs-res r.ghost_name (V.coded.code r.now)) $ keep ! (0 ∷ 3 ∷ []) $
      use1 𝓛 (‵ (follows_so V V r.ghost_name none' (λ w n. OnSome {T = MutBor Value} None (F w n)) (λ n. n ≡ r.now))) (so_none 𝓛 V V r (λ w n. OnSome {T = MutBor Value} None (F w n)) (λ n. n ≡ r.now) r.now (λ w. tt) refl) $
      nothing ! $ use1 𝓛 (‵ ((O.the_row (MutRef (named 0) κs.0 V)).own_val None (live 0 vnil ∷ []))) (none_closed 𝓛 κs.0 V r (vptr r.ref_ptr.0 r.ref_ptr.1)) $
      ends ! (ends_at 𝓛 f.ended stayed (f.clauses 𝓛 at_mem run') Y (live 0 vnil) None (tt, (tt, tt)) (tt, (tt, tt))) (sym none)

pub pointer_mut_spec : {M : Type 1} → statement M
pointer_mut_spec 𝓤 𝓛 𝓜 𝓡 wired =
    let c = f.clauses 𝓛 𝓜.mem 𝓡.returns in
    let 𝓣 = tables 𝓤 𝓛.H 𝓜 𝓡 𝓡.env in
    let fn = code.function in
    proved 𝓛 f.ended stayed c 𝓜 𝓡 (goes 𝓛) f.Key.name code.function (code.unfolded 𝓤 𝓛.H 𝓜 𝓡 wired) stored tells (λ κs qs bounds a _ are.
    let κ = κs.0 in let q = qs.0 in let κ' = κs.1.0 in let q' = qs.1.0 in let r = a.0 in let path = a.1.0 in let b = r.ref_ptr.0 in let o = r.ref_ptr.1 in let γ = r.ghost_name in let V = row κs in
    let vs = mut_vals r in let one = ‵ (flft κ' q') ⊛ ‵ ftrue in
    qed 𝓛 (((‵ (flft κ q) ⊛ one) ⊛ ‵ ((MutRef (named 0) κ V).own_val r vs) ⊛ ‵ ((Str (named 1) κ').own_val path (shr_slice_vals path)) ⊛ ‵ ftrue) ∷ ‵ ftrue ∷ []) ∵
    split ! $ split3 ! $ move ! (3 ∷ []) $ split3 ! $ keep ! (0 ∷ 1 ∷ 3 ∷ 4 ∷ []) $ move ! (1 ∷ []) $ twice ! κ' path $
    -- [the pointer, twice; the reference; κ; κ']
    enter ! _ _ _ _ _ $ alloc_all ! (λ l. pass_all ! refl ((tt, tt), ((tt, (tt, (record { fits = are.1.0.0.0.1.0 }, tt))), tt)) $ let En = env fn.locals l in
    sets ! (addr ! (through ! refl (stop !))) refl (tt, tt) $
    lft_new ! tt (λ β. let κ'' : Lft = β ∷ κ' in let s = (common full_share (right q')).0 in
    let below : κ'' ⊑ κ' = meet_⊑_right (β ∷ []) κ' in let Both : SProp 𝓤 = sep 𝓤 (𝓛.A.lft (β ∷ []) full_share) (𝓛.A.lft κ' (right q')) in
    -- [β; the pointer, twice; the reference; κ; κ']
    move ! (5 ∷ []) $ use1 𝓛 (‵ (flft κ' (left q')) ⊛ ‵ (flft κ' (right q'))) (𝓛.lfts.lft_split κ' q') $ split ! $
    move ! (2 ∷ 1 ∷ []) $ use2 𝓛 (‵ (flft κ'' s) ⊛ raw (wand 𝓤 (𝓛.A.lft κ'' s) Both)) (lft-common 𝓛 (β ∷ []) κ' full_share (right q')) $ split ! $
    -- [the token of the meet; its way back; κ', its left half; the pointer, twice; the reference; κ]
    move ! (5 ∷ 6 ∷ []) $ use2 𝓛 (later (some (λ (δ : GName). ‵ ((MutRef (named 0) κ'' V).own_val (record r { ghost_name = δ }) vs) ⊛ ‵ (LentAgain V κ κ'' q γ b o δ r.now))))
    (lends_again 𝓛 V (named 0) κ κ'' q γ b o (named 0) r.now) $ await ! tt $ pick ! (λ δ. split ! $
    -- [the loan; what the lender keeps; the token of the meet; its way back; κ', its left half; the pointer, twice]
    let E = triple_of 𝓛 e.signature (e.spec 𝓛 𝓜.mem 𝓡.returns) in
    let zd : E.Ghost = (((κ'', (κ', tt)), (s, (left q', tt)), (below, tt), (record r { ghost_name = δ }, (path, tt)), (vs, (shr_slice_vals path, tt))), tt) in
    nothing ! $ move ! (3 ∷ 5 ∷ 0 ∷ []) $ group ! 3 $ move ! (1 ∷ 4 ∷ 0 ∷ []) $ args ! $ nothing ! $ move ! (1 ∷ 0 ∷ []) $ use2 𝓛 (raw (E.pre zd)) (id⊢ 𝓤 _) $
    calls_at ! (framed 𝓤 𝓛.H 𝓜 𝓣) E (e-thm.met 𝓤 𝓛 𝓜 𝓡 (code.calls-toml_span_tree::pointer::is_pointed 𝓡.env wired)) zd (and_then ! (get ! refl) (and_then ! (get ! refl) (no_more !))) (λ v₂.
    use1 𝓛 (later (some (λ (x : Bool). ((‵ (flft κ'' s) ⊛ ‵ (flft κ' (left q')) ⊛ ‵ ftrue) ⊛ ‵ (bool.own_val x (v₂ ∷ []))) ⊛
    some (λ (ws : Lasts e.ended zd.0.0 zd.0.3). ‵ (lasts e.ended zd.0.0 zd.0.3 ws) ⊛ (raw (fact 𝓤 (x ≡ true → IsSome (pointed path.now (view r.now)))) ⊛ (raw (fact 𝓤 (x ≡ false → pointed path.now (view r.now) ≡ None)) ⊛ raw (fact 𝓤 (ws.0 ≡ r.now)))))))) (id⊢ 𝓤 _) $
    await ! tt $ pick ! (λ x. split ! $ move ! (1 ∷ []) $ pick ! (λ ws. split ! $ move ! (1 ∷ []) $ split ! $ heard ! _ (λ some_. split ! $ heard ! _ (λ none. heard ! _ (λ same. fsplit ! $ fsplit ! $
    rewrite ! 0 (λ (m : Value). ‵ (fres δ (V.coded.code m))) same refl $
    -- [the loan's last value; its borrow; nothing; the tokens and the answer; what the lender keeps; the way back; the pointer]
    move ! (3 ∷ []) $ split ! $ split3 ! $ move ! (0 ∷ 8 ∷ []) $ use2 𝓛 (‵ (flft (β ∷ []) full_share) ⊛ ‵ (flft κ' (right q'))) (apply∗ 𝓤 (𝓛.A.lft κ'' s) Both) $ split ! $
    lft_end ! tt $ use1 𝓛 (‵ (fdead κ'')) (𝓛.lfts.dead-incl κ'' (β ∷ []) (meet_⊑_left (β ∷ []) κ')) $
    -- [the meet is over; κ', its right half; κ', its left half; nothing; the answer; the loan's last value; its borrow; nothing; what the lender keeps; the pointer]
    move ! (0 ∷ 8 ∷ 5 ∷ []) $ use3 𝓛 (later (‵ ((MutRef (named 0) κ V).own_val r vs) ⊛ ‵ (flft κ q))) (comes_back 𝓛 V (named 0) κ κ'' q γ b o δ r.now r.now) $ await ! tt $ split ! $
    -- [the reference; κ; κ', its right half; κ', its left half; nothing; the answer; the loan's borrow; nothing; the pointer]
    move ! (3 ∷ 2 ∷ []) $ use2 𝓛 (‵ (flft κ' q')) (𝓛.lfts.lft_join κ' q') $ move ! (4 ∷ []) $ facts ! bool _ (shows 𝓛 bool) x (v₂ ∷ []) (λ isb.
    move ! (4 ∷ 5 ∷ []) $ drop ! $ drop ! $ move ! (2 ∷ 0 ∷ 3 ∷ []) $ group ! 3 $ lands_as ! (ap only isb) refl (tt, tt) $
    -- [the tokens; the reference; the pointer]
    let Y : (walk_of 𝓛 f.ended stayed c).Ghost = ((κs, qs, bounds, a, (mut_vals r, (shr_slice_vals path, tt))), tt) in
    let Post : Val → SProp 𝓤 = (walk_of 𝓛 f.ended stayed c).post Y in
    first ! $ branches ! (get ! refl)
    (λ t. let asked = some_ (is-true x t) in
    sets ! (addr ! (through ! refl (stop !))) refl (tt, tt) $
    let S = triple_of 𝓛 g.signature (g.spec 𝓛 𝓜.mem 𝓡.returns) in
    let ys : S.Ghost = ((κs, qs, bounds, (r, (path, tt)), (mut_vals r, (shr_slice_vals path, tt))), tt) in
    move ! (1 ∷ 2 ∷ 0 ∷ []) $ hands ! asked (S.pre ys) (id⊢ 𝓤 _) $
    calls_at ! (framed 𝓤 𝓛.H 𝓜 𝓣) S (g-thm.met 𝓤 𝓛 𝓜 𝓡 (code.calls-toml_span_tree::pointer::at_pointer 𝓡.env wired)) ys (and_then ! (get ! refl) (and_then ! (get ! refl) (no_more !))) (λ v₄.
    lends ! tt κ V v₄ (‵ (flft κ q) ⊛ one) (lasts g.ended κs ys.0.3) (lends_at r path.now) (λ m. pointed path.now (view r.now) ≡ Some (view m.now)) (id⊢ 𝓤 _) (λ m at vis. lands_as ! vis refl (tt, tt) $
    -- [the reference; what is lent; the tokens]
    sets ! (addr ! (through ! refl (stop !))) refl (tt, tt) $
    sets ! (agg ! (and_then ! (lit ! tt) (and_then ! (get ! refl) (no_more !)))) refl (tt, (record { fits = lit< tt }, (tt, tt))) $
    returns_within ! Post refl (look_at ! 0 refl) $ free_all ! refl $ by ! (leaves_with 𝓛 𝓜.mem 𝓡.returns κs qs bounds r path m at))))
    (λ t. let unnamed = none (is-false x (T_not x t)) in
    skips ! $ exec ! 𝓣.C 𝓣.Λ En (after 3 fn.body) (at_ret En Post) $
    sets ! (agg ! (and_then ! (lit ! tt) (no_more !))) refl (tt, (record { fits = lit< tt }, tt)) $
    returns ! (look_at ! 0 refl) $ free_all ! refl $ keep ! (1 ∷ 0 ∷ []) $
    by ! (leaves_none 𝓛 𝓜.mem 𝓡.returns κs qs bounds r path unnamed)))))))))))))
