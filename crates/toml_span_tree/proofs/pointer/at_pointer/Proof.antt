-- The value that a pointer names is lent.
use Rattle.toml_span_tree.proofs.Walks.{◌≡◌, ℕ, ◌<◌, List, [], ◌∷◌, length, refl, sym, ap, ◌∙◌, id⊢, ftrue, flft, named, Val, vptr, fact, tables, ‵, raw, ◌⊛◌, at_ret, ◌$◌, ◌∵◌, !, qed, move, keep, use0, use1, split, join, enter, addr, stop, no_more, and_then, returns, alloc_all, pass_all, free_all, look_at, get, through, sets, lands_as, env, MutRef, mut_vals, heard, only, calls_at, lasts, triple_of, walk_of, ends_at, framed, SProp, true, false, T_not, bool, Str, shr_slice_vals, shows, facts, first, branches, skips, exec, returns_within, Some, IsSome, view, segments, pointed, value_named, after, follows, follows_itself, proved, begins, ends, hands, hands1, gives, lends, is-true, is-false, lends_at, lends_named}
use mathlib.Core.Path.{subst}
use Rattle.toml_span_tree.proofs.Lent.{slash-of, slash-set}
use Rattle.toml_span_tree.proofs.Pointers.{pointed-empty, pointed-slash}
use Rattle.toml_span_tree.proofs.Puts.{put-empty}
use Rattle.toml_span_tree.proofs.Loans.{so_of, so_some}
use Rattle.toml_span_tree.proofs.pointer.at_pointer.Statement.{statement}
use Rattle.toml_span_tree.proofs.Texts.{row, stayed, goes, stored, tells, twice, text}
use Rattle.toml_span_tree.specs.contracts.pointer.is_end as e
use Rattle.toml_span_tree.proofs.pointer.is_end.Met as e-thm
use Rattle.toml_span_tree.specs.contracts.pointer.after_slash as h
use Rattle.toml_span_tree.proofs.pointer.after_slash.Met as h-thm
use Rattle.toml_span_tree.specs.contracts.pointer.at_path as g
use Rattle.toml_span_tree.proofs.pointer.at_path.Met as g-thm
use Rattle.toml_span_tree.specs.contracts.pointer.at_pointer as f
use Rattle.toml_span_tree.proofs.pointer.at_pointer.Code as code

pub at_pointer_spec : {M : Type 1} → statement M
at_pointer_spec 𝓤 𝓛 𝓜 𝓡 wired =
    let c = f.clauses 𝓛 𝓜.mem 𝓡.returns in
    let 𝓣 = tables 𝓤 𝓛.H 𝓜 𝓡 𝓡.env in
    let fn = code.function in
    proved 𝓛 f.ended stayed c 𝓜 𝓡 (goes 𝓛) f.Key.name code.function (code.unfolded 𝓤 𝓛.H 𝓜 𝓡 wired) stored tells (λ κs qs bounds a _ are.
    let κ = κs.0 in let q = qs.0 in let κ' = κs.1.0 in let q' = qs.1.0 in let r = a.0 in let path = a.1.0 in let V = row κs in let B = Str (named 1) κ' in
    let Y : (walk_of 𝓛 f.ended stayed c).Ghost = ((κs, qs, bounds, a, (mut_vals r, (shr_slice_vals path, tt))), tt) in
    let Post : Val → SProp 𝓤 = (walk_of 𝓛 f.ended stayed c).post Y in
    let one = ‵ (flft κ' q') ⊛ ‵ ftrue in
    qed 𝓛 (((‵ (flft κ q) ⊛ one) ⊛ ‵ ((MutRef (named 0) κ V).own_val r (mut_vals r)) ⊛ ‵ (B.own_val path (shr_slice_vals path)) ⊛ ‵ ftrue) ∷ raw (fact 𝓤 (IsSome (pointed path.now (view r.now)))) ∷ []) ∵
    begins ! (λ asked. move ! (1 ∷ []) $ twice ! κ' path $
    -- [the pointer, twice; the reference; the tokens]
    enter ! _ _ _ _ _ $ alloc_all ! (λ l. pass_all ! refl ((tt, tt), ((tt, (tt, (record { fits = are.1.0.0.0.1.0 }, tt))), tt)) $ let En = env fn.locals l in
    let E = triple_of 𝓛 e.signature (e.spec 𝓛 𝓜.mem 𝓡.returns) in
    let zd : E.Ghost = (((κ', tt), (q', tt), tt, (path, tt), (shr_slice_vals path, tt)), tt) in
    move ! (3 ∷ []) $ split ! $ move ! (2 ∷ 1 ∷ []) $ hands1 ! (id⊢ 𝓤 _) (E.pre zd) (id⊢ 𝓤 _) $
    calls_at ! (framed 𝓤 𝓛.H 𝓜 𝓣) E (e-thm.met 𝓤 𝓛 𝓜 𝓡 (code.calls-toml_span_tree::pointer::is_end 𝓡.env wired)) zd (and_then ! (get ! refl) (no_more !)) (λ v₂.
    gives ! tt bool v₂ one (lasts e.ended zd.0.0 zd.0.3) (λ x. raw (fact 𝓤 (x ≡ true → length path.now ≡ 0)) ⊛ raw (fact 𝓤 (x ≡ false → 0 < length path.now))) (id⊢ 𝓤 _) (λ x.
    split ! $ heard ! _ (λ last. heard ! _ (λ others. facts ! bool _ (shows 𝓛 bool) x (v₂ ∷ []) (λ isb. lands_as ! (ap only isb) refl (tt, tt) $
    -- [the token of κ'; κ; the pointer; the reference]
    first ! $ branches ! (get ! refl)
    (λ t. let none = last (is-true x t) in
    sets ! (addr ! (through ! refl (stop !))) refl (tt, tt) $
    returns_within ! Post refl (look_at ! 0 refl) $ free_all ! refl $ move ! (1 ∷ 0 ∷ []) $ join ! $
    use0 𝓛 (‵ (follows V V r.ghost_name r.ghost_name (λ w. w))) (follows_itself 𝓛 V r.ghost_name) $
    use1 𝓛 (‵ (lends_at r path.now r)) (so_of 𝓛 V V r r (λ w. w) _ (λ w. put-empty path.now (view r.now) (view w) none)) $
    keep ! (3 ∷ 0 ∷ 1 ∷ []) $ ends ! (ends_at 𝓛 f.ended stayed c Y (vptr r.ref_ptr.0 r.ref_ptr.1) r (tt, (tt, tt)) (tt, (tt, tt))) (pointed-empty path.now (view r.now) none))
    (λ t. let slash = slash-of path.now (view r.now) (others (is-false x (T_not x t))) asked in
    skips ! $ exec ! 𝓣.C 𝓣.Λ En (after 2 fn.body) (at_ret En Post) $
    let Hh = triple_of 𝓛 h.signature (h.spec 𝓛 𝓜.mem 𝓡.returns) in
    move ! (2 ∷ 0 ∷ []) $ hands1 ! (id⊢ 𝓤 _) (Hh.pre zd) (id⊢ 𝓤 _) $
    calls_at ! (framed 𝓤 𝓛.H 𝓜 𝓣) Hh (h-thm.met 𝓤 𝓛 𝓜 𝓡 (code.calls-toml_span_tree::pointer::after_slash 𝓡.env wired)) zd (and_then ! (get ! refl) (no_more !)) (λ v₃.
    gives ! tt B v₃ one (lasts h.ended zd.0.0 zd.0.3) (λ s. raw (fact 𝓤 ((p : List ℕ) → path.now ≡ 47 ∷ p → s.now ≡ p))) (id⊢ 𝓤 _) (λ rest. heard ! _ (λ goes_on.
    text ! κ' rest v₃ (λ is₃ vis₃. lands_as ! vis₃ refl (tt, (tt, (record { fits = is₃.0.0.1.0 }, tt))) $
    let leads : path.now ≡ 47 ∷ rest.now = slash.1 ∙ ap (λ (p : List ℕ). 47 ∷ p) (sym (goes_on slash.0 slash.1)) in
    -- [the path; the token of κ'; κ; the reference]
    sets ! (addr ! (through ! refl (stop !))) refl (tt, tt) $
    let S = triple_of 𝓛 g.signature (g.spec 𝓛 𝓜.mem 𝓡.returns) in
    let ys : S.Ghost = ((κs, qs, bounds, (r, (rest, tt)), (mut_vals r, (shr_slice_vals rest, tt))), tt) in
    move ! (2 ∷ 1 ∷ []) $ join ! $ move ! (2 ∷ 1 ∷ []) $ hands ! (subst IsSome (pointed-slash path.now rest.now (view r.now) leads) asked) (S.pre ys) (id⊢ 𝓤 _) $
    calls_at ! (framed 𝓤 𝓛.H 𝓜 𝓣) S (g-thm.met 𝓤 𝓛 𝓜 𝓡 (code.calls-toml_span_tree::pointer::at_path 𝓡.env wired)) ys (and_then ! (get ! refl) (and_then ! (get ! refl) (no_more !))) (λ v₄.
    lends ! tt κ V v₄ (‵ (flft κ q) ⊛ one) (lasts g.ended κs ys.0.3) (lends_named r rest.now) (λ m. value_named (segments rest.now) (view r.now) ≡ Some (view m.now)) (id⊢ 𝓤 _) (λ m at vis₄.
    lands_as ! vis₄ refl (tt, tt) $
    -- [the reference; what is lent of the value; the tokens]
    move ! (1 ∷ []) $ use1 𝓛 (‵ (lends_at r path.now m)) (so_some 𝓛 V V r m _ _ _ _ (λ w n p. slash-set path.now rest.now (view r.now) (view w) (view n) leads p) r.now tt) $
    returns ! (look_at ! 0 refl) $ free_all ! refl $ move ! (1 ∷ []) $
    ends ! (ends_at 𝓛 f.ended stayed c Y (vptr m.ref_ptr.0 m.ref_ptr.1) m (tt, (tt, tt)) (tt, (tt, tt))) (pointed-slash path.now rest.now (view r.now) leads ∙ at))))))))))))))))
