-- The value that segments name is lent, one segment at a time.
use Rattle.toml_span_tree.proofs.Walks.{◌≡◌, ℕ, ◌<◌, List, [], ◌∷◌, length, refl, sym, ap, ◌∙◌, id⊢, ftrue, flft, named, Val, vptr, fact, tables, ‵, raw, ◌⊛◌, at_ret, ◌$◌, ◌∵◌, !, qed, move, keep, use1, use2, split, join, enter, addr, stop, no_more, and_then, returns, alloc_all, pass_all, free_all, look_at, get, through, sets, lands_as, env, MutRef, mut_vals, heard, only, calls_at, lasts, triple_of, walk_of, ends_at, framed, via, SProp, true, false, T_not, bool, walked_at, walk_meets_at, calls_from, WpFn, Str, shr_slice_vals, shows, facts, first, branches, skips, exec, returns_within, Some, IsSome, drop_l, view, segments, untaken_entry, value_named, after, begins, ends, hands, hands1, gives, lends, is-true, is-false, lends_child, lends_named}
use contract.Running.{tables_of}
use mathlib.Core.Path.{subst}
use lib.WfN.{lt-wf_rel}
use denote.Triple.Cycle.{mutual_elim, measured}
use sound.WpLaws.{WpFn-mono}
use Rattle.toml_span_tree.proofs.Lent.{path-asks, found-child, path-last, path-set-last, path-set-more}
use Rattle.toml_span_tree.proofs.Loans.{so_then, so_some}
use Rattle.toml_span_tree.specs.contracts.pointer.at_path.Key.{name as #self}
use Rattle.toml_span_tree.proofs.pointer.+at_path.{statement, functions}
use Rattle.toml_span_tree.proofs.Texts.{row, stayed, goes, stored, tells, twice, text}
use Rattle.toml_span_tree.specs.contracts.pointer.first as d
use Rattle.toml_span_tree.proofs.pointer.first.Met as d-thm
use Rattle.toml_span_tree.specs.contracts.pointer.step_to as g
use Rattle.toml_span_tree.proofs.pointer.step_to.Met as g-thm
use Rattle.toml_span_tree.specs.contracts.pointer.is_last as e
use Rattle.toml_span_tree.proofs.pointer.is_last.Met as e-thm
use Rattle.toml_span_tree.specs.contracts.pointer.after as h
use Rattle.toml_span_tree.proofs.pointer.after.Met as h-thm
use Rattle.toml_span_tree.specs.contracts.pointer.at_path as f
use Rattle.toml_span_tree.proofs.pointer.+at_path.Code as code

pub +at_path_spec : {M : Type 1} → statement M
unfolding tables_of
+at_path_spec 𝓤 𝓛 𝓜 𝓡 wired =
    let c = f.clauses 𝓛 𝓜.mem 𝓡.returns in
    let 𝓣 = tables 𝓤 𝓛.H 𝓜 𝓡 𝓡.env in
    let fn = code.at_path-function in
    let S = triple_of 𝓛 f.signature (f.spec 𝓛 𝓜.mem 𝓡.returns) in
    let run = WpFn 𝓤 𝓛.H 𝓣.C 𝓣.Λ fn in
    let μ : S.Ghost → ℕ = λ y. length y.0.3.1.0.now in
    mutual_elim 𝓛 (functions 𝓛 𝓜.mem 𝓡.run 𝓡.returns 𝓡.env) ◌<◌ lt-wf_rel.wf (measured 𝓛 (record { signature = f.signature; run = 𝓡.run (𝓡.env #self); spec = f.spec 𝓛 𝓜.mem 𝓡.returns }) μ) (λ t below y measure.
    via 𝓤 (run (S.args y) (S.post y))
    (walk_meets_at 𝓛 f.ended stayed (goes 𝓛) c run (WpFn-mono 𝓤 𝓛.H 𝓛.laws (tables_of 𝓤 𝓛.H 𝓜 𝓣) fn) y
    (walked_at 𝓛 f.ended stayed c run y (stored y.0.0) (tells y.0.0) (λ are.
    let κs = y.0.0 in let qs = y.0.1 in let bounds = y.0.2 in let a = y.0.3 in
    let κ = κs.0 in let q = qs.0 in let κ' = κs.1.0 in let q' = qs.1.0 in let r = a.0 in let path = a.1.0 in let V = row κs in let B = Str (named 1) κ' in
    let more = drop_l 1 (segments path.now) in
    let Y : (walk_of 𝓛 f.ended stayed c).Ghost = ((κs, qs, bounds, a, (mut_vals r, (shr_slice_vals path, tt))), y.1) in
    let Post : Val → SProp 𝓤 = (walk_of 𝓛 f.ended stayed c).post Y in
    let one = ‵ (flft κ' q') ⊛ ‵ ftrue in
    qed 𝓛 (((‵ (flft κ q) ⊛ one) ⊛ ‵ ((MutRef (named 0) κ V).own_val r (mut_vals r)) ⊛ ‵ (B.own_val path (shr_slice_vals path)) ⊛ ‵ ftrue) ∷ raw (fact 𝓤 (IsSome (value_named (segments path.now) (view r.now)))) ∷ []) ∵
    begins ! (λ asked. move ! (1 ∷ []) $ twice ! κ' path $ twice ! κ' path $
    -- [the path, three times; the reference; the tokens]
    enter ! _ _ _ _ _ $ alloc_all ! (λ l. pass_all ! refl ((tt, tt), ((tt, (tt, (record { fits = are.1.0.0.0.1.0 }, tt))), tt)) $ let En = env fn.locals l in
    let D = triple_of 𝓛 d.signature (d.spec 𝓛 𝓜.mem 𝓡.returns) in
    let zd : D.Ghost = (((κ', tt), (q', tt), tt, (path, tt), (shr_slice_vals path, tt)), tt) in
    move ! (4 ∷ []) $ split ! $ move ! (2 ∷ 1 ∷ []) $ hands1 ! (id⊢ 𝓤 _) (D.pre zd) (id⊢ 𝓤 _) $
    calls_at ! (framed 𝓤 𝓛.H 𝓜 𝓣) D (d-thm.met 𝓤 𝓛 𝓜 𝓡 (code.calls-toml_span_tree::pointer::first 𝓡.env wired)) zd (and_then ! (get ! refl) (no_more !)) (λ v₀.
    gives ! tt B v₀ one (lasts d.ended zd.0.0 zd.0.3) (λ s. raw (fact 𝓤 (segments path.now ≡ s.now ∷ more))) (id⊢ 𝓤 _) (λ segment. heard ! _ (λ parts.
    text ! κ' segment v₀ (λ is₀ vis₀. lands_as ! vis₀ refl (tt, (tt, (record { fits = is₀.0.0.1.0 }, tt))) $
    -- [the segment; the token of κ'; κ; the path, twice; the reference]
    sets ! (addr ! (through ! refl (stop !))) refl (tt, tt) $
    let G = triple_of 𝓛 g.signature (g.spec 𝓛 𝓜.mem 𝓡.returns) in
    let zg : G.Ghost = ((κs, qs, bounds, (r, (segment, tt)), (mut_vals r, (shr_slice_vals segment, tt))), tt) in
    move ! (2 ∷ 1 ∷ []) $ join ! $ move ! (4 ∷ 1 ∷ []) $ hands ! (path-asks (view r.now) path.now segment.now more parts asked) (G.pre zg) (id⊢ 𝓤 _) $
    calls_at ! (framed 𝓤 𝓛.H 𝓜 𝓣) G (g-thm.met 𝓤 𝓛 𝓜 𝓡 (code.calls-toml_span_tree::pointer::step_to 𝓡.env wired)) zg (and_then ! (get ! refl) (and_then ! (get ! refl) (no_more !))) (λ v₁.
    lends ! tt κ V v₁ (‵ (flft κ q) ⊛ one) (lasts g.ended κs zg.0.3) (lends_child r segment.now) (λ k. untaken_entry segment.now (view r.now) ≡ Some (view k.now)) (id⊢ 𝓤 _) (λ k there vis₁.
    lands_as ! vis₁ refl (tt, tt) $
    -- [the child's reference; what is lent of the value; the tokens; the path, twice]
    let E = triple_of 𝓛 e.signature (e.spec 𝓛 𝓜.mem 𝓡.returns) in
    move ! (2 ∷ []) $ split ! $ move ! (4 ∷ 1 ∷ []) $ hands1 ! (id⊢ 𝓤 _) (E.pre zd) (id⊢ 𝓤 _) $
    calls_at ! (framed 𝓤 𝓛.H 𝓜 𝓣) E (e-thm.met 𝓤 𝓛 𝓜 𝓡 (code.calls-toml_span_tree::pointer::is_last 𝓡.env wired)) zd (and_then ! (get ! refl) (no_more !)) (λ v₂.
    gives ! tt bool v₂ one (lasts e.ended zd.0.0 zd.0.3) (λ x. raw (fact 𝓤 (x ≡ true → more ≡ [])) ⊛ raw (fact 𝓤 (x ≡ false → 0 < length more))) (id⊢ 𝓤 _) (λ x.
    split ! $ heard ! _ (λ last. heard ! _ (λ others. facts ! bool _ (shows 𝓛 bool) x (v₂ ∷ []) (λ isb. lands_as ! (ap only isb) refl (tt, tt) $
    -- [the token of κ'; κ; the child's reference; what is lent of the value; the path]
    first ! $ branches ! (get ! refl)
    (λ t. let none = last (is-true x t) in
    sets ! (addr ! (through ! refl (stop !))) refl (tt, tt) $
    returns_within ! Post refl (look_at ! 0 refl) $ free_all ! refl $ move ! (1 ∷ 0 ∷ []) $ join ! $ move ! (2 ∷ []) $
    use1 𝓛 (‵ (lends_named r path.now k)) (so_some 𝓛 V V r k _ _ _ _ (λ w n p. path-set-last (view r.now) (view k.now) (view w) (view n) path.now segment.now more parts none there p) r.now tt) $
    keep ! (2 ∷ 0 ∷ 1 ∷ []) $ ends ! (ends_at 𝓛 f.ended stayed c Y (vptr k.ref_ptr.0 k.ref_ptr.1) k (tt, (tt, tt)) (tt, (tt, tt))) (path-last (view r.now) (view k.now) path.now segment.now more parts none there))
    (λ t. let some_more = others (is-false x (T_not x t)) in
    skips ! $ exec ! 𝓣.C 𝓣.Λ En (after 5 fn.body) (at_ret En Post) $
    let Hh = triple_of 𝓛 h.signature (h.spec 𝓛 𝓜.mem 𝓡.returns) in
    move ! (4 ∷ 0 ∷ []) $ hands1 ! (id⊢ 𝓤 _) (Hh.pre zd) (id⊢ 𝓤 _) $
    calls_at ! (framed 𝓤 𝓛.H 𝓜 𝓣) Hh (h-thm.met 𝓤 𝓛 𝓜 𝓡 (code.calls-toml_span_tree::pointer::after 𝓡.env wired)) zd (and_then ! (get ! refl) (no_more !)) (λ v₃.
    gives ! tt B v₃ one (lasts h.ended zd.0.0 zd.0.3) (λ s. raw (fact 𝓤 (0 < length more → (segments s.now ≡ more) × (length s.now < length path.now)))) (id⊢ 𝓤 _) (λ rest. heard ! _ (λ goes_on.
    text ! κ' rest v₃ (λ is₃ vis₃. lands_as ! vis₃ refl (tt, (tt, (record { fits = is₃.0.0.1.0 }, tt))) $
    -- [the rest; the token of κ'; κ; the child's reference; what is lent of the value]
    sets ! (addr ! (through ! refl (stop !))) refl (tt, tt) $
    let parts' : segments path.now ≡ segment.now ∷ segments rest.now = parts ∙ ap (λ (names : List (List ℕ)). segment.now ∷ names) (sym (goes_on some_more).0) in
    let ys : S.Ghost = ((κs, qs, bounds, (k, (rest, tt)), (mut_vals k, (shr_slice_vals rest, tt))), tt) in
    move ! (2 ∷ 1 ∷ []) $ join ! $ move ! (2 ∷ 1 ∷ []) $ hands ! (subst IsSome (found-child (view r.now) (view k.now) path.now segment.now (segments rest.now) parts' there) asked) (S.pre ys) (id⊢ 𝓤 _) $
    calls_from ! (framed 𝓤 𝓛.H 𝓜 𝓣) (raw (S.pre ys)) (S.args ys) (S.post ys) (below (μ ys) (subst (λ (u : ℕ). length rest.now < u) measure (goes_on some_more).1) ys refl) (and_then ! (get ! refl) (and_then ! (get ! refl) (no_more !))) (λ v₄.
    lends ! tt κ V v₄ (‵ (flft κ q) ⊛ one) (lasts f.ended κs ys.0.3) (lends_named k rest.now) (λ m. value_named (segments rest.now) (view k.now) ≡ Some (view m.now)) (id⊢ 𝓤 _) (λ m at vis₄.
    lands_as ! vis₄ refl (tt, tt) $
    -- [the reference; what is lent of the child; the tokens; what is lent of the value]
    move ! (3 ∷ 1 ∷ []) $ use2 𝓛 (‵ (lends_named r path.now m)) (so_then 𝓛 V V V r k m _ _ _
    (λ w u n p p'. path-set-more (view r.now) (view k.now) (view m.now) (view w) (view u) (view n) path.now segment.now (segments rest.now) parts' there at p p')) $
    returns ! (look_at ! 0 refl) $ free_all ! refl $ move ! (1 ∷ []) $
    ends ! (ends_at 𝓛 f.ended stayed c Y (vptr m.ref_ptr.0 m.ref_ptr.1) m (tt, (tt, tt)) (tt, (tt, tt))) (found-child (view r.now) (view k.now) path.now segment.now (segments rest.now) parts' there ∙ at))))))))))))))))))))))))
    (code.at_path-unfolded 𝓤 𝓛.H 𝓜 𝓡 wired (S.args y) (S.post y)))
