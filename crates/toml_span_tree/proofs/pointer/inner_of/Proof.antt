-- The inner value is lent.
use Rattle.toml_span_tree.proofs.Walks.{ℕ, ◌+◌, [], ◌∷◌, refl, sym, proved, after, head, arm_body, full_share, ent, sep, ftrue, flft, named, erased, Ty, vptr, fact, tables, sem, GName, ‵, raw, ◌⊛◌, some, later, at_ret, mean, ◌$◌, ◌∵◌, !, qed, done, move, keep, drop, use1, use2, split, split3, join, fsplit3, fjoin, pick, await, suffices, frame, group, by, enter, of_opd, addr, load, stop, fld, first, exec, returns, switches_on, whole, vrt, look_tag, alloc_all, pass_all, free_all, look_at, get, through, sets, sets_last, env, open_ref, no, mem, part_at, MutRef, mut_vals, mut_Tells, RattleType, follows, lends_Part, plain, mut_ref_to, named_lft, nothing, heard, Stays, walk_of, says, stay_dropped, Goes-spent_ref, ends_at, then_runs, lone, Value, Ura, SProp, Logic, NamedLft, Lfts, Option, Some, inl, inr}
use denote.Struct.Values.{intos}
use Rattle.toml_span_tree.specs.code.Lending.{IsHeld}
use Rattle.toml_span_tree.specs.declared.value.ValueInner.{ValueInner}
use borrow.Struct.Lend.{kept_record_as, record_apart_as, record_fill_as}
use borrow.Enum.SameAs.{Enum-same}
use Rattle.toml_span_tree.proofs.pointer.inner_of.Statement.{statement}
use Rattle.toml_span_tree.proofs.Payloads.{Payload, payload, opened, taken}
use Rattle.toml_span_tree.specs.contracts.value.Value as value
use Rattle.toml_span_tree.specs.contracts.value.ValueInner as inner
use Rattle.toml_span_tree.proofs.value.ValueInner.TheLaws as inner_laws
use Rattle.toml_span_tree.proofs.value.Value.TheLaws as laws
use Rattle.std.specs.contracts.option.Option as O
use Rattle.std.proofs.option.Option.TheLaws as O_laws
use Rattle.toml_span_tree.specs.contracts.pointer.inner_of as f
use Rattle.toml_span_tree.proofs.pointer.inner_of.Code as code

abbrev a_of : Lfts 2 → NamedLft
a_of κs = named_lft 2 1 tt κs

abbrev stayed : Stays f.ended.signature.params f.ended.kept
stayed = (stay_dropped (mut_ref_to (0 ∷ []) tt (plain (λ κs. value.the_row (a_of κs)))) no, tt)

-- the inner value: where it is in memory, and what is kept while it is lent
module _ (a : NamedLft) where
  abbrev V : RattleType
  V = value.the_row a

  abbrev I : RattleType
  I = inner.the_row a

  abbrev P : RattleType
  P = O.the_row I

  of_some : Payload P I Some 1
  of_some = payload (O.enum I) 1 I I (λ m. m) (λ m b o. refl) (λ m. inr (inl (m, tt))) (λ m us. refl) (λ m. refl) (O_laws.the_loose I (inner_laws.the_row_laws a)).1.0 refl refl refl refl

  module _ {M : Type 1} {𝓤 : Ura M} (𝓛 : Logic 𝓤) (b o : ℕ) where
    abbrev KeptV : Value → SProp 𝓤
    KeptV v = mean 𝓛 (kept_record_as (value.the_type a) (laws.the_loose a) 0 0 P (λ x. x) (λ x. x) (λ y b o. Enum-same (O.the_type I) full_share y b o) (λ y b o. sym (Enum-same (O.the_type I) full_share y b o))
        (value.struct a).as_values (value.struct a).Ghost (value.struct a).make (λ v. tt) (λ x. refl) (λ v g. λ i. intos (value.struct a).parts ((value.struct a).beta v g i)) M 𝓤 𝓛 v b o)

    apart_v : (v : Value) → ent 𝓤 (sem 𝓛 (part_at V full_share v b o)) (sep 𝓤 (sem 𝓛 (part_at P full_share v.value b (o + 0))) (KeptV v))
    apart_v v = record_apart_as (value.the_type a) (laws.the_loose a) 0 0 P (λ x. x) (λ x. x) (λ y b o. Enum-same (O.the_type I) full_share y b o) (λ y b o. sym (Enum-same (O.the_type I) full_share y b o))
        (value.struct a).as_values (value.struct a).Ghost (value.struct a).make (λ v. tt) (λ x. refl) (λ v g. λ i. intos (value.struct a).parts ((value.struct a).beta v g i)) 𝓛 refl refl v b o

    back_v : (v : Value) (w : Option ValueInner) → ent 𝓤 (sep 𝓤 (sem 𝓛 (part_at P full_share w b (o + 0))) (KeptV v)) (sem 𝓛 (part_at V full_share (record { value = w; span = v.span }) b o))
    back_v v w = record_fill_as (value.the_type a) (laws.the_loose a) 0 0 P (λ x. x) (λ x. x) (λ y b o. Enum-same (O.the_type I) full_share y b o) (λ y b o. sym (Enum-same (O.the_type I) full_share y b o))
        (value.struct a).as_values (value.struct a).Ghost (value.struct a).make (λ v. tt) (λ x. refl) (λ v g. λ i. intos (value.struct a).parts ((value.struct a).beta v g i)) refl M 𝓤 𝓛 v w b o

  module _ {M : Type 1} {𝓤 : Ura M} (𝓛 : Logic 𝓤) (b o : ℕ) where
    back : (v : Value) (i w : ValueInner) → ent 𝓤 (sep 𝓤 (sem 𝓛 (part_at I full_share w b (o + 0 + 8))) (sep 𝓤 (of_some.Kept 𝓛 i b (o + 0)) (KeptV 𝓛 b o v))) (sem 𝓛 (part_at V full_share (record { value = Some w; span = v.span }) b o))
    back v i w = qed 𝓛 (‵ (part_at I full_share w b (o + 0 + 8)) ∷ raw (of_some.Kept 𝓛 i b (o + 0)) ∷ raw (KeptV 𝓛 b o v) ∷ []) ∵
        use2 𝓛 (‵ (part_at P full_share (Some w) b (o + 0))) (of_some.back 𝓛 i w b (o + 0)) $ by ! (back_v 𝓛 b o v (Some w))

pub inner_of_spec : {M : Type 1} → statement M
inner_of_spec 𝓤 𝓛 𝓜 𝓡 wired =
    let c = f.clauses 𝓛 𝓜.mem 𝓡.returns in
    let 𝓣 = tables 𝓤 𝓛.H 𝓜 𝓡 𝓡.env in
    let fn = code.function in
    proved 𝓛 f.ended stayed c 𝓜 𝓡 (Goes-spent_ref 𝓛 2 (0 ∷ []) tt (plain (λ κs. value.the_row (a_of κs))), tt)
    f.Key.name code.function (code.unfolded 𝓤 𝓛.H 𝓜 𝓡 wired)
    (λ κs. (mut_vals, tt)) (λ κs. (mut_Tells (named 0) κs.0 (value.the_row (a_of κs)), tt)) (λ κs qs bounds a _ are.
    let κ = κs.0 in let q = qs.0 in let r = a.0 in let b = r.ref_ptr.0 in let o = r.ref_ptr.1 in let γ = r.ghost_name in let α = a_of κs in
    let R = V α in let F = I α in let OR = P α in let ω : Ty = lone (O.the_row (inner.the_row (record { mir = erased; lft = [] }))).mir in
    let Y : (walk_of 𝓛 f.ended stayed c).Ghost = ((κs, qs, bounds, a, (mut_vals r, tt)), tt) in
    let Post = (walk_of 𝓛 f.ended stayed c).post Y in
    qed 𝓛 (((‵ (flft κ q) ⊛ ‵ (flft κs.1.0 qs.1.0) ⊛ ‵ ftrue) ⊛ ‵ ((MutRef (named 0) κ R).own_val r (mut_vals r)) ⊛ ‵ ftrue) ∷ raw (fact 𝓤 (IsHeld r.now)) ∷ []) ∵
    move ! (1 ∷ []) $ heard ! _ (λ asked. let m = asked.0 in
    split ! $ split3 ! $ move ! (3 ∷ []) $ split ! $ keep ! (0 ∷ 2 ∷ 3 ∷ []) $
    -- [the reference; κ; κ']
    enter ! _ _ _ _ _ $ alloc_all ! (λ l. pass_all ! refl ((tt, tt), tt) $ let En = env fn.locals l in
    fsplit3 ! $ drop ! $ open_ref ! tt (mem R) $
    use1 𝓛 (‵ (part_at OR full_share r.now.value b (o + 0)) ⊛ raw (KeptV α 𝓛 b o r.now)) (apart_v α 𝓛 b o r.now) $ split ! $
    opened ! (of_some α) r.now.value m asked.1 b (o + 0) ω refl (λ us.
    -- [the option's cell; what it owns; what is kept of the value; the open borrow, in three entries; κ']
    sets ! (addr ! (through ! refl (fld ! refl (stop !)))) refl (tt, tt) $
    first ! $ switches_on ! (load ! (through ! refl (vrt ! refl (fld ! refl (stop !)))) (look_tag ! 0 (whole !))) $
    exec ! 𝓣.C 𝓣.Λ En (arm_body 0 (head (after 1 fn.body))) (then_runs 𝓛 𝓣.C 𝓣.Λ En (after 2 fn.body) (at_ret En Post)) $
    taken ! (of_some α) m b (o + 0) ω refl $ move ! (1 ∷ 2 ∷ []) $ join ! $ move ! (2 ∷ 3 ∷ 4 ∷ 1 ∷ 0 ∷ []) $ group ! 5 $
    let put : ValueInner → Value = λ i. record { value = Some i; span = r.now.span } in
    use1 𝓛 (later (some (λ (δ : GName). ‵ ((MutRef (named 0) κ F).own_val (record { ref_ptr = (b, o + 0 + 8); ghost_name = δ; now = m }) (vptr b (o + 0 + 8) ∷ [])) ⊛ ‵ (flft κ q) ⊛ ‵ (follows R F γ δ put))))
    (lends_Part 𝓛 R F put (named 0) κ q b o b (o + 0 + 8) γ (sep 𝓤 ((of_some α).Kept 𝓛 m b (o + 0)) (KeptV α 𝓛 b o r.now)) (back α 𝓛 b o r.now m) (R.coded.code r.now) (R.coded.code r.now) m) $ await ! tt $ pick ! (λ δ. split3 ! $
    -- [the inner reference; κ; follows; κ']
    sets ! (addr ! (through ! refl (vrt ! refl (fld ! refl (stop !))))) refl (tt, tt) $
    sets_last ! (addr ! (through ! refl (stop !))) refl (tt, tt) $
    exec ! 𝓣.C 𝓣.Λ En (after 2 fn.body) (at_ret En Post) $
    sets ! (of_opd ! (get ! refl)) refl (tt, tt) $
    returns ! (look_at ! 0 refl) $ free_all ! refl $
    suffices ! _ (ends_at 𝓛 f.ended stayed c Y (vptr b (o + 0 + 8)) (record { ref_ptr = (b, o + 0 + 8); ghost_name = δ; now = m }) (tt, tt) (tt, tt)) $
    nothing ! $ move ! (4 ∷ 0 ∷ []) $ join ! $ move ! (2 ∷ 0 ∷ []) $ join ! $ move ! (1 ∷ []) $
    nothing ! $ nothing ! $ fjoin ! $ join ! $ move ! (1 ∷ 0 ∷ []) $ join ! $ frame ! $ says ! asked.1 $ done !)))))
