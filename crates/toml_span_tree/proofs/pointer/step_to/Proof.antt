-- The value that a segment names is lent, with a key that is created and dropped on the way.
use Rattle.toml_span_tree.proofs.Walks.{◌≡◌, ℕ, List, [], ◌∷◌, refl, sym, ap, full_share, Bor, proved, id⊢, emp, ftrue, flft, named, erased, Ty, Val, vptr, fact, tables, ‵, raw, ◌⊛◌, some, later, ◌$◌, ◌∵◌, !, qed, move, drop, use1, use2, split, split3, join, feq_l, pick, await, rewrite, enter, of_opd, addr, stop, no_more, and_then, returns, alloc_all, pass_all, free_all, look_at, get, through, sets, lands_as, MutRef, mut_vals, named_lft, heard, only, calls_at, lasts, triple_of, ends_at, framed, ShrRef, shr_vals, Str, shr_slice_vals, shows, Is, part_at, peeks, unit, SProp, sep, wand, apply∗, Lft, fat, fdead, flent, left, right, common, from, take_at, give_at, lft_new, lft_end, lft-common, part_out_at, part_in_at, ◌⊑◌, meet_⊑_left, meet_⊑_right, Some, IsSome, cow_str_bytes, Key, view, untaken_entry, begins, ends, hands, hands1, gives, lends, group, lends_child}
use denote.Lend.{lends_shr}
use types.Tokens.{lent_back}
use mathlib.Core.Path.{subst}
use Rattle.std.specs.Cow.{IsBorrowedStr}
use Rattle.toml_span_tree.proofs.pointer.step_to.Statement.{statement}
use Rattle.toml_span_tree.proofs.Texts.{row, stayed, goes, stored, tells}
use Rattle.toml_span_lex.specs.contracts.key.Key as key
use Rattle.toml_span_lex.proofs.key.Key.TheLaws as key_laws
use Rattle.toml_span_lex.specs.contracts.key.Key.named as n
use Rattle.toml_span_lex.proofs.key.Key.named.Met as n-thm
use Rattle.toml_span_tree.specs.contracts.pointer.child_of as g
use Rattle.toml_span_tree.proofs.pointer.child_of.Met as g-thm
use Rattle.toml_span_tree.specs.contracts.pointer.release as h
use Rattle.toml_span_tree.proofs.pointer.release.Met as h-thm
use Rattle.toml_span_tree.specs.contracts.pointer.step_to as f
use Rattle.toml_span_tree.proofs.pointer.step_to.Code as code

pub step_to_spec : {M : Type 1} → statement M
step_to_spec 𝓤 𝓛 𝓜 𝓡 wired =
    let c = f.clauses 𝓛 𝓜.mem 𝓡.returns in
    let 𝓣 = tables 𝓤 𝓛.H 𝓜 𝓡 𝓡.env in
    proved 𝓛 f.ended stayed c 𝓜 𝓡 (goes 𝓛) f.Key.name code.function (code.unfolded 𝓤 𝓛.H 𝓜 𝓡 wired) stored tells (λ κs qs bounds a _ are.
    let κ = κs.0 in let q = qs.0 in let κ' = κs.1.0 in let q' = qs.1.0 in let r = a.0 in let segment = a.1.0 in let α = named_lft 2 1 tt κs in let V = row κs in let K = key.the_row α in
    let lawful = (key_laws.the_row_laws α).lawful 𝓛 in let ω : Ty = key_laws.mir erased in
    let one = ‵ (flft κ' q') ⊛ ‵ ftrue in
    qed 𝓛 (((‵ (flft κ q) ⊛ one) ⊛ ‵ ((MutRef (named 0) κ V).own_val r (mut_vals r)) ⊛ ‵ ((Str (named 1) κ').own_val segment (shr_slice_vals segment)) ⊛ ‵ ftrue)
    ∷ raw (fact 𝓤 (IsSome (untaken_entry segment.now (view r.now)))) ∷ []) ∵ begins ! (λ asked.
    -- [the reference; the segment; the tokens]
    enter ! _ _ _ _ _ $ alloc_all ! (λ l. pass_all ! refl ((tt, tt), ((tt, (tt, (record { fits = are.1.0.0.0.1.0 }, tt))), tt)) $
    let N = triple_of 𝓛 n.signature (n.spec 𝓛 𝓜.mem 𝓡.returns) in
    let zn : N.Ghost = (((κ', tt), (q', tt), tt, (segment, tt), (shr_slice_vals segment, tt)), tt) in
    move ! (2 ∷ []) $ split ! $ move ! (3 ∷ 1 ∷ []) $ hands1 ! (id⊢ 𝓤 _) (N.pre zn) (id⊢ 𝓤 _) $
    calls_at ! (framed 𝓤 𝓛.H 𝓜 𝓣) N (n-thm.met 𝓤 𝓛 𝓜 𝓡 (code.calls-toml_span_lex::key::Key::named 𝓡.env wired)) zn (and_then ! (get ! refl) (no_more !)) (λ v.
    gives ! tt K v one (lasts n.ended zn.0.0 zn.0.3) (λ k. raw (fact 𝓤 ((cow_str_bytes k.name ≡ segment.now) × (k.span ≡ record { start = 0; end = 0 }) × IsBorrowedStr k.name))) (id⊢ 𝓤 _) (λ k.
    heard ! _ (λ made. let so : cow_str_bytes k.name ≡ segment.now = made.0 in peeks ! K (Is K) (shows 𝓛 K) k (v ∷ []) (λ ok.
    lands_as ! refl refl ((lawful.typed k (v ∷ []) ok).0) $ sets ! (of_opd ! (get ! refl)) refl ((lawful.typed k (v ∷ []) ok).0) $
    sets ! (addr ! (through ! refl (stop !))) refl (tt, tt) $ sets ! (addr ! (from ! (stop !))) refl (tt, tt) $
    -- [what the key owns; the token of κ'; κ; the reference]
    take_at ! 3 $ move ! (0 ∷ 1 ∷ []) $ use2 𝓛 (‵ (part_at K full_share k (l 3) 0)) (part_in_at 𝓛 K refl full_share k (l 3) 0 ω refl v) $
    lft_new ! tt (λ β. let κ'' : Lft = β ∷ κ' in let s = (common full_share (right q')).0 in
    let below : κ'' ⊑ κ' = meet_⊑_right (β ∷ []) κ' in let Both : SProp 𝓤 = sep 𝓤 (𝓛.A.lft (β ∷ []) full_share) (𝓛.A.lft κ' (right q')) in
    move ! (2 ∷ []) $ split ! $ use1 𝓛 (‵ (flft κ' (left q')) ⊛ ‵ (flft κ' (right q'))) (𝓛.lfts.lft_split κ' q') $ split ! $
    move ! (3 ∷ 1 ∷ []) $ use2 𝓛 (‵ (flft κ'' s) ⊛ raw (wand 𝓤 (𝓛.A.lft κ'' s) Both)) (lft-common 𝓛 (β ∷ []) κ' full_share (right q')) $ split ! $
    -- [the token of the meet; its way back; κ', its left half; nothing; the key; κ; the reference]
    move ! (4 ∷ 0 ∷ []) $ use2 𝓛 (later ((‵ ((ShrRef (named 2) κ'' K).own_val (record { ref_ptr = (l 3, 0); now = k }) (vptr (l 3) 0 ∷ [])) ⊛ ‵ (flent κ'' (part_at K full_share k (l 3) 0))) ⊛ ‵ (flft κ'' s)))
    (lends_shr 𝓛 K (named 2) κ'' full_share k (l 3) 0 K.lives ((key_laws.the_row_laws α).shares 𝓛 k) ((κ'', s) ∷ []) (key_laws.the_within α κ'' below) (λ x m. m)) $ await ! tt $ split ! $ split ! $
    -- [the key's reference; its loan; the token of the meet; its way back; κ', its left half; nothing; κ; the reference]
    let b : Bor Key = record { ref_ptr = (l 3, 0); now = k } in
    let G = triple_of 𝓛 g.signature (g.spec 𝓛 𝓜.mem 𝓡.returns) in
    let z : G.Ghost = (((κ, (κ', (κ'', tt))), (q, (left q', (s, tt))), (bounds.0, (below, tt)), (r, (b, tt)), (mut_vals r, (shr_vals b, tt))), tt) in
    let name = cow_str_bytes k.name in
    move ! (6 ∷ 4 ∷ 2 ∷ 5 ∷ []) $ group ! 4 $ move ! (4 ∷ 1 ∷ 0 ∷ []) $ hands ! (subst (λ (u : List ℕ). IsSome (untaken_entry u (view r.now))) (sym so) asked) (G.pre z) (id⊢ 𝓤 _) $
    calls_at ! (framed 𝓤 𝓛.H 𝓜 𝓣) G (g-thm.met 𝓤 𝓛 𝓜 𝓡 (code.calls-toml_span_tree::pointer::child_of 𝓡.env wired)) z (and_then ! (get ! refl) (and_then ! (get ! refl) (no_more !))) (λ v'.
    lends ! tt κ V v' (‵ (flft κ q) ⊛ ‵ (flft κ' (left q')) ⊛ ‵ (flft κ'' s) ⊛ ‵ ftrue) (lasts g.ended z.0.0 z.0.3) (lends_child r name) (λ y. untaken_entry name (view r.now) ≡ Some (view y.now)) (id⊢ 𝓤 _) (λ y there vis.
    rewrite ! 1 (λ (u : List ℕ). ‵ (lends_child r u y)) so refl $ lands_as ! vis refl (tt, tt) $
    -- [the value's reference; what is lent; the tokens; the loan of the key; the way back]
    move ! (2 ∷ []) $ split3 ! $ move ! (2 ∷ []) $ split ! $
    -- [the token of the meet; nothing; κ; κ', its left half; the value's reference; what is lent; the loan of the key; the way back]
    move ! (0 ∷ 7 ∷ []) $ use2 𝓛 (‵ (flft (β ∷ []) full_share) ⊛ ‵ (flft κ' (right q'))) (apply∗ 𝓤 (𝓛.A.lft κ'' s) Both) $ split ! $
    lft_end ! tt $ use1 𝓛 (‵ (fdead κ'')) (𝓛.lfts.dead-incl κ'' (β ∷ []) (meet_⊑_left (β ∷ []) κ')) $
    -- [the meet is over; κ', its right half; nothing; κ; κ', its left half; the value's reference; what is lent; the loan of the key]
    move ! (0 ∷ 7 ∷ []) $ lent_back ! tt $
    use1 𝓛 (some (λ (w : Val). ‵ (fat full_share ω (l 3) 0 w) ⊛ ‵ (K.own_val k (w ∷ [])))) (part_out_at 𝓛 K refl full_share k (l 3) 0 ω refl) $ pick ! (λ w. split ! $ give_at ! 3 $
    move ! (4 ∷ 1 ∷ []) $ use2 𝓛 (‵ (flft κ' q')) (𝓛.lfts.lft_join κ' q') $ move ! (0 ∷ 2 ∷ []) $ join ! $ move ! (1 ∷ []) $ peeks ! K (Is K) (shows 𝓛 K) k (w ∷ []) (λ ok'.
    -- [what the key owns; the token of κ'; κ; the value's reference; what is lent]
    sets ! (of_opd ! (get ! refl)) refl ((lawful.typed k (w ∷ []) ok').0) $
    let E = triple_of 𝓛 h.signature (h.spec 𝓛 𝓜.mem 𝓡.returns) in
    let ze : E.Ghost = (((κ', tt), (q', tt), tt, (k, tt), (w ∷ [], tt)), tt) in
    hands1 ! (id⊢ 𝓤 _) (E.pre ze) (id⊢ 𝓤 _) $
    calls_at ! (framed 𝓤 𝓛.H 𝓜 𝓣) E (h-thm.met 𝓤 𝓛 𝓜 𝓡 (code.calls-toml_span_tree::pointer::release 𝓡.env wired)) ze (and_then ! (get ! refl) (no_more !)) (λ v''.
    gives ! tt unit v'' one (lasts h.ended ze.0.0 ze.0.3) (λ u. raw (emp 𝓤)) (id⊢ 𝓤 _) (λ u. drop ! $ feq_l ! (λ is_unit.
    lands_as ! (ap only is_unit) refl (tt, tt) $
    sets ! (addr ! (through ! refl (stop !))) refl (tt, tt) $
    returns ! (look_at ! 0 refl) $ free_all ! refl $ move ! (1 ∷ 0 ∷ []) $ join ! $ move ! (1 ∷ 2 ∷ []) $
    ends ! (ends_at 𝓛 f.ended stayed c ((κs, qs, bounds, a, (mut_vals r, (shr_slice_vals segment, tt))), tt) (vptr y.ref_ptr.0 y.ref_ptr.1) y (tt, (tt, tt)) (tt, (tt, tt))) (subst (λ (u : List ℕ). untaken_entry u (view r.now) ≡ Some (view y.now)) so there))))))))))))))))
