-- What an enum owns in memory besides the one field of a variant, while that field is lent. Assumes `Logic`.
--     Payload                   a variant k of R with one field, at offset 8: what is kept while the field is lent
--     payload                   that of an enum that is written out: `c` selects the variant, and G is its field type F
--                               as in the source
--     of_table, of_array        those of a table's entries and of an array's elements
--     opened, taken, lent       the memory has such a variant, and its cell the tag; the field is taken; it is lent
use Rattle.toml_span_tree.proofs.Walks.{some', inl, inr, Ura, raw_ty, Ty, Tys, Sym, Tyss, ty_enum, named, Val, Vals, vptr, of_list, full_share, SProp, ent, sep, Fml, Lft, Share, GName, fat, fex, flft, fobor, fobs, fauth, Logic, sem, Item, Goal, Seq, Step, step, Soaks, mean, ‵, raw, ◌⊛◌, some, later, ◌$◌, use1, use2, pick, split, split3, move, group, await, rewrite, live, shows, Is, only, peeks, NamedLft, MutRef, follows, lends_Part, mem, part_at, lone, RattleType, Valss, owns, pays, tag, in_a_row, part_out_at, part_in_at, ghosts, Array, Table}
use mathlib.Core.Path.{◌≡◌, refl, sym, ap, subst, ◌∙◌}
use Prim.Native.Nat.{ℕ, ◌+◌}
use mathlib.Core.List.{List, [], ◌∷◌}
use prog.Memory.{field_at, variant_at}
use base.Stored.{Gv}
use types.SemTy.{Body}
use denote.Struct.Field.{row_field}
use denote.Struct.Loose.{Looses}
use denote.Enum.Declared.{Record, Choice, declared, row, rowss, intoss}
use borrow.Enum.Lend.{kept_variant, variant_apart, variant_put}
use borrow.Struct.Alike.{lies_alike}
use borrow.Table.OneValue.{One}
use Rattle.std.specs.contracts.alloc.Global as global
use Rattle.std.specs.contracts.vec.Vec as vec
use Rattle.std.specs.contracts.collections.BTreeMap as tree
use Rattle.toml_span_lex.specs.contracts.key.Key as key
use Rattle.toml_span_lex.specs.contracts.key.KeyOrd.TheImpl as ord
use Rattle.toml_span_lex.specs.contracts.key.KeyPartialEq.TheImpl as eq
use Rattle.toml_span_lex.specs.contracts.key.KeyPartialOrd.TheImpl as partial_ord
use Rattle.toml_span_tree.specs.contracts.value.Value as value
use Rattle.toml_span_tree.specs.contracts.value.ValueInner as inner
use Rattle.toml_span_tree.proofs.value.ValueInner.TheLaws as laws

pub record Payload (R F : RattleType) (put : F.Denot → R.Denot) (k : ℕ) : Type 2 where
  pub one : One R
  pub live_at : (m : F.Denot) (v : Val) → Is R (put m) (v ∷ []) → (us : Vals) × (v ≡ live k us)
  pub Kept : {M : Type 1} {𝓤 : Ura M} (𝓛 : Logic 𝓤) → F.Denot → ℕ → ℕ → SProp 𝓤
  pub apart : {M : Type 1} {𝓤 : Ura M} (𝓛 : Logic 𝓤) (m : F.Denot) (b o : ℕ) → ent 𝓤 (sem 𝓛 (part_at R full_share (put m) b o)) (sep 𝓤 (sem 𝓛 (part_at F full_share m b (o + 8))) (Kept 𝓛 m b o))
  pub back : {M : Type 1} {𝓤 : Ura M} (𝓛 : Logic 𝓤) (m w : F.Denot) (b o : ℕ) → ent 𝓤 (sep 𝓤 (sem 𝓛 (part_at F full_share w b (o + 8))) (Kept 𝓛 m b o)) (sem 𝓛 (part_at R full_share (put w) b o))

module _ (N : Record) (k : ℕ) (F G : RattleType) (to : G.Denot → F.Denot) (same : (m : G.Denot) (b o : ℕ) → part_at G full_share m b o ≡ part_at F full_share (to m) b o) (c : F.Denot → Choice N.parts)
    (pay : (m : F.Denot) (us : List Val) → pays (rowss N.parts) (intoss N.parts (c m)) us ≡ fex (Valss (F ∷ [])) (in_a_row (F ∷ []) (owns (F ∷ []) (m, tt)) us))
    (tg : (m : F.Denot) → tag (rowss N.parts) (intoss N.parts (c m)) ≡ k) (loose : Looses (row_field F ∷ [])) (one : One F) {ν : Sym} {τss : Tyss} (et : lone (row (declared N)).mir ≡ ty_enum ν τss) where
  paid : (v : F.Denot × Unit {0}) (us : List Val) → pays (rowss N.parts) (intoss N.parts (N.as_values (N.make (c v.0)))) us ≡ fex (Valss (F ∷ [])) (in_a_row (F ∷ []) (owns (F ∷ []) v) us)
  paid v us = ap (λ (s : Choice N.parts). pays (rowss N.parts) (intoss N.parts s) us) (N.beta (c v.0)) ∙ pay v.0 us

  tagged : (v : F.Denot × Unit {0}) → tag (rowss N.parts) (intoss N.parts (N.as_values (N.make (c v.0)))) ≡ k
  tagged v = ap (λ (s : Choice N.parts). tag (rowss N.parts) (intoss N.parts s)) (N.beta (c v.0)) ∙ tg v.0

  module _ {M : Type 1} {𝓤 : Ura M} (𝓛 : Logic 𝓤) (m : G.Denot) (b o : ℕ) where
    abbrev Kept_of : SProp 𝓤
    Kept_of = mean 𝓛 (kept_variant (declared N) k (row_field F ∷ []) loose (λ v. N.make (c v.0)) paid tagged et 0 8 M 𝓤 𝓛 (to m, tt) b o)

    abbrev Of : G.Denot → Fml
    Of w = part_at (row (declared N)) full_share (N.make (c (to w))) b o

    apart_of : {τs : Tys} → variant_at τss k ≡ some' τs → field_at 1 τs 0 ≡ some' (lone F.mir, 8) → ent 𝓤 (sem 𝓛 (Of m)) (sep 𝓤 (sem 𝓛 (part_at G full_share m b (o + 8))) Kept_of)
    apart_of ev ef = subst (λ (X : Fml). ent 𝓤 (sem 𝓛 (Of m)) (sep 𝓤 (sem 𝓛 X) Kept_of)) (sym (same m b (o + 8)))
        (variant_apart (declared N) k (row_field F ∷ []) loose (λ v. N.make (c v.0)) paid tagged et 0 8 𝓛 one ev ef (to m, tt) b o)

    back_of : (w : G.Denot) → ent 𝓤 (sep 𝓤 (sem 𝓛 (part_at G full_share w b (o + 8))) Kept_of) (sem 𝓛 (Of w))
    back_of w = subst (λ (X : Fml). ent 𝓤 (sep 𝓤 (sem 𝓛 X) Kept_of) (sem 𝓛 (Of w))) (sym (same w b (o + 8)))
        (variant_put (declared N) k (row_field F ∷ []) loose (λ v. N.make (c v.0)) paid tagged et 0 8 𝓛 one (to w) (to m, tt) b o)

  pub payload : {τs : Tys} → variant_at τss k ≡ some' τs → field_at 1 τs 0 ≡ some' (lone F.mir, 8) → Payload (row (declared N)) G (λ m. N.make (c (to m))) k
  payload ev ef = record {
    one = refl;
    live_at = λ m v is. (of_list is.0, ap only is.1.0 ∙ ap (λ (n : ℕ). live n (of_list is.0)) (tagged (to m, tt)));
    Kept = Kept_of;
    apart = λ 𝓛 m b o. apart_of 𝓛 m b o ev ef;
    back = λ 𝓛 m w b o. back_of 𝓛 m b o w;
  }

module _ (a : NamedLft) where
  abbrev pub I : RattleType
  I = inner.the_row a

  abbrev pub table_row : RattleType
  table_row = tree.the_row (key.the_row a) (value.the_row a) global.the_row ord.ghosts eq.ghosts partial_ord.ghosts ghosts

  abbrev table_hole : RattleType
  table_hole = tree.the_row (key.the_row a) (inner.TheKnot.hole-Value a) global.the_row ord.ghosts eq.ghosts partial_ord.ghosts ghosts

  abbrev pub array_row : RattleType
  array_row = vec.the_row (value.the_row a) global.the_row ghosts

  abbrev array_hole : RattleType
  array_hole = vec.the_row (inner.TheKnot.hole-Value a) global.the_row ghosts

  pub of_table : Payload I table_row Table 6
  of_table = payload (inner.enum a) 6 table_hole table_row (λ m. m) (lies_alike (laws.the_alike a).1.1.1.1.1.1.0.0) (λ m. inr (inr (inr (inr (inr (inr (inl (m, tt)))))))) (λ m us. refl) (λ m. refl)
      (laws.the_loose a).1.1.1.1.1.1.0 refl refl refl refl

  pub of_array : Payload I array_row Array 5
  of_array = payload (inner.enum a) 5 array_hole array_row (λ m. m) (lies_alike (laws.the_alike a).1.1.1.1.1.0.0) (λ m. inr (inr (inr (inr (inr (inl (m, tt))))))) (λ m us. refl) (λ m. refl)
      (laws.the_loose a).1.1.1.1.1.0 refl refl refl refl

module _ {M : Type 1} {𝓤 : Ura M} {𝓛 : Logic 𝓤} {K : Type 0} {Γ : List (Item 𝓤)} {G : Goal 𝓤 𝓛.H} {R F : RattleType} {put : F.Denot → R.Denot} {k : ℕ} where
  pub opened : K → (p : Payload R F put k) (x : R.Denot) (m : F.Denot) → x ≡ put m → (b o : ℕ) (ω : Ty) → raw_ty ω ≡ raw_ty (lone R.mir)
      → ((us : Vals) → Seq K 𝓛 (‵ (fat full_share ω b o (live k us)) ∷ ‵ (R.own_val (put m) (live k us ∷ [])) ∷ Γ) G) → Seq K 𝓛 (‵ (part_at R full_share x b o) ∷ Γ) G
  opened i p x m e b o ω same next =
      rewrite i 0 (λ (x : R.Denot). ‵ (part_at R full_share x b o)) e refl $
      use1 𝓛 (some (λ (w : Val). ‵ (fat full_share ω b o w) ⊛ ‵ (R.own_val (put m) (w ∷ [])))) (part_out_at 𝓛 R p.one full_share (put m) b o ω same) $ pick i (λ w. split i $ move i (1 ∷ []) $
      peeks i R (Is R) (shows 𝓛 R) (put m) (w ∷ []) (λ is. let at = p.live_at m w is in move i (1 ∷ []) $
      rewrite i 0 (λ (v : Val). ‵ (fat full_share ω b o v)) at.1 refl $ rewrite i 1 (λ (v : Val). ‵ (R.own_val (put m) (v ∷ []))) at.1 refl $ next at.0))

  pub taken : {us : Vals} → K → (p : Payload R F put k) (m : F.Denot) (b o : ℕ) (ω : Ty) → raw_ty ω ≡ raw_ty (lone R.mir)
      → Step K 𝓛 (‵ (part_at F full_share m b (o + 8)) ∷ raw (p.Kept 𝓛 m b o) ∷ Γ) G (‵ (fat full_share ω b o (live k us)) ∷ ‵ (R.own_val (put m) (live k us ∷ [])) ∷ Γ) G
  taken {us} i p m b o ω same = step (λ s.
      use2 𝓛 (‵ (part_at R full_share (put m) b o)) (part_in_at 𝓛 R p.one full_share (put m) b o ω same (live k us)) $
      use1 𝓛 (‵ (part_at F full_share m b (o + 8)) ⊛ raw (p.Kept 𝓛 m b o)) (p.apart 𝓛 m b o) $ split i $ s)

module _ {M : Type 1} {𝓤 : Ura M} {𝓛 : Logic 𝓤} {K : Type 0} {Γ : List (Item 𝓤)} {G : Goal 𝓤 𝓛.H} {R F : RattleType} {put : F.Denot → R.Denot} {k : ℕ} where
  pub lent : {us : Vals} {u v : Gv} → K → Soaks G → (p : Payload R F put k) (m : F.Denot) (κ : Lft) (q : Share) (γ : GName) (b o : ℕ) (ω : Ty) → raw_ty ω ≡ raw_ty (lone R.mir)
      → ((δ : GName) → Seq K 𝓛 (‵ ((MutRef (named 0) κ F).own_val (record { ref_ptr = (b, o + 8); ghost_name = δ; now = m }) (vptr b (o + 8) ∷ [])) ∷ ‵ (flft κ q) ∷ ‵ (follows R F γ δ put) ∷ Γ) G)
      → Seq K 𝓛 (‵ (fat full_share ω b o (live k us)) ∷ ‵ (R.own_val (put m) (live k us ∷ [])) ∷ ‵ (fobor κ q (Body (mem R) b o γ)) ∷ ‵ (fobs γ u) ∷ ‵ (fauth γ v) ∷ Γ) G
  lent {us} {u} {v} i z p m κ q γ b o ω same next = taken i p m b o ω same $ move i (2 ∷ 3 ∷ 4 ∷ 0 ∷ 1 ∷ []) $ group i 5 $
      use1 𝓛 (later (some (λ (δ : GName). ‵ ((MutRef (named 0) κ F).own_val (record { ref_ptr = (b, o + 8); ghost_name = δ; now = m }) (vptr b (o + 8) ∷ [])) ⊛ ‵ (flft κ q) ⊛ ‵ (follows R F γ δ put))))
      (lends_Part 𝓛 R F put (named 0) κ q b o b (o + 8) γ (p.Kept 𝓛 m b o) (λ w. p.back 𝓛 m w b o) u v m) $ await i z $ pick i (λ δ. split3 i $ next δ)
