-- A branch with one more claim.
use Rattle.toml_span_lex.proofs.Common.{◌≡◌, ℕ, Bool, true, false, not, ◌||◌, List, [], ◌∷◌, ◌++◌, length, Option, Some, None, Result, Ok, Err, refl, sym, ap, ◌∙◌, subst, inl, inr, ◌⊎◌, false≢true, nat_tests, common_steps, arith}
use Rattle.toml_span_tree.specs.Path.{Path, Step}
use Rattle.toml_span_read.specs.Data.{SimpleKey}
use Rattle.toml_span.specs.declared.claims.ClaimKind.{ClaimKind}
use Rattle.toml_span.specs.declared.claims.ClaimInfo.{ClaimInfo}
use Rattle.toml_span.specs.declared.branch.Branch.{Branch}
use Rattle.toml_span.specs.declared.branch.Branch.TheViews.{out-Branch, roll-Branch}
use Rattle.toml_span.specs.declared.branch.Branch.TheOpen.{Branch-F}
use Rattle.toml_span_read.specs.Paths.{same_path}
use Rattle.toml_span.specs.Claims.{Claims, no_claims, claimed, followed, table_claim}
use Rattle.toml_span.specs.Flat.{by_header}
use Rattle.toml_span.specs.code.ClaimInfos.{PlaceError, first, first_by_header, has_kind, remember, same_kind}
use Rattle.toml_span.specs.code.Machine.{Decided, OkOrClash, change, decide, earliest_clash, put_all, clash_found, with_claim}
use Rattle.toml_span.specs.code.Placing.{Reaches}
use Rattle.toml_span.specs.code.Tree.{infos, entries, own_cell, cells, cell_at, counts, count_at, by_info, by_infos, is_array_kind, is_entry_kind, NoArray, NoEntry, IsNamed, IsEntry, IsScope}
use Rattle.toml_span_read.proofs.BorrowLemmas.{all_append}
use Rattle.toml_span.proofs.Grafts.{path_ext}
use Rattle.toml_span.proofs.Nodes.{IsGood, Slot, cells-step, counts-step, out-roll, scope-from, scope-infos, slot, slot_cell, slot_count, sound-good}
use Rattle.toml_span.proofs.Placed.{reaches-then}
use Rattle.toml_span.proofs.Shown.{shown_by, shown_by-append, shown_by-none}

-- ---- kinds

pub same_kind-eq : (a b : ClaimKind) → same_kind a b ≡ true → a ≡ b
same_kind-eq a b h = grind (arith, nat_tests, common_steps)

-- ---- what is kept of one more claim

pub remember-cases : (ms : List ClaimInfo) (m : ClaimInfo) → ((has_kind ms m.kind ≡ true) × (remember ms m ≡ ms)) ⊎ ((has_kind ms m.kind ≡ false) × (remember ms m ≡ ms ++ m ∷ []))
remember-cases ms m = grind (arith, nat_tests, common_steps)

-- what holds for the claims and for the new one holds for those that are kept
remember-each : (P : List ClaimInfo → Type 0) (ms : List ClaimInfo) (m : ClaimInfo) → P ms → P (ms ++ m ∷ []) → P (remember ms m)
remember-each P ms m kept added = grind (arith, nat_tests, common_steps, remember-cases)

pub no_array-remember : (ms : List ClaimInfo) (m : ClaimInfo) → is_array_kind m.kind ≡ false → NoArray ms → NoArray (remember ms m)
no_array-remember ms m other h = remember-each NoArray ms m h (all_append (λ x. is_array_kind x.kind ≡ false) ms (m ∷ []) h (other, tt))

named-append : (ms : List ClaimInfo) (m : ClaimInfo) → is_entry_kind m.kind ≡ false → NoEntry ms → IsNamed (ms ++ m ∷ [])
named-append ms m other h = grind (arith, nat_tests, common_steps)

-- a fresh branch that is claimed has a name
pub named-fresh : (ms : List ClaimInfo) (m : ClaimInfo) → is_entry_kind m.kind ≡ false → ms ≡ [] → IsNamed (remember ms m)
named-fresh ms m other none = rw none (other, tt)

pub named-remember : (ms : List ClaimInfo) (m : ClaimInfo) → is_entry_kind m.kind ≡ false → IsNamed ms → IsNamed (remember ms m)
named-remember ms m other h = grind (arith, nat_tests, common_steps, named-append, remember-each)

pub entry-remember : (ms : List ClaimInfo) (m : ClaimInfo) → IsEntry ms → IsEntry (remember ms m)
entry-remember ms m h = grind (arith, nat_tests, common_steps, remember-each)

-- ---- the claim that decides

abbrev infos_show : Option Decided → List ClaimInfo → Option Decided
infos_show = shown_by ClaimInfo by_info first_by_header

infos_show-none : (ms : List ClaimInfo) → infos_show None ms ≡ by_infos ms
unfolding shown_by
infos_show-none [] = refl
infos_show-none (x ∷ ms) = shown_by-none ClaimInfo by_info first_by_header refl (λ x xs. refl) x ms

-- what has already decided, so that a claim, by a header or not, changes nothing
abbrev IsSettled : Option Decided → Bool → Type 0
IsSettled None header = ⊥
IsSettled (Some first) header = (first.header || not header) ≡ true

settled-keeps : (o : Option Decided) (d : Decided) → IsSettled o d.header → decide o d ≡ o
settled-keeps o d h = grind (arith, nat_tests, common_steps)

settled-by : (o : Option Decided) (d : Decided) → IsSettled (decide o d) d.header
settled-by o d = grind (arith, nat_tests, common_steps)

settled-more : (o : Option Decided) (d : Decided) (header : Bool) → IsSettled o header → IsSettled (decide o d) header
settled-more None d header h = absurd h
settled-more (Some first) d header h = grind (arith, nat_tests, common_steps)

settled-show : (o : Option Decided) (ms : List ClaimInfo) (header : Bool) → IsSettled o header → IsSettled (infos_show o ms) header
unfolding shown_by
settled-show o [] header h = h
settled-show o (x ∷ ms) header h = settled-show (decide o (by_info x)) ms header (settled-more o (by_info x) header h)

known-settled : (o : Option Decided) (ms : List ClaimInfo) (m : ClaimInfo) → has_kind ms m.kind ≡ true → IsSettled (infos_show o ms) (by_header m.kind)
unfolding shown_by
known-settled o [] m known = absurd (false≢true known)
known-settled o (x ∷ ms) m known =
    grind (arith, nat_tests, common_steps, same_kind-eq, settled-by o (by_info x), settled-show (decide o (by_info x)) ms, known-settled (decide o (by_info x)) ms m)

-- what decides among the claims is decided claim by claim
pub deciding-remember : (ms : List ClaimInfo) (m : ClaimInfo) → by_infos (remember ms m) ≡ decide (by_infos ms) (by_info m)
unfolding shown_by
deciding-remember ms m =
    sym (infos_show-none (remember ms m)) ∙ elim (remember-cases ms m) [
      | inl h ↦ ap (infos_show None) h.1 ∙ sym (settled-keeps (infos_show None ms) (by_info m) (known-settled None ms m h.0))
      | inr h ↦ ap (infos_show None) h.1 ∙ shown_by-append ClaimInfo by_info first_by_header None ms (m ∷ [])
    ] ∙ ap (λ o. decide o (by_info m)) (infos_show-none ms)

-- ---- the branch

-- the same branch, with one more claim
pub record Marked (m : ClaimInfo) (old new : Branch) : Type 0 where
  pub claims : infos new ≡ remember (infos old) m
  pub values : (out-Branch new).values ≡ (out-Branch old).values
  pub tables : (out-Branch new).tables ≡ (out-Branch old).tables
  pub added : entries new ≡ entries old

pub marked-roll : (m : ClaimInfo) (old : Branch) (b : Branch-F Branch) → b.infos.items ≡ remember (infos old) m → b.values ≡ (out-Branch old).values → b.tables ≡ (out-Branch old).tables
    → b.entries.items ≡ entries old → Marked m old (roll-Branch b)
marked-roll m old b claims values tables added = record {
  claims = ap (λ (n : Branch-F Branch). n.infos.items) (out-roll b) ∙ claims;
  values = ap (λ (n : Branch-F Branch). n.values) (out-roll b) ∙ values;
  tables = ap (λ (n : Branch-F Branch). n.tables) (out-roll b) ∙ tables;
  added = ap (λ (n : Branch-F Branch). n.entries.items) (out-roll b) ∙ added;
}

-- everything below it is the same
marked-slot : (m : ClaimInfo) (old new : Branch) → Marked m old new → (s : Step) → slot s new ≡ slot s old
marked-slot m old new h s = grind (arith, nat_tests, common_steps)

pub cells-marked : (k : SimpleKey) (m : ClaimInfo) (old new : Branch) → Marked m old new → cells new ≡ change (cells old) [] (with_claim (table_claim [] k m))
unfolding cell_at change same_path
cells-marked k m old new h =
    path_ext (ap own_cell h.claims ∙ ap (λ s. record { infos = remember (infos old) m; shown = s }) (deciding-remember (infos old) m))
    (λ s p. cells-step new s p ∙ ap (λ x. slot_cell x p) (marked-slot m old new h s) ∙ sym (cells-step old s p))

pub counts-marked : (m : ClaimInfo) (old new : Branch) → Marked m old new → counts new ≡ counts old
unfolding count_at
counts-marked m old new h =
    path_ext (ap length h.added) (λ s p. counts-step new s p ∙ ap (λ x. slot_count x p) (marked-slot m old new h s) ∙ sym (counts-step old s p))

-- a table that is claimed, but not as an array, is still a table
pub scope-marked : (m : ClaimInfo) (old new : Branch) → is_array_kind m.kind ≡ false → Marked m old new → IsScope old → IsScope new
scope-marked m old new other h before =
    scope-from new (subst NoArray (sym h.claims) (no_array-remember (infos old) m other (scope-infos old before))) (h.added ∙ before.1)
    (λ s. subst (λ (x : Slot). IsGood x.0 x.1 s) (sym (marked-slot m old new h s)) (sound-good old before.0 s))

-- ---- the claim is placed

pub reaches-claim : (A B : Branch → Type 0) (k : SimpleKey) (m : ClaimInfo) (old new : Branch) → earliest_clash (infos old) m k.name ≡ None → Marked m old new → (A old → B new)
    → Reaches A B old new (Ok tt) (claimed (table_claim [] k m) no_claims) (counts old)
unfolding clash_found put_all cell_at
reaches-claim A B k m old new free h after = grind (arith, nat_tests, common_steps, cells-marked, counts-marked)

-- before further claims
pub reaches-claimed : (A B C : Branch → Type 0) (k : SimpleKey) (m : ClaimInfo) (old mid new : Branch) (r : Result (Unit {0}) PlaceError) (cs : Claims) (d : Path → ℕ)
    → earliest_clash (infos old) m k.name ≡ None → Marked m old mid → (A old → B mid) → Reaches B C mid new r cs d → Reaches A C old new r (claimed (table_claim [] k m) cs) d
unfolding followed
reaches-claimed A B C k m old mid new r cs d free h after more =
    reaches-then A B C old mid new r (claimed (table_claim [] k m) no_claims) cs (counts old) d (reaches-claim A B k m old mid free h after) more

-- the claim clashes
pub reaches-claim-err : (A C : Branch → Type 0) (k : SimpleKey) (m : ClaimInfo) (old new : Branch) (q : Result (Unit {0}) PlaceError) (e : PlaceError) (P : Unit {0} → Type 0) (cs : Claims) (d : Path → ℕ)
    → q ≡ Err e → OkOrClash (Err e) (earliest_clash (infos old) m k.name) P → Reaches A C old new q (claimed (table_claim [] k m) cs) d
unfolding clash_found cell_at
reaches-claim-err A C k m old new q e P cs d same h = grind (arith, nat_tests, common_steps)
