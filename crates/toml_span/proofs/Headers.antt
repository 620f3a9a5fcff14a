-- Placing a section: its header part by part, and its assignments at the end. A dotted key is placed part by part.
use Rattle.toml_span_lex.proofs.Common.{◌≡◌, ◌<◌, ◌-◌, Global, Vec, get_or, map, ℕ, zero, suc, false, true, if◌then◌else◌, List, [], ◌∷◌, length, Some, None, Result, Err, refl, sym, ap, ◌∙◌, subst, inl, inr, arith, vec_len, ◌==◌, with_item, eqb-false, length-map, nil_from_length, nat_tests, common_steps}
use Rattle.std.proofs.Math.ListN.{length-set}
use Rattle.toml_span_tree.specs.Path.{Path, key}
use Rattle.toml_span_lex.specs.declared.key.Key.{Key}
use Rattle.toml_span_read.specs.Data.{ParsedValue as Read, parsed_span, SimpleKey, simple_key}
use Rattle.toml_span.specs.declared.claims.ClaimInfo.{ClaimInfo}
use Rattle.toml_span.specs.declared.claims.ClaimKind.{ClaimKind}
use Rattle.toml_span.specs.declared.claims.ClaimKind.TheVariants.{ArrayOfTables, Dotted, Passed, StandardTable}
use Rattle.toml_span.specs.declared.branch.Branch.{Branch}
use Rattle.toml_span.specs.declared.branch.Branch.TheViews.{out-Branch, roll-Branch}
use Rattle.toml_span.specs.declared.branch.Branch.TheOpen.{Branch-F}
use Rattle.toml_span.specs.declared.claims.HeaderInfo.{HeaderInfo}
use Rattle.toml_span.specs.Claims.{Claims, array_claims, claimed, part_info, pair_info, table_claim}
use Rattle.toml_span.specs.code.Machine.{OkOrClash, earliest_clash}
use Rattle.toml_span.specs.code.ClaimInfos.{PlaceError, remember}
use Rattle.toml_span.specs.code.Placing.{Opening, Opens, Passes, Places, Reaches}
use Rattle.toml_span.specs.code.Relative.{adding, ending, counts_after, counts_after_end, counts_after_through, counts_after_adding, opening, pair_at, part_kind, passing, section_at, through, through_pair}
use Rattle.toml_span.specs.code.Tree.{IsChild, IsFresh, IsHeld, IsNamed, IsOpen, IsScope, Sound, child, closed, closed_infos, counts, entries, is_array_kind, is_entry_kind, item, infos}
use Rattle.toml_span.proofs.Absolute.{counts_after-through, section_at-through}
use Rattle.toml_span.proofs.Claimed.{Marked, counts-marked, named-fresh, named-remember, reaches-claim-err, reaches-claimed, scope-marked}
use Rattle.toml_span.proofs.Entries.{item-at, open-array, puts-set, reaches-entry}
use Rattle.toml_span.proofs.Grafts.{fun_ext, graft-itself}
use Rattle.toml_span.proofs.Nodes.{Sets, counts-here, counts-at, out-roll, roll-out, sound-shape}
use Rattle.toml_span.proofs.Placed.{gives-map, not-array, Starts, places-beside, places-below, unclosed}

-- ---- what clashes

-- so a branch that is claimed as an array is fresh
array-fresh : (n : Branch) (m : ClaimInfo) (name : List ℕ) → m.kind ≡ ArrayOfTables → entries n ≡ [] → IsChild n → earliest_clash (infos n) m name ≡ None → IsFresh n
array-fresh n m name is none h free = grind (arith, nat_tests, common_steps, sound-shape)

-- ---- a table is claimed, and assignments are placed below it

-- what is placed after a table has been claimed
opened : (A : Branch → Type 0) (k : SimpleKey) (m : ClaimInfo) (old mid new : Branch) (r : Result (Unit {0}) PlaceError) (cs : (Path → ℕ) → Claims) (d : (Path → ℕ) → Path → ℕ)
    → earliest_clash (infos old) m k.name ≡ None → Marked m old mid → (A old → IsScope mid) → Places mid new r (cs (counts mid)) (d (counts mid))
    → Opening A m old new r (claimed (table_claim [] k m) (cs (counts old))) (d (counts old))
opened A k m old mid new r cs d free h scope placed =
    let After = λ (n : Branch). IsScope n × (infos n ≡ remember (infos old) m) in
    reaches-claimed A After After k m old mid new r (cs (counts old)) (d (counts old)) free h (λ before. (scope before, h.claims))
    (subst (λ f. Reaches After After mid new r (cs f) (d f)) (counts-marked m old mid h)
    (λ before. gives-map r _ _ _ _ refl (λ u g. (g.0, g.1, (g.2.0, g.2.1 ∙ h.claims))) (placed before.0)))

opens-scope : (kind : ClaimKind) (n : Branch) (m : ClaimInfo) (name : List ℕ) → m.kind ≡ kind → Opens kind n → earliest_clash (infos n) m name ≡ None → IsScope n
opens-scope kind n m name is h free = grind (arith, nat_tests, common_steps, not-array)

opens-table : (kind : ClaimKind) (n : Branch) → Opens kind n → is_array_kind kind ≡ false
opens-table kind n h = elim h.1 [ inl section ↦ ap is_array_kind section | inr entry ↦ ap is_array_kind entry.0 ]

-- a node that is claimed at a name
held-claimed : (m : ClaimInfo) (n new : Branch) → is_entry_kind m.kind ≡ false → IsChild n → infos new ≡ remember (infos n) m → IsNamed (infos new)
held-claimed m n new other h claims = grind (arith, nat_tests, common_steps, named-fresh, named-remember)

module _ (h : HeaderInfo) (k : SimpleKey) where
  pub opened-table : (kind : ClaimKind) (tail : Claims) (old mid new : Branch) (r : Result (Unit {0}) PlaceError) → earliest_clash (infos old) (part_info h kind k.span) k.name ≡ None → Marked (part_info h kind k.span) old mid
      → Places mid new r tail (counts mid) → Opening (Opens kind) (part_info h kind k.span) old new r (opening h kind k tail) (counts old)
  opened-table kind tail old mid new r free claims placed before =
      let scope = scope-marked (part_info h kind k.span) old mid (opens-table kind old before) claims (opens-scope kind old (part_info h kind k.span) k.name refl before free) in
      opened (Opens kind) k (part_info h kind k.span) old mid new r (λ f. tail) (λ f. f) free claims (λ start. scope) placed before

  pub opening-err : (A : Branch → Type 0) (kind : ClaimKind) (tail : Claims) (old new : Branch) (q : Result (Unit {0}) PlaceError) (e : PlaceError) (P : Unit {0} → Type 0) (d : Path → ℕ) → q ≡ Err e
      → OkOrClash (Err e) (earliest_clash (infos old) (part_info h kind k.span) k.name) P → Opening A (part_info h kind k.span) old new q (opening h kind k tail) d
  opening-err A kind tail old new q e P d same clash =
      reaches-claim-err A (λ n. IsScope n × (infos n ≡ remember (infos old) (part_info h kind k.span))) k (part_info h kind k.span) old new q e P tail d same clash

  -- ---- the end of a header

  first-open : (old mid : Branch) → entries old ≡ [] → earliest_clash (infos old) (part_info h ArrayOfTables k.span) k.name ≡ None → Marked (part_info h ArrayOfTables k.span) old mid → IsChild old → IsOpen mid
  first-open old mid none free claims before = grind (arith, nat_tests, common_steps, array-fresh)

  module _ (tail : Claims) where
    pub end-table : (old new : Branch) (r : Result (Unit {0}) PlaceError) → h.array ≡ false → Opening (Opens StandardTable) (part_info h StandardTable k.span) old new r (opening h StandardTable k tail) (counts old)
        → Passes old new r (ending h k tail (counts old [])) (counts_after_end (counts old) h)
    end-table old new r is placed =
        let count : counts old ≡ counts_after_end (counts old) h = fun_ext (λ p. rw is refl) in
        simp is (λ before. gives-map r _ _ _ _ refl
        (λ u g. (g.0, g.1 ∙ count, (g.2.0.0, held-claimed (part_info h StandardTable k.span) old new refl before g.2.1))) (placed (before.0, inl refl)))

    array-ending : (old : Branch) → h.array ≡ true → ending h k tail (counts old []) ≡ array_claims h [] k (counts old []) (adding h k tail (counts old []))
    array-ending old is = rw is refl

    array-counts_after : (old : Branch) → h.array ≡ true → counts_after_end (counts old) h ≡ counts_after_adding (counts old)
    array-counts_after old is = fun_ext (λ p. rw is refl)

    array-first : (old : Branch) → h.array ≡ true → entries old ≡ [] → ending h k tail (counts old []) ≡ claimed (table_claim [] k (part_info h ArrayOfTables k.span)) (adding h k tail (counts old []))
    array-first old is none = grind (arith, nat_tests, common_steps, counts-here)

    -- with the first entry of an array
    pub end-first : (old mid new : Branch) (r : Result (Unit {0}) PlaceError) → h.array ≡ true → entries old ≡ [] → earliest_clash (infos old) (part_info h ArrayOfTables k.span) k.name ≡ None
        → Marked (part_info h ArrayOfTables k.span) old mid → Reaches IsOpen IsHeld mid new r (adding h k tail (counts mid [])) (counts_after_adding (counts mid))
        → Passes old new r (ending h k tail (counts old [])) (counts_after_end (counts old) h)
    end-first old mid new r is none free claims placed =
        let m = part_info h ArrayOfTables k.span in
        subst (λ l. Passes old new r l (counts_after_end (counts old) h)) (sym (array-first old is none))
        (subst (λ c. Passes old new r (claimed (table_claim [] k m) (adding h k tail (counts old []))) c) (sym (array-counts_after old is))
        (reaches-claimed IsChild IsOpen IsHeld k m old mid new r (adding h k tail (counts old [])) (counts_after_adding (counts old)) free claims (first-open old mid none free claims)
        (subst (λ f. Reaches IsOpen IsHeld mid new r (adding h k tail (f [])) (counts_after_adding f)) (counts-marked m old mid claims) placed)))

    pub end-first-err : (old new : Branch) (q : Result (Unit {0}) PlaceError) (e : PlaceError) (P : Unit {0} → Type 0) (d : Path → ℕ) → h.array ≡ true → entries old ≡ [] → q ≡ Err e
        → OkOrClash (Err e) (earliest_clash (infos old) (part_info h ArrayOfTables k.span) k.name) P → Passes old new q (ending h k tail (counts old [])) d
    end-first-err old new q e P d is none same clash =
        rw (array-first old is none) (reaches-claim-err IsChild IsHeld k (part_info h ArrayOfTables k.span) old new q e P (adding h k tail (counts old [])) d same clash)

    -- with a later one
    pub end-further : (old new : Branch) (r : Result (Unit {0}) PlaceError) → h.array ≡ true → (entries old ≡ [] → ⊥) → Reaches IsOpen IsHeld old new r (adding h k tail (counts old [])) (counts_after_adding (counts old))
        → Passes old new r (ending h k tail (counts old [])) (counts_after_end (counts old) h)
    end-further old new r is some placed =
        let count : counts_after_adding (counts old) ≡ counts_after_end (counts old) h = fun_ext (λ p. rw is refl) in
        let claims : ending h k tail (counts old []) ≡ adding h k tail (counts old []) = array-ending old is ∙ further (counts old []) (counts-some old some) in
        rw claims (λ before. gives-map r _ _ _ _ refl (λ u g. (g.0, g.1 ∙ count, g.2)) (placed (opens (entries old) refl before.0)))
      where
        further : (n : ℕ) → (n ≡ 0 → ⊥) → array_claims h [] k n (adding h k tail (counts old [])) ≡ adding h k tail (counts old [])
        further zero some = absurd (some refl)
        further (suc n) some = refl

        opens : (xs : List Branch) → entries old ≡ xs → Sound old → IsOpen old
        opens [] is sure = absurd (some is)
        opens (x ∷ xs) is sure = open-array old 0 x (ap (item 0) is) sure

        counts-some : (n : Branch) → (entries n ≡ [] → ⊥) → counts n [] ≡ 0 → ⊥
        counts-some n some zeros = some (nil_from_length (entries n) (sym (counts-here n) ∙ zeros))

    -- ---- the inner parts of a header

    module _ (rest : List SimpleKey) where
      pub descended : (old mid new : Branch) (r : Result (Unit {0}) PlaceError) → earliest_clash (infos old) (part_info h Passed k.span) k.name ≡ None → Marked (part_info h Passed k.span) old mid
          → Places mid new r (section_at (counts mid) h rest tail) (counts_after (counts mid) h rest)
          → Opening IsScope (part_info h Passed k.span) old new r (passing h k rest tail (counts old)) (counts_after (counts old) h rest)
      descended old mid new r free claims placed =
          opened IsScope k (part_info h Passed k.span) old mid new r (λ f. section_at f h rest tail) (λ f. counts_after f h rest) free claims
          (scope-marked (part_info h Passed k.span) old mid refl claims) placed

    -- what follows the first claim, if there is nothing yet
    after_first : (Path → ℕ) → List SimpleKey → Claims
    after_first e [] = if h.array then adding h k tail 0 else tail
    after_first e (l ∷ more) = section_at e h (l ∷ more) tail

    through-first : (rest : List SimpleKey) (e : Path → ℕ) → e [] ≡ 0 → through e h k rest tail ≡ claimed (table_claim [] k (part_info h (part_kind h rest) k.span)) (after_first e rest)
    unfolding after_first
    through-first rest e none = grind (arith, nat_tests, common_steps)

    -- what clashes with a value of this name
    pub section-beside : (rest : List SimpleKey) (n new : Branch) (q : Result (Unit {0}) PlaceError) (e : PlaceError) (P : Unit {0} → Type 0) (d : Path → ℕ)
        → child k.name n ≡ None → q ≡ Err e → OkOrClash (Err e) (earliest_clash (closed_infos (closed k.name n)) (part_info h (part_kind h rest) k.span) k.name) P
        → Places n new q (section_at (counts n) h (k ∷ rest) tail) d
    section-beside rest n new q e P d missing same clash =
        let none : counts n (key k.name ∷ []) ≡ 0 = ap (λ f. f []) (counts-at n (key k.name) None missing) in
        rw (section_at-through, through-first rest (λ p. counts n (key k.name ∷ p)) none)
        (places-beside n new k.name q e (table_claim [] k (part_info h (part_kind h rest) k.span)) (after_first (λ p. counts n (key k.name ∷ p)) rest) P d missing refl same clash)

    -- if nothing clashes, there is no value of this name
    pub section-free : (rest : List SimpleKey) (n : Branch) → earliest_clash (closed_infos (closed k.name n)) (part_info h (part_kind h rest) k.span) k.name ≡ None → closed k.name n ≡ None
    section-free rest n free = grind (arith, nat_tests, common_steps, unclosed)

    pub section-placed : (rest : List SimpleKey) (n new x w : Branch) (r : Result (Unit {0}) PlaceError) → Starts n x k.name → Sets (key k.name) (Some w, closed k.name n) n new
        → Passes x w r (through (counts x) h k rest tail) (counts_after_through (counts x) h rest)
        → Places n new r (section_at (counts n) h (k ∷ rest) tail) (counts_after (counts n) h (k ∷ rest))
    section-placed rest n new x w r start sets placed =
        rw (section_at-through, counts_after-through) (places-below n new x w k.name r (λ f. through f h k rest tail) (λ f. counts_after_through f h rest) start sets placed)

-- ---- lists of the code

pub no-latest : (n : Branch) → (0 < vec_len (out-Branch n).entries → ⊥) → entries n ≡ []
no-latest n none = nil_from_length (entries n) (grind (arith, (out-Branch n).entries.ok.0, none))

pub parts-some : (xs : List Key) → (length xs == 0) ≡ false → map simple_key xs ≡ [] → ⊥
parts-some xs h none = eqb-false (length xs) 0 h (sym (length-map xs simple_key) ∙ ap length none)

pub parts-below : (xs : List Key) → length xs < 1 → map simple_key xs ≡ []
parts-below xs h = grind (arith, nat_tests, common_steps)

-- ---- the code's nodes

-- a node with another list of entries
abbrev pub with_entries : Branch → Vec Branch Global → Branch
with_entries n xs = roll-Branch (record { infos = (out-Branch n).infos; values = (out-Branch n).values; tables = (out-Branch n).tables; entries = xs })

module _ (h : HeaderInfo) (k : SimpleKey) (tail : Claims) where
  -- into the latest entry
  pub pass-vec : (rest : List SimpleKey) (n x w : Branch) (r : Result (Unit {0}) PlaceError) → (rest ≡ [] → ⊥) → 0 < vec_len (out-Branch n).entries
      → x ≡ get_or (entries n) (vec_len (out-Branch n).entries - 1) x
      → Opening IsScope (part_info h Passed k.span) x w r (passing h k rest tail (counts x)) (counts_after (counts x) h rest)
      → Passes n (with_entries n (with_item (out-Branch n).entries (vec_len (out-Branch n).entries - 1) w)) r (through (counts n) h k rest tail) (counts_after_through (counts n) h rest)
  pass-vec [] n x w r some many is placed = absurd (some refl)
  pass-vec (l ∷ more) n x w r some many is placed =
      let m = vec_len (out-Branch n).entries - 1 in
      let within : m < length (entries n) = omega (arith, (out-Branch n).entries.ok.0) in
      let count : counts n [] ≡ suc m = counts-here n ∙ omega (arith, (out-Branch n).entries.ok.0) in
      let new = with_entries n (with_item (out-Branch n).entries m w) in
      rw count (reaches-entry (part_info h Passed k.span) m n new x w r (passing h k (l ∷ more) tail) (λ f. counts_after f h (l ∷ more)) (item-at (entries n) m x within ∙ ap Some (sym is))
      (puts-set m w n _ refl refl refl within refl) (ap (λ (b : Branch-F Branch). length b.entries.items) (out-roll _) ∙ length-set (entries n) m w) placed)

  -- or from the node itself
  pub pass-again : (rest : List SimpleKey) (n new : Branch) (r : Result (Unit {0}) PlaceError) → (rest ≡ [] → ⊥) → entries n ≡ []
      → Opening IsScope (part_info h Passed k.span) (with_entries n (out-Branch n).entries) new r
      (passing h k rest tail (counts (with_entries n (out-Branch n).entries))) (counts_after (counts (with_entries n (out-Branch n).entries)) h rest)
      → Passes n new r (through (counts n) h k rest tail) (counts_after_through (counts n) h rest)
  pass-again [] n new r some none placed = absurd (some refl)
  pass-again (l ∷ more) n new r some none placed =
      let count : counts n [] ≡ 0 = counts-here n ∙ ap length none in
      let here = subst (λ a. Opening IsScope (part_info h Passed k.span) a new r (passing h k (l ∷ more) tail (counts a)) (counts_after (counts a) h (l ∷ more))) (roll-out n) placed in
      rw count (λ before. gives-map r _ _ _ _ refl (λ u g. (g.0, g.1, (g.2.0.0, held-claimed (part_info h Passed k.span) n new refl before g.2.1))) (here (before.0, none)))

abbrev dotted_info : SimpleKey → Read → ClaimInfo
dotted_info k v = pair_info Dotted k.span (parsed_span v)

-- ---- a dotted key, through a branch

-- a branch through which a dotted key passes is a table
table-marked : (n mid : Branch) (m : ClaimInfo) (name : List ℕ) → m.kind ≡ Dotted → earliest_clash (infos n) m name ≡ None → Marked m n mid → IsChild n → IsScope mid × IsNamed (infos mid)
table-marked n mid m name kind h marked before = grind (arith, nat_tests, common_steps, held-claimed, not-array, scope-marked)

pub passes-dotted : (n mid new : Branch) (k : SimpleKey) (inner : List SimpleKey) (last : SimpleKey) (v : Read) (m : ClaimInfo) (r : Result (Unit {0}) PlaceError)
    → m ≡ dotted_info k v → earliest_clash (infos n) m k.name ≡ None → Marked m n mid → Places mid new r (pair_at inner last v) (counts mid)
    → Passes n new r (through_pair k inner last v) (counts n)
passes-dotted n mid new k inner last v m r same free marked h =
    subst (λ m. Passes n new r (claimed (table_claim [] k m) (pair_at inner last v)) (counts n)) same
    (reaches-claimed IsChild (λ n. IsScope n × IsNamed (infos n)) IsHeld k m n mid new r (pair_at inner last v) (counts n) free marked
    (table-marked n mid m k.name (ap (λ m. m.kind) same) free marked)
    (subst (Reaches (λ n. IsScope n × IsNamed (infos n)) IsHeld mid new r (pair_at inner last v)) (counts-marked m n mid marked) held))
  where
    held : Reaches (λ n. IsScope n × IsNamed (infos n)) IsHeld mid new r (pair_at inner last v) (counts mid)
    held before = gives-map r _ _ _ _ refl (λ u g. (g.0, g.1, (g.2.0.0, subst IsNamed (sym g.2.1) before.1))) (h before.0)

pub passes-dotted-err : (n new : Branch) (k : SimpleKey) (inner : List SimpleKey) (last : SimpleKey) (v : Read) (m : ClaimInfo) (q : Result (Unit {0}) PlaceError) (e : PlaceError) (P : Unit {0} → Type 0) (d : Path → ℕ)
    → m ≡ dotted_info k v → q ≡ Err e → OkOrClash (Err e) (earliest_clash (infos n) m k.name) P → Passes n new q (through_pair k inner last v) d
passes-dotted-err n new k inner last v m q e P d same is h = reaches-claim-err IsChild IsHeld k (dotted_info k v) n new q e P (pair_at inner last v) d is (rw same at h)

-- ---- a dotted key, below a name

pub pair-placed : (n new x w : Branch) (k : SimpleKey) (inner : List SimpleKey) (last : SimpleKey) (v : Read) (r : Result (Unit {0}) PlaceError)
    → Starts n x k.name → Sets (key k.name) (Some w, closed k.name n) n new → Passes x w r (through_pair k inner last v) (counts x)
    → Places n new r (pair_at (k ∷ inner) last v) (counts n)
unfolding pair_at
pair-placed n new x w k inner last v r start sets h =
    subst (Places n new r (pair_at (k ∷ inner) last v)) (graft-itself (key k.name) (counts n)) (places-below n new x w k.name r (λ f. through_pair k inner last v) (λ f. f) start sets h)

pub pair-beside : (n new : Branch) (k : SimpleKey) (inner : List SimpleKey) (last : SimpleKey) (v : Read) (m : ClaimInfo) (q : Result (Unit {0}) PlaceError) (e : PlaceError) (P : Unit {0} → Type 0) (d : Path → ℕ)
    → child k.name n ≡ None → m ≡ dotted_info k v → q ≡ Err e → OkOrClash (Err e) (earliest_clash (closed_infos (closed k.name n)) m k.name) P → Places n new q (pair_at (k ∷ inner) last v) d
unfolding pair_at
pair-beside n new k inner last v m q e P d missing same is h = grind (arith, nat_tests, common_steps, places-beside)
