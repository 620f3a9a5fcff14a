-- A scalar is replaced by another one: what is around it is spelled in the new text too.
use Rattle.toml_span_lex.proofs.Common.{◌≡◌, ℕ, zero, ◌+◌, ◌-◌, ◌<◌, ◌≤◌, Bool, true, false, List, [], ◌∷◌, length, get_or, drop, prefix_len, arith, inl, inr, refl, sym, ◌∙◌, cases_lt, false≢true, ne_eqb, get_or_past, nat_tests, common_steps}
use Rattle.toml_span_lex.specs.Bytes.{is_blank, is_printed, MaximalRun}
use Rattle.toml_span_tree.specs.Node.{Scalar}
use Rattle.toml_span_read.specs.Data.{SimpleKey, ParsedValue, parsed, scalar, array, inline, ParsedItems, no_items, item, ParsedAssignment, ParsedSection}
use Rattle.toml_span_read.specs.Gaps.{begins_gap, GapPiece, GapBy, MaximalGap, Separator, Equals}
use Rattle.toml_span_read.specs.Grammar.{Spells, SpellsScalar, ItemsWith, AssignmentWith, SpellsHeader, SectionWith}
use Rattle.toml_span_read.specs.Keys.{SpellsKey}
use Rattle.toml_span_read.specs.Read as read
use Rattle.toml_span_read.proofs.GapStarts.{no_gap_is, value_starts}
use Rattle.toml_span_read.proofs.KeyLemmas.{key_sound}
use Rattle.toml_span_read.proofs.KeyOrder.{dotted_ascend}
use Rattle.toml_span_read.proofs.Moves.{Copied, At}
use Rattle.toml_span_read.proofs.NumberLemmas.{run_found}
use Rattle.toml_span_read.proofs.ReadSound.{SpellsPair, assignment_sound, value_sound, header_sound, section_sound}
use Rattle.toml_span_laws.specs.Again.{with_part}
use Rattle.toml_span_laws.proofs.Complete.{few, scalar_byte, key_complete, value_complete, pair_given, assignment_complete, header_byte, header_complete, section_complete}
use Rattle.toml_span_laws.proofs.KeptBytes.{Same, test, run, line}
use Rattle.toml_span_laws.proofs.KeptForms.{Past, past_less, past_blanks, gap, pieces_forward}
use Rattle.toml_span_laws.proofs.KeptReading.{value_on, pair_on, assignment_on, key_on, header_on, section_on}
use Rattle.toml_span_laws.proofs.PlainParsed.{Change, changed_at, header_forward, Leaves, LeavesFrom}
use Rattle.toml_span_laws.proofs.SpelledLine.{no_blank}

-- ---- the first byte of a value

pub value_printed : (v : ParsedValue) (text : List ℕ) (limit d i j : ℕ) → Spells v text limit d i j → is_printed (get_or text i 0) ≡ true
value_printed (parsed (scalar s) span) text limit d i j h = grind (arith, nat_tests, common_steps, scalar_byte s span text i j h.1)
value_printed (parsed (array vs) span) text limit d i j h = rw (h.1.0) refl
value_printed (parsed (inline ps) span) text limit d i j h = rw (h.1.0) refl

pub items_start : (vs : ParsedItems) (text : List ℕ) (limit d i j : ℕ) → ItemsWith SpellsScalar vs text limit d i j → begins_gap text i ≡ false
items_start no_items text limit d i j h = no_gap_is text i 93 h.0 (refl, refl, refl)
items_start (item v vs) text limit d i j (m, h, rest) = value_starts v text limit d i m h

-- ---- the new text

pub part_length : (text part : List ℕ) (i j : ℕ) → i ≤ j → j ≤ length text → length (with_part text i j part) ≡ (i + length part) + (length text - j)
part_length text part i j on within = grind (arith, nat_tests, common_steps)

part_byte : (text part : List ℕ) (i j k m : ℕ) → i ≤ j → j ≤ length text → j ≤ k → k + (i + length part) ≡ m + j → get_or text k 0 ≡ get_or (with_part text i j part) m 0
part_byte text part i j k m on within after e = grind (arith, nat_tests, common_steps)

pub part_copied : (text part : List ℕ) (i j : ℕ) → i ≤ j → j ≤ length text → Copied text (with_part text i j part) j (i + length part) (length (with_part text i j part)) 0
part_copied text part i j on within =
    let n = part_length text part i j on within in
    record {
      same = λ k m a e l. part_byte text part i j k m on within a e;
      fits = omega arith;
      within = omega arith;
      next = get_or_past (with_part text i j part) (length (with_part text i j part)) 0 (omega arith);
    }

pub part_before : (text part : List ℕ) (i j k : ℕ) → i ≤ length text → k < i → get_or text k 0 ≡ get_or (with_part text i j part) k 0
part_before text part i j k within less = grind (arith, nat_tests, common_steps)

-- From i to j there is a scalar, whose span starts at `from`. This part, with the scalar `new`, is written there instead.
pub record Hole (a : List ℕ) : Type 0 where
  pub i : ℕ
  pub j : ℕ
  pub part : List ℕ
  pub from : ℕ
  pub new : Scalar
  pub on : i ≤ from
  pub before : from < j
  pub within : j ≤ length a

abbrev pub new_text : {a : List ℕ} → Hole a → List ℕ
new_text {a} h = with_part a h.i h.j h.part

abbrev pub change : {a : List ℕ} → Hole a → Change
change h = changed_at h.from h.new

-- where an offset after it is in the new text
abbrev pub to : {a : List ℕ} → Hole a → ℕ → ℕ
to h k = (k + (h.i + length h.part)) - h.j

changed_elsewhere : (from at : ℕ) (new s : Scalar) → (at ≡ from → ⊥) → changed_at from new at s ≡ s
changed_elsewhere from at new s none = rw (ne_eqb at from none) refl

module _ {a : List ℕ} (h : Hole a) where
  pub same : Same a (new_text h) h.i
  same =
      let n = part_length a h.part h.i h.j (omega (arith, h.on, h.before)) h.within in
      record { in_a = omega (arith, h.on, h.before, h.within); in_b = omega (arith, n); byte = λ k l. part_before a h.part h.i h.j k (omega (arith, h.on, h.before, h.within)) l }

  pub copied : Copied a (new_text h) h.j (h.i + length h.part) (length (new_text h)) 0
  copied = part_copied a h.part h.i h.j (omega (arith, h.on, h.before)) h.within

  pub whole : length a + (h.i + length h.part) ≡ length (new_text h) + h.j
  whole = let n = part_length a h.part h.i h.j (omega (arith, h.on, h.before)) h.within in omega (arith, n, h.within)

  pub after : (k : ℕ) → h.j ≤ k → k ≤ length a → At h.j (h.i + length h.part) (length (new_text h)) 0 k (to h k)
  after k l m = let e = whole in record { after = l; moved = omega arith; inside = omega arith }

  pub left_before : (i j : ℕ) → j < h.i → Leaves (change h) i j
  left_before i j l at s x y = changed_elsewhere h.from at h.new s (λ e. (let o = h.on in omega arith))

  pub left_after : (i : ℕ) → h.j ≤ i → LeavesFrom (change h) i
  left_after i l at s x = changed_elsewhere h.from at h.new s (λ e. (let o = h.before in omega arith))

  -- ---- gaps up to what is not a gap in the new text

  pub past_byte : (k c : ℕ) → get_or a k 0 ≡ c → (c ≡ 32 → ⊥) → (c ≡ 13 → ⊥) → k < h.i → Past a h.i k
  past_byte k c e space return l = record { here = l; next = λ o. elim o [ inl x ↦ absurd (space (omega (arith, e, x))) | inr x ↦ absurd (return (omega (arith, e, x))) ] }

  piece_to : (i e k : ℕ) → e ≤ k → k ≤ h.i → is_printed (get_or a k 0) ≡ true → GapPiece a i e → GapPiece (new_text h) i e
  piece_to i e k l m seen (inl x) = inl (test same is_blank true i (omega (arith, x.1)) x.0, x.1)
  piece_to i e k l m seen (inr (inl x)) = inr (inl (line same i e (omega arith) x))
  piece_to i e k l m seen (inr (inr x)) = elim (cases_lt e h.i) [
    | inl less ↦ inr (inr (test same (λ c. c) 35 i (omega (arith, x.1.forward)) x.0, run same is_printed i e less x.1))
    | inr more ↦
        let z : e ≡ k = omega arith in
        absurd (false≢true (sym (x.1.stops (grind (arith, nat_tests, common_steps))) ∙ rw (← z) at seen))
  ]

  pieces_to : (ks : List ℕ) (i k : ℕ) → k ≤ h.i → is_printed (get_or a k 0) ≡ true → GapBy a i ks k → GapBy (new_text h) i ks k
  pieces_to [] i k l seen x = x
  pieces_to (e ∷ ks) i k l seen (x, more) = (piece_to i e k (pieces_forward a e k ks more) l seen x, pieces_to ks e k l seen more)

  pub gap_to : (i k : ℕ) → MaximalGap a i k → k ≤ h.i → is_printed (get_or a k 0) ≡ true → begins_gap (new_text h) k ≡ false → MaximalGap (new_text h) i k
  gap_to i k g l seen starts = record { ends = g.ends; pieces = pieces_to g.ends i k l seen g.pieces; forward = g.forward; stops = starts }

  pub separator_to : (c i k : ℕ) → (c ≡ 32 → ⊥) → (c ≡ 13 → ⊥) → Separator c a i k → k ≤ h.i → is_printed (get_or a k 0) ≡ true → begins_gap (new_text h) k ≡ false → Separator c (new_text h) i k
  separator_to c i k space return s l seen starts =
      let on = s.after.forward in
      let p = past_byte s.at c s.here space return (omega arith) in
      record { at = s.at; before = gap same i s.at p s.before; here = test same (λ x. x) c s.at (omega arith) s.here; after = gap_to (s.at + 1) k s.after l seen starts }

  pub equals_to : (i k : ℕ) → Equals a i k → k ≤ h.i → begins_gap (new_text h) k ≡ false → Equals (new_text h) i k
  equals_to i k s l starts =
      let on = s.after.forward in
      let fits = same.in_b in
      record {
        at = s.at;
        before = run same is_blank i s.at (omega arith) s.before;
        here = test same (λ x. x) 61 s.at (omega arith) s.here;
        after = record {
          forward = on;
          within = omega arith;
          passes = λ m x y. test same is_blank true m (omega arith) (s.after.passes m x y);
          stops = λ x. no_blank (new_text h) k starts;
        };
      }

  -- ---- forms before it

  pub value_kept : (v : ParsedValue) (limit d i j : ℕ) → Spells v a limit d i j → Past a h.i j → Spells v (new_text h) limit d i j
  value_kept v limit d i j x p =
      let least = few v a limit d i j x in
      let e : d + zero ≡ d = omega arith in
      let r = value_on a limit ((limit + 1) - d) i j h.i v (new_text h) (value_complete v a limit ((limit + 1) - d) d i j refl x) p same in
      rw e at (value_sound ((limit + 1) - d) (new_text h) limit d zero (omega arith) v i j r)

  pub pair_kept : (e : ParsedAssignment) (limit d i j : ℕ) → SpellsPair e a limit d i j → Past a h.i j → SpellsPair e (new_text h) limit d i j
  pair_kept e limit d i j x p =
      let n : ℕ = length e.parts in
      let left : ℕ = (limit + 1) - d in
      let least = few e.value a limit (d + n) x.1 j x.5 in
      let v = value_complete e.value a limit (left - n) (d + n) x.1 j (omega arith) x.5 in
      let z = pair_on a limit left i j h.i e (new_text h) (pair_given e a limit left d i j x v) p same in
      let r = assignment_sound e (new_text h) limit (MaximalGap (new_text h)) (read.value (new_text h) limit left) i j z in
      (r.key_end, r.from, r.key, r.few, record { at = r.at; before = r.before; here = r.here; after = r.after }, value_sound left (new_text h) limit d n (omega arith) e.value r.from j r.given, r.extent)

  pub assignment_kept : (e : ParsedAssignment) (limit i j : ℕ) → AssignmentWith SpellsScalar e a limit i j → Past a h.i j → AssignmentWith SpellsScalar e (new_text h) limit i j
  assignment_kept e limit i j x p =
      let z = assignment_on a limit i j h.i e (new_text h) (assignment_complete e a limit i j x) p same in
      let r = assignment_sound e (new_text h) limit (MaximalRun is_blank (new_text h)) (read.value (new_text h) limit (limit + 1)) i j z in
      let depth : 0 + length e.parts ≡ length e.parts = omega arith in
      record {
        key_end = r.key_end;
        from = r.from;
        key = r.key;
        few = r.few;
        sign = record { at = r.at; before = r.before; here = r.here; after = r.after };
        spelled = rw depth at (value_sound (limit + 1) (new_text h) limit 0 (length e.parts) (omega arith) e.value r.from j r.given);
        extent = r.extent;
      }

  pub key_kept : (ps : List SimpleKey) (limit i j k : ℕ) → SpellsKey ps a i j → length ps ≤ limit → MaximalRun is_blank a j k → Past a h.i k → SpellsKey ps (new_text h) i j
  key_kept ps limit i j k x least r p = (key_sound false (new_text h) limit i j ps (key_on a limit i j k h.i ps (new_text h) (key_complete ps false a limit i j x least) r p same)).0

  pub key_kept_before : (ps : List SimpleKey) (limit i j k : ℕ) → SpellsKey ps a i j → length ps ≤ limit → MaximalGap a j k → Past a h.i k → SpellsKey ps (new_text h) i j
  key_kept_before ps limit i j k x least g p =
      let r = run_found is_blank a j (dotted_ascend ps a i j x).1 in
      key_kept ps limit i j (j + prefix_len is_blank (drop j a)) x least r (past_less (past_blanks a j (j + prefix_len is_blank (drop j a)) k r g) p)

  pub header_kept : (ps : List SimpleKey) (double : Bool) (limit i j : ℕ) → SpellsHeader ps double a limit i j → Past a h.i j → SpellsHeader ps double (new_text h) limit i j
  header_kept ps double limit i j x p =
      let on = header_forward ps double a limit i j x in
      header_sound (record { parts = ps; array = double; end = j }) (new_text h) limit i (test same (λ c. c) 91 i (omega (arith, p.here)) (header_byte ps double a limit i j x))
      (header_on a limit i h.i (record { parts = ps; array = double; end = j }) (new_text h) (header_complete ps double a limit i j x) p same)

  pub section_kept : (x : ParsedSection) (limit i j : ℕ) → SectionWith SpellsScalar x a limit i j → read.ends_lines a j ≡ true → i < j → Past a h.i j → SectionWith SpellsScalar x (new_text h) limit i j
  section_kept x limit i j z ends on p =
      section_sound x (new_text h) limit i j (test same (λ c. c) 91 i (omega (arith, p.here)) (header_byte x.header x.array a limit i z.end z.header)) (section_on a limit i j h.i x (new_text h) (section_complete x a limit i j z ends) p same)
