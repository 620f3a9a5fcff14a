-- The spellings of a key and a value, with an equals sign between them, are a document of one assignment.
use Rattle.toml_span_lex.proofs.Common.{◌≡◌, ℕ, ◌+◌, ◌<◌, ◌≤◌, true, false, List, [], ◌∷◌, ◌++◌, length, get_or, None, drop, arith, inr, sym, ◌∙◌, refl, ap, subst, append-nil, append_assoc, length-append, codes, ◌==◌, ◌||◌, or_parts, drop_more, get_or_past, encode_ascii, len_utf8_ascii, nat_tests, common_steps}
use Rattle.toml_span_lex.specs.Bytes.{is_blank}
use Rattle.toml_span_lex.specs.Text.{FirstPlace}
use Rattle.toml_span_tree.specs.Node.{Node, node}
use Rattle.toml_span_tree.specs.Value.{is_whole}
use Rattle.toml_span_read.specs.Data.{ParsedValue, ParsedAssignment, from_to, headerless_section, SimpleKey}
use Rattle.toml_span_read.specs.Earlier.{crossed, crossing}
use Rattle.toml_span_read.specs.Gaps.{begins_gap, MaximalGap, Tail}
use Rattle.toml_span_read.specs.Grammar.{Spells, SpellsDocument, AssignmentWith, SpellsScalar}
use Rattle.toml_span_read.specs.Keys.{SpellsSimpleKey}
use Rattle.toml_span_read.specs.Again.{ReadsAsKey, ReadsAsValue, HasFloatTexts, IsWithin}
use Rattle.toml_span_read.proofs.EarlierLemmas.{clear_from}
use Rattle.toml_span_read.proofs.Parts.{Part, same_part, back, tail, here, whole}
use Rattle.toml_span_read.proofs.GapStarts.{no_gap, key_starts, value_starts, nothing, blank_run}
use Rattle.toml_span_laws.specs.Again.{SpellsAssignment}

-- the first byte of a key
pub key_byte : (s : SimpleKey) (text : List ℕ) (i j : ℕ) → SpellsSimpleKey s text i j → (i < length text) × (get_or text i 0 < 128)
key_byte s text i j h = grind (arith, nat_tests, common_steps)

-- there is no byte order mark
first_place : (s : SimpleKey) (text : List ℕ) (j : ℕ) → SpellsSimpleKey s text 0 j → FirstPlace text 0
first_place s text j key =
    let b = key_byte s text 0 j key in
    let g = key_starts s text 0 j key in
    let c = get_or text 0 0 in
    let width = len_utf8_ascii c b.1 in
    let bytes : text ≡ c ∷ drop 1 text = drop_more text 0 0 b.0 in
    inr (refl, inr (c, 1, inr (rw g.1 refl, omega arith, (rw (encode_ascii c b.1) bytes)), λ e. omega arith))

pub no_blank : (text : List ℕ) (i : ℕ) → begins_gap text i ≡ false → is_blank (get_or text i 0) ≡ false
no_blank text i h = (or_parts (is_blank (get_or text i 0)) (get_or text i 0 == 10) (or_parts (is_blank (get_or text i 0) || get_or text i 0 == 10) _ (or_parts _ (get_or text i 0 == 35) h).0).0).0

-- the assignment
abbrev pub pair : (text : List ℕ) (s : SimpleKey) (v : ParsedValue) → ParsedAssignment
pair text s v = record { parts = s ∷ []; value = v; extent = from_to 0 (length text) }

pub assigned : (key value : List ℕ) (s : SimpleKey) (v : ParsedValue) (limit a b : ℕ) → b ≡ ((a + 1) + 1) + 1 → a ≡ 0 + length key → 1 ≤ limit → (text : List ℕ) → text ≡ key ++ (codes " = " ++ value)
    → SpellsSimpleKey s text 0 a → Spells v text limit 1 b (length text) → AssignmentWith SpellsScalar (pair text s v) text limit 0 (length text)
assigned key value s v limit a b at is few text e k h =
    let q = back key (32 ∷ 61 ∷ 32 ∷ value) (same_part (key ++ (32 ∷ 61 ∷ 32 ∷ value)) e (whole text)) in
    let r : Part text (32 ∷ 61 ∷ 32 ∷ value) [] a (length text) = rw (sym is) at q in
    let r1 = tail 32 (61 ∷ 32 ∷ value) r in
    let space = here 32 (61 ∷ 32 ∷ value) r in
    let sign = here 61 (32 ∷ value) r1 in
    let last = here 32 value (tail 61 (32 ∷ value) r1) in
    let on = r.on in
    let starts : begins_gap text (((a + 1) + 1) + 1) ≡ false = rw at at (value_starts v text limit 1 b (length text) h) in
    record {
      key_end = a;
      from = b;
      key = (a, k, (refl, record { at = a + 1; before = blank_run text a space (omega arith) (rw sign refl); here = rw sign refl }));
      few = few;
      sign = record {
        at = a + 1;
        before = blank_run text a space (omega arith) (rw sign refl);
        here = sign;
        after = rw at (blank_run text ((a + 1) + 1) last (omega arith) (no_blank text (((a + 1) + 1) + 1) starts));
      };
      spelled = h;
      extent = refl;
    }

-- ---- the document

no_more : (b : List ℕ) (l : ℕ) → l ≡ length b → Tail b l l × MaximalGap b l l
no_more b l e =
    let past : get_or b l 0 ≡ 0 = get_or_past b l 0 (omega arith) in
    ((l, grind (arith, nat_tests, common_steps), inr (e, refl)), record { ends = []; pieces = refl; forward = omega arith; stops = rw past refl })

-- the first key goes through no value
first_clear : (s : SimpleKey) (v : ParsedValue) (text : List ℕ) → crossing [] (pair text s v) ≡ None
unfolding crossed
first_clear s v text = clear_from [] _ refl

pub document : (s : SimpleKey) (v : ParsedValue) (text : List ℕ) (limit a : ℕ) → SpellsSimpleKey s text 0 a → AssignmentWith SpellsScalar (pair text s v) text limit 0 (length text) → SpellsDocument (headerless_section (pair text s v ∷ [])) text limit
document s v text limit a k line =
    let more = no_more text (length text) refl in
    record {
      start = 0;
      end = length text;
      first = pair text s v ∷ [];
      rest = [];
      begins = first_place s text a k;
      lines = (0, nothing text 0 (no_gap text 0 (key_starts s text 0 a k)), (length text, length text, length text, line, more.0, first_clear s v text, more.1, refl));
      sections = refl;
      all = refl;
    }

moved_to : (v : ParsedValue) (limit b : ℕ) (t u : List ℕ) (j k : ℕ) → t ≡ u → j ≡ k → Spells v t limit 1 b j → Spells v u limit 1 b k
moved_to v limit b t u j k e f h = subst (λ (x : List ℕ). Spells v x limit 1 b k) e (subst (λ (m : ℕ). Spells v t limit 1 b m) f h)

least : (n : Node) (limit d : ℕ) → IsWithin limit d n → d ≤ limit
least (node k at) limit d h = h.0

pub line_spelled : (limit : ℕ) (name key : List ℕ) (n : Node) (value : List ℕ) → ReadsAsKey name key → ReadsAsValue n value → is_whole n ≡ true → IsWithin limit 1 n → HasFloatTexts n → SpellsAssignment name n (key ++ (codes " = " ++ value)) limit
line_spelled limit name key n value hk hv full within floats =
    let text = key ++ (codes " = " ++ value) in
    let (span, k) = hk [] (codes " = " ++ value) refl in
    let s : SimpleKey = record { name = name; span = span } in
    let (v, h, same) = hv limit 1 full within floats (key ++ codes " = ") [] refl in
    let three : length (codes " = ") ≡ 3 = refl in
    let n1 = length-append key (codes " = ") in
    let n2 = length-append key (codes " = " ++ value) in
    let n3 = length-append (codes " = ") value in
    let e : (key ++ codes " = ") ++ (value ++ []) ≡ text = ap (λ (l : List ℕ). (key ++ codes " = ") ++ l) (append-nil value) ∙ append_assoc key (codes " = ") value in
    let end : length (key ++ codes " = ") + length value ≡ length text = omega arith in
    let spells = moved_to v limit (length (key ++ codes " = ")) _ text _ (length text) e end h in
    let line = assigned key value s v limit (0 + length key) (length (key ++ codes " = ")) (omega arith) refl (least n limit 1 within) text refl k spells in
    (pair text s v, document s v text limit (0 + length key) k line, refl, same)
