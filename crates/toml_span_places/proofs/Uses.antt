-- What TOML 1.0 lacks in a string, in a gap and in pairs, one byte or pair at a time.
use Rattle.toml_span_lex.proofs.Common.{◌≡◌, ◌≤◌, ◌<◌, ◌∙◌, ℕ, suc, ◌+◌, ◌-◌, Bool, true, false, List, [], ◌∷◌, ◌++◌, ap, refl, sym, map, drop, drop_all, drop_more, length, get_or, Option, None, arith, nat_tests, common_steps}
use Rattle.toml_span_lex.specs.declared.key.Key.{Key}
use Rattle.toml_span_read.specs.Data.{SimpleKey, parsed_assignment, pairs_onto, no_pairs}
use Rattle.toml_span_read.specs.declared.value.Assignment.{Assignment}
use Rattle.toml_span_places.specs.Keys.{with_quotes}
use Rattle.toml_span_places.specs.Newer.{begins_escape, byte_forms, ends_gap, escape, escapes, gap_after, gap_after_pair, gap_forms}
use Rattle.toml_span_places.specs.Newer.{gap_from, keys_end, next_comment, pair_forms, pairs_forms}
use Rattle.toml_span_places.specs.declared.newer.Gap.{Gap}
use Rattle.toml_span_places.specs.declared.newer.Gap.TheVariants.{BeforePair, AfterLast}
use Rattle.toml_span_places.specs.declared.newer.NewerForm.{NewerForm}

-- ---- bytes

one_left : (at end : ℕ) → at < end → end - at ≡ suc (end - (at + 1))
one_left at end below = omega arith

none_left : (at end : ℕ) → end ≤ at → end - at ≡ 0
none_left at end past = omega arith

escapes_more : (text : List ℕ) (e : Bool) (at end : ℕ) → at < end →
    escapes text e at (end - at) ≡ escape text e at ++ escapes text (begins_escape text e at) (at + 1) (end - (at + 1))
escapes_more text e at end below = ap (escapes text e at) (one_left at end below)

pub escapes_next : (text : List ℕ) (e : Bool) (at end : ℕ) (before now all : List NewerForm) → at < end →
    now ≡ before ++ escape text e at → before ++ escapes text e at (end - at) ≡ all →
    now ++ escapes text (begins_escape text e at) (at + 1) (end - (at + 1)) ≡ all
escapes_next text e at end before now all below more was = grind (arith, nat_tests, common_steps, escapes_more text e at end below)

pub escapes_end : (text : List ℕ) (e : Bool) (at end : ℕ) → end ≤ at → escapes text e at (end - at) ≡ []
escapes_end text e at end past = ap (escapes text e at) (none_left at end past)

gap_more : (text : List ℕ) (gap : Gap) (comment : Option ℕ) (at end : ℕ) → at < end → ends_gap text comment at ≡ false →
    gap_from text gap comment at (end - at) ≡ byte_forms text gap comment at ++ gap_from text gap (next_comment text comment at) (at + 1) (end - (at + 1))
gap_more text gap comment at end below on = ap (gap_from text gap comment at) (one_left at end below) ∙ rw on refl

pub gap_next : (text : List ℕ) (gap : Gap) (comment : Option ℕ) (at end : ℕ) (before now all : List NewerForm) → at < end →
    ends_gap text comment at ≡ false → now ≡ before ++ byte_forms text gap comment at →
    before ++ gap_from text gap comment at (end - at) ≡ all →
    now ++ gap_from text gap (next_comment text comment at) (at + 1) (end - (at + 1)) ≡ all
gap_next text gap comment at end before now all below on more was =
    grind (arith, nat_tests, common_steps, gap_more text gap comment at end below on)

pub gap_stop : (text : List ℕ) (gap : Gap) (comment : Option ℕ) (at end : ℕ) → at < end → ends_gap text comment at ≡ true →
    gap_from text gap comment at (end - at) ≡ []
gap_stop text gap comment at end below stops = ap (gap_from text gap comment at) (one_left at end below) ∙ rw stops refl

pub gap_end : (text : List ℕ) (gap : Gap) (comment : Option ℕ) (at end : ℕ) → end ≤ at → gap_from text gap comment at (end - at) ≡ []
gap_end text gap comment at end past = ap (gap_from text gap comment at) (none_left at end past)

pub gap_past : (text : List ℕ) (gap : Gap) (from : ℕ) → length text ≤ from → gap_forms text gap from ≡ []
gap_past text gap from past = gap_end text gap None from (length text) past

-- ---- keys and pairs

pub keys_end_last : (text : List ℕ) (end : ℕ) (keys : List SimpleKey) (last : SimpleKey) →
    keys_end text end (keys ++ (last ∷ [])) ≡ (with_quotes text last.span).end
keys_end_last text end [] last = refl
keys_end_last text end (key ∷ keys) last = keys_end_last text (with_quotes text key.span).end keys last

abbrev pub assigned_forms : List ℕ → List Assignment → List NewerForm
assigned_forms text es = pairs_forms text (pairs_onto (map parsed_assignment es) no_pairs)

after_last : (i : ℕ) (es : List Assignment) → i + 1 ≡ length es → gap_after_pair (pairs_onto (map parsed_assignment (drop (i + 1) es)) no_pairs) ≡ AfterLast
after_last i es is = ap (λ rest. gap_after_pair (pairs_onto (map parsed_assignment rest) no_pairs)) (drop_all (i + 1) es (omega arith))

before_pair : (i : ℕ) (es : List Assignment) (e : Assignment) → i + 1 < length es →
    gap_after_pair (pairs_onto (map parsed_assignment (drop (i + 1) es)) no_pairs) ≡ BeforePair
before_pair i es e below = ap (λ rest. gap_after_pair (pairs_onto (map parsed_assignment rest) no_pairs)) (drop_more es (i + 1) e below)

gap_is : (i : ℕ) (es : List Assignment) (e : Assignment) → i < length es →
    gap_after_pair (pairs_onto (map parsed_assignment (drop (i + 1) es)) no_pairs) ≡ gap_after i (length es)
gap_is i es e below = grind (arith, nat_tests, common_steps, after_last i es, before_pair i es e)

pairs_more : (text : List ℕ) (i : ℕ) (es : List Assignment) (e : Assignment) → i < length es → get_or es i e ≡ e →
    assigned_forms text (drop i es) ≡ pair_forms text (parsed_assignment e) (gap_after i (length es)) ++ assigned_forms text (drop (i + 1) es)
pairs_more text i es e below here =
    ap (assigned_forms text) (drop_more es i e below ∙ ap (λ x. x ∷ drop (i + 1) es) here)
    ∙ ap (λ gap. pair_forms text (parsed_assignment e) gap ++ assigned_forms text (drop (i + 1) es)) (gap_is i es e below)

pub pairs_next : (text : List ℕ) (i : ℕ) (es : List Assignment) (e : Assignment) (before now all : List NewerForm) → i < length es → get_or es i e ≡ e →
    now ≡ before ++ pair_forms text (parsed_assignment e) (gap_after i (length es)) → before ++ assigned_forms text (drop i es) ≡ all →
    now ++ assigned_forms text (drop (i + 1) es) ≡ all
pairs_next text i es e before now all below here more was = grind (arith, nat_tests, common_steps, pairs_more text i es e below here)
