-- The span of the fault of a key that goes through an earlier value.
use Rattle.toml_span_lex.proofs.Common.{ℕ, ◌≡◌, ◌+◌, ◌-◌, ◌≤◌, List, [], ◌∷◌, length, arith, nat_tests, common_steps, Ok, Err, Option, Some}
use Rattle.toml_span_lex.specs.declared.span.Span.{Span}
use Rattle.std.specs.List.{AllByRecursion}
use Rattle.toml_span_lex.specs.declared.stop.Stop.{Stop}
use Rattle.toml_span_lex.specs.declared.stop.Stop.TheVariants as stops
use Rattle.toml_span_lex.specs.Bytes.{is_blank, MaximalRun}
use Rattle.toml_span_read.specs.declared.fault.Fault.{Fault}
use Rattle.toml_span_read.specs.declared.value.Assignment.{Assignment}
use Rattle.toml_span_read.specs.Data.{ParsedValue, parsed, ParsedAssignment, parsed_assignment, parsed_span, SimpleKey}
use Rattle.toml_span_read.specs.Earlier.{value_at, crossed, crossing}
use Rattle.toml_span_read.specs.Gaps.{MaximalGap}
use Rattle.toml_span_read.specs.Grammar.{Spells}
use Rattle.toml_span_read.specs.Places.{Ascend}
use Rattle.toml_span_read.specs.Read as read
use Rattle.toml_span_read.specs.Read.{Reading, ValueEnd}
use Rattle.toml_span_read.specs.code.Earlier.{AddsClear}
use Rattle.toml_span_read.specs.code.Faults.{IsPlacedStop}
use Rattle.toml_span_read.proofs.EarlierLemmas.{fault_to}
use Rattle.toml_span_read.proofs.KeyOrder.{dotted_ascend}
use Rattle.toml_span_read.proofs.InsideLemmas.{ascend_forward}
use Rattle.toml_span_read.proofs.ReadSound.{PartsSound, assignment_sound, value_sound}
use Rattle.toml_span_read.proofs.SpanLaws.{value_lies}

-- ---- the parts of a key

-- each part starts at n or before it
abbrev StartBefore : ℕ → List SimpleKey → Type 0
StartBefore n ps = AllByRecursion (λ p. p.span.start ≤ n) ps

ascend_before : (ps : List SimpleKey) (i j n : ℕ) → j ≤ n → Ascend ps i j → StartBefore n ps
ascend_before [] i j n l h = tt
ascend_before (p ∷ ps) i j n l (begins, some, rest) = (omega (arith, some, l, ascend_forward ps p.span.end j rest), ascend_before ps p.span.end j n l rest)

-- ---- crossing keys

-- the parts of the key start before x, and the value's span ends between x and j
abbrev pub IsSpanned : ParsedAssignment → ℕ → Type 0
IsSpanned e j = (x : ℕ) × StartBefore x e.parts × (x ≤ (parsed_span e.value).end) × ((parsed_span e.value).end ≤ j)

value_ends : (v : ParsedValue) (text : List ℕ) (limit d i j : ℕ) → Spells v text limit d i j → (i ≤ (parsed_span v).end) × ((parsed_span v).end ≤ j)
value_ends (parsed k span) text limit d i j h = let l = value_lies (parsed k span) text limit d i j h in (omega (arith, l.0.0, l.0.1), l.0.2)

-- an assignment or a pair that is read, if what may be skipped moves forward
pub parsed_assignment_spanned : (e : ParsedAssignment) (text : List ℕ) (limit d : ℕ) (skipped : ℕ → ℕ → Type 0) (value : ℕ → ℕ → Reading ValueEnd) (i j : ℕ) → ((a b : ℕ) → skipped a b → a ≤ b) → PartsSound text limit d value
    → read.keyval text limit skipped value i (Ok (e, j)) → IsSpanned e j
parsed_assignment_spanned e text limit d skipped value i j on sound h =
    let r = assignment_sound e text limit skipped value i j h in
    let v = value_ends e.value text limit (d + length e.parts) r.from j (sound (length e.parts) e.value r.from j r.given) in
    (r.from, ascend_before e.parts i r.key_end r.from (omega (arith, on r.key_end r.at r.before, on (r.at + 1) r.from r.after)) (dotted_ascend e.parts text i r.key_end r.key).0, v.0, v.1)

-- a pair below an inline table at depth d
pub pair_spanned : (e : ParsedAssignment) (text : List ℕ) (limit d i j : ℕ) → d ≤ limit → read.keyval text limit (MaximalGap text) (read.value text limit ((limit + 1) - (d + 1))) i (Ok (e, j)) → IsSpanned e j
pair_spanned e text limit d i j l h =
    parsed_assignment_spanned e text limit (d + 1) (MaximalGap text) (read.value text limit ((limit + 1) - (d + 1))) i j (λ a b g. g.forward) (λ n v a b g. value_sound ((limit + 1) - (d + 1)) text limit (d + 1) n (omega (arith, l)) v a b g) h

pub assignment_spanned : (e : ParsedAssignment) (text : List ℕ) (limit i j : ℕ) → read.keyval text limit (MaximalRun is_blank text) (read.value text limit (limit + 1)) i (Ok (e, j)) → IsSpanned e j
assignment_spanned e text limit i j h =
    parsed_assignment_spanned e text limit 0 (MaximalRun is_blank text) (read.value text limit (limit + 1)) i j (λ a b g. g.forward) (λ n v a b g. value_sound (limit + 1) text limit 0 n (omega arith) v a b g) h

crossed_before : (n : ℕ) (f : List (List ℕ) → Option Span) (parts : List SimpleKey) (start : ℕ) (first : Span) → crossed f parts ≡ Some (start, first) → StartBefore n parts → start ≤ n
unfolding crossed
crossed_before n f [] start first met h = cc
crossed_before n f (p ∷ []) start first met h = cc
crossed_before n f (p ∷ q ∷ rest) start first met h = grind (arith, nat_tests, common_steps, crossed_before n (λ names. f (p.name ∷ names)) (q ∷ rest) start first)

crossing_within : (earlier : List ParsedAssignment) (next : ParsedAssignment) (fault : Fault) (j : ℕ) → IsSpanned next j → crossing earlier next ≡ Some fault → (fault.span.start ≤ fault.span.end) × (fault.span.end ≤ j)
crossing_within earlier next fault j h met =
    let m = fault_to earlier next fault met in
    let before = crossed_before h.0 (value_at earlier) next.parts m.start m.first m.met h.1 in
    rw m.is (omega arith, h.3)

pub crossing_placed : (stop : Stop Fault) (text : List ℕ) (old new : List Assignment) (next : Assignment) (j : ℕ) → j ≤ length text → IsSpanned (parsed_assignment next) j → AddsClear old new next (Err stop) → IsPlacedStop text stop
crossing_placed (stops.Memory e) text old new next j w h c = tt
crossing_placed (stops.Fault fault) text old new next j w h c =
    let (forward, within) = crossing_within _ (parsed_assignment next) fault j h c in
    record { within = omega (arith, w); forward = forward }
