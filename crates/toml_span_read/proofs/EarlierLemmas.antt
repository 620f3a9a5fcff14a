-- Keys and the paths of earlier values.
use Rattle.toml_span_lex.proofs.Common.{arith, common_steps, nat_tests, ◌≡◌, ◌≤◌, ◌-◌, ℕ, suc, List, [], ◌∷◌, ◌++◌, length, Option, Some, None, option_map, option_map_or, Ok, Err, pointwise, bytes_eq, bytes_eq-Decides, refl}
use Rattle.std.specs.Bool.{Decides}
use Rattle.std.specs.Cmp.Lexicographic.{pointwise_decides}
use Rattle.std.specs.Option.{option_or}
use Rattle.toml_span_lex.specs.declared.span.Span.{Span}
use Rattle.toml_span_read.specs.Read as read
use Rattle.toml_span_read.specs.declared.fault.Fault.{Fault}
use Rattle.toml_span_read.specs.Data.{SimpleKey, ParsedAssignment, parsed_span, from_to}
use Rattle.toml_span_read.specs.declared.fault.FaultKind.TheVariants as kinds
use Rattle.toml_span_read.specs.Earlier.{part_names, crossed, value_at, crossing}

abbrev pub Path : Type 0
Path = List (List ℕ)

pub same_path : (a b : Path) → Decides (pointwise bytes_eq a b) (a ≡ b)
same_path a b = pointwise_decides bytes_eq-Decides a b

-- one more part before the last
pub crossed_more : (f : Path → Option Span) (p : SimpleKey) (ps : List SimpleKey) (last : SimpleKey)
    → crossed f (p ∷ (ps ++ (last ∷ []))) ≡ option_or (option_map (λ first. (p.span.start, first)) (f (p.name ∷ []))) (crossed (λ names. f (p.name ∷ names)) (ps ++ (last ∷ [])))
unfolding crossed
crossed_more f p [] last = refl
crossed_more f p (q ∷ ps) last = refl

-- a key is longer than each path that has a value by one part at most
pub crossed_none : (f : Path → Option Span) (parts : List SimpleKey) (n : ℕ) → ((names : Path) → length names ≤ n → f names ≡ None) → length parts ≤ suc n → crossed f parts ≡ None
unfolding crossed
crossed_none f [] n none short = refl
crossed_none f (p ∷ []) n none short = refl
crossed_none f (p ∷ q ∷ rest) n none short =
    rw (none (p.name ∷ []) (omega arith)) (crossed_none (λ names. f (p.name ∷ names)) (q ∷ rest) (n - 1) (λ names l. none (p.name ∷ names) (omega arith)) (omega arith))

-- no part before the last of a key that goes through no value leads to one
pub crossed_clear : (f : Path → Option Span) (outer : List SimpleKey) (p q : SimpleKey) (rest : List SimpleKey) → crossed f (outer ++ (p ∷ q ∷ rest)) ≡ None → f (part_names (outer ++ (p ∷ []))) ≡ None
unfolding crossed
crossed_clear f [] p q rest none = grind (arith, nat_tests, common_steps)
crossed_clear f (x ∷ []) p q rest none = crossed_clear (λ names. f (x.name ∷ names)) [] p q rest (grind (arith, nat_tests, common_steps))
crossed_clear f (x ∷ y ∷ outer) p q rest none = crossed_clear (λ names. f (x.name ∷ names)) (y ∷ outer) p q rest (grind (arith, nat_tests, common_steps))

pub clear_from : (earlier : List ParsedAssignment) (next : ParsedAssignment) → crossed (value_at earlier) next.parts ≡ None → crossing earlier next ≡ None
unfolding crossing
clear_from earlier next none = rw none

pub clear_to : (earlier : List ParsedAssignment) (next : ParsedAssignment) → crossing earlier next ≡ None → crossed (value_at earlier) next.parts ≡ None
unfolding crossing
clear_to earlier next none = grind (arith, nat_tests, common_steps)

-- a key that goes through a value, as this fault
pub fault_from : (earlier : List ParsedAssignment) (next : ParsedAssignment) (start : ℕ) (first : Span) (end : ℕ) → crossed (value_at earlier) next.parts ≡ Some (start, first) → end ≡ (parsed_span next.value).end
    → crossing earlier next ≡ Some (record { kind = kinds.DottedKeyInvalidType first; span = record { start = start; end = end } })
unfolding crossing
fault_from earlier next start first end met is = rw (met, is)

pub record Meets (earlier : List ParsedAssignment) (next : ParsedAssignment) (fault : Fault) : Type 0 where
  pub start : ℕ
  pub first : Span
  pub met : crossed (value_at earlier) next.parts ≡ Some (start, first)
  pub is : fault ≡ record { kind = kinds.DottedKeyInvalidType first; span = from_to start (parsed_span next.value).end }

pub fault_to : (earlier : List ParsedAssignment) (next : ParsedAssignment) (fault : Fault) → crossing earlier next ≡ Some fault → Meets earlier next fault
fault_to earlier next fault h = go (crossed (value_at earlier) next.parts) refl
  where
    go : (o : Option (ℕ × Span)) → crossed (value_at earlier) next.parts ≡ o → Meets earlier next fault
    go None is = let none = clear_from earlier next is in cc
    go (Some (start, first)) is = let some = fault_from earlier next start first _ is refl in record { start = start; first = first; met = is; is = cc }

-- ---- adding an assignment

pub added_clear : (es : List ParsedAssignment) (e : ParsedAssignment) → crossing es e ≡ None → read.added es e (Ok (es ++ (e ∷ [])))
added_clear es e clear = rw clear refl

pub added_fault : (es : List ParsedAssignment) (e : ParsedAssignment) (fault : Fault) → crossing es e ≡ Some fault → read.added es e (Err fault)
added_fault es e fault met = rw met refl

-- what is added comes after the others
pub is_added : (es fs : List ParsedAssignment) (e : ParsedAssignment) → read.added es e (Ok fs) → (crossing es e ≡ None) × (fs ≡ es ++ (e ∷ []))
is_added es fs e h = go (crossing es e) refl h
  where
    go : (o : Option Fault) → crossing es e ≡ o → Ok fs ≡ option_map_or (λ fault. Err fault) o (Ok (es ++ (e ∷ []))) → (crossing es e ≡ None) × (fs ≡ es ++ (e ∷ []))
    go None is k = (is, cc)
    go (Some fault) is k = cc
