-- The parts of a dotted key follow each other.
use Rattle.toml_span_lex.proofs.Common.{common_steps, ◌≡◌, ℕ, ◌<◌, ◌≤◌, Bool, false, List, [], ◌∷◌, length, get_or, arith, inl, inr, refl, nat_tests}
use Rattle.toml_span_lex.specs.declared.span.Span.{Span}
use Rattle.toml_span_lex.specs.Strings.{IsString}
use Rattle.toml_span_lex.proofs.Copies.{content_fits}
use Rattle.toml_span_read.specs.Keys.{SpellsSimpleKey, Onward, SpellsKey}
use Rattle.toml_span_read.specs.Data.{SimpleKey}
use Rattle.toml_span_read.specs.Places.{Ascend}

-- the span is within i..j, which is within the text, and does not end before it starts
pub record Lies (text : List ℕ) (i j : ℕ) (s : Span) : Type 0 where
  pub begins : i ≤ s.start
  pub forward : s.start ≤ s.end
  pub ends : s.end ≤ j
  pub within : j ≤ length text

pub string_lies : (text v src : List ℕ) (i j : ℕ) (s : Span) (m : Bool) → IsString text i j s src v m → Lies text i j s × (m ≡ false → s.start < s.end)
string_lies text v src i j s m h =
    let f = content_fits (get_or text i 0) m text v h.from h.to j h.content_is in
    rw h.span_is (grind (arith, nat_tests, common_steps))

-- the span of a simple key is not empty
pub key_inside : (p : SimpleKey) (text : List ℕ) (i j : ℕ) → SpellsSimpleKey p text i j → Lies text i j p.span × (p.span.start < p.span.end)
key_inside p text i j (inl (run, e)) = rw e (record { begins = omega arith; forward = omega (arith, run.0); ends = omega arith; within = run.1.within }, omega (arith, run.0))
key_inside p text i j (inr (src, h)) = let l = string_lies text p.name src i j p.span false h in (l.0, l.1 refl)

onward_ascend : (ps : List SimpleKey) (text : List ℕ) (n m j : ℕ) → n ≤ m → m ≤ length text → Onward ps text m j → Ascend ps n j × (j ≤ length text)
onward_ascend [] text n m j on within h = grind arith
onward_ascend (p ∷ ps) text n m j on within (a, b, d, k, rest) = grind (arith, key_inside p text a b k, onward_ascend ps text p.span.end b j)

pub dotted_ascend : (ps : List SimpleKey) (text : List ℕ) (i j : ℕ) → SpellsKey ps text i j → Ascend ps i j × (j ≤ length text)
dotted_ascend [] text i j h = absurd h
dotted_ascend (p ∷ ps) text i j (m, k, rest) = grind (arith, key_inside p text i m k, onward_ascend ps text p.span.end m j)
