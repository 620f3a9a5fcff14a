-- How lines, headers and sections are read, step by step.
use Rattle.toml_span_lex.proofs.Common.{common_steps, nat_tests, ◌≡◌, ℕ, ◌+◌, ◌<◌, ◌⊎◌, zero, suc, Bool, true, false, List, [], ◌∷◌, ◌++◌, length, map, get_or, arith, inl, inr, refl, ap, Ok, Err, Result, ◌==◌}
use Rattle.toml_span_lex.specs.declared.stop.Stop.{Stop}
use Rattle.toml_span_read.specs.declared.fault.Fault.{Fault}
use Rattle.toml_span_read.specs.declared.value.Assignment.{Assignment}
use Rattle.toml_span_read.specs.declared.section.Section.{Section}
use Rattle.toml_span_read.specs.Data.{ParsedAssignment, parsed_value, parsed_assignment, ParsedSection, parsed_section, last_end}
use Rattle.toml_span_read.specs.code.Faults.{MatchesReading}
use Rattle.toml_span_read.specs.code.Sections.{section_found}
use Rattle.toml_span_read.specs.Grammar.{OpensHeader}
use Rattle.toml_span_read.specs.Read as read
use Rattle.toml_span_read.specs.Read.{Reading, LoopStep, on, done, Loop, ends, stops as stops_there, goes_on, ValueEnd, Pairs, ParsedSections, HeaderEnd}
use Rattle.toml_span_read.proofs.FaultPlaces.{so_told}
use Rattle.toml_span_read.proofs.NumberLemmas.{same_byte}
use Rattle.toml_span_read.proofs.ValueRead.{map_end}

-- ---- assignments

pub end_is : (vs : List Assignment) (k n : ℕ) (a : Assignment) → k + 1 ≡ length vs → a ≡ get_or vs k a → (parsed_assignment a).extent.end ≡ last_end n (map parsed_assignment vs)
end_is [] k n a l e = absurd (omega (arith, l))
end_is (v ∷ []) zero n a l e = ap (λ z. (parsed_assignment z).extent.end) e
end_is (v ∷ []) (suc k) n a l e = absurd (omega (arith, l))
end_is (v ∷ w ∷ ws) zero n a l e = absurd (omega (arith, l))
end_is (v ∷ w ∷ ws) (suc k) n a l e = end_is (w ∷ ws) k (parsed_assignment v).extent.end a (omega (arith, l)) e

-- ---- lines

-- whatever is read after these assignments is read from the first line on
abbrev pub LinesFrom : List ℕ → ℕ → ℕ → List ParsedAssignment → ℕ → Type 0
LinesFrom text limit from es at = (r : Result Pairs Fault) → Loop (read.next_assignment text limit) (es, at) r → read.assignment_lines text limit from r

pub goes_further : (text : List ℕ) (i : ℕ) → i < length text → (get_or text i 0 == 91) ≡ false → read.ends_lines text i ≡ false
goes_further text i l other = grind (arith, nat_tests)

pub lines_stop : (text : List ℕ) (i : ℕ) → (i ≡ length text) ⊎ (get_or text i 0 ≡ 91) → read.ends_lines text i ≡ true
lines_stop text i h = grind (arith, nat_tests, common_steps)

-- ---- headers

-- the first of the brackets is missing
pub first_missing : (array : Bool) (e : Fault) (text : List ℕ) (k : ℕ) → read.bracket text k (Err e) → read.closing array text k (Err e)
first_missing array e text k h = grind (arith)

pub opened : (array : Bool) (text : List ℕ) (limit i m : ℕ) (r : Result HeaderEnd Fault) → OpensHeader array text i m → read.heading array text limit m r → read.header text limit i r
opened false text limit i m r (here, one, e) h = inr (one, rw e at h)
opened true text limit i m r (here, two, e) h = inl (same_byte _ _ two, rw e at h)

-- ---- the document

-- whatever is read after these sections completes the document
abbrev pub DocumentFrom : List ℕ → ℕ → List ParsedSection → ℕ → Type 0
DocumentFrom text limit bs at = (r : Result (List ParsedSection) Fault) → Loop (read.next_section text limit) (bs, at) r → read.document text limit r

pub document_begins : (text : List ℕ) (limit at : ℕ) (bs : List ParsedSection) → read.before_headers text limit (Ok (bs, at)) → DocumentFrom text limit bs at
unfolding read.document
document_begins text limit at bs h r more = inl ((bs, at), h, more)

not_at_end : (text : List ℕ) (i : ℕ) → i < length text → (i == length text) ≡ false
not_at_end text i l = grind (arith, nat_tests)

pub section_on : (text : List ℕ) (limit i j : ℕ) (bs : List ParsedSection) (b : ParsedSection) → DocumentFrom text limit bs i → i < length text → read.section text limit i (Ok (b, j)) → DocumentFrom text limit (bs ++ (b ∷ [])) j
section_on text limit i j bs b whole l h r more = whole r (goes_on (bs, i) (bs ++ (b ∷ []), j) r (inr (not_at_end text i l, inl ((b, j), h, refl))) more)

pub document_read : (text : List ℕ) (limit i : ℕ) (bs : List ParsedSection) → DocumentFrom text limit bs i → i ≡ length text → read.document text limit (Ok bs)
document_read text limit i bs whole e = whole (Ok bs) (ends (bs, i) bs (inl (same_byte i (length text) e, refl)))

pub document_refused : (text : List ℕ) (limit : ℕ) (e : Fault) → read.before_headers text limit (Err e) → read.document text limit (Err e)
unfolding read.document
document_refused text limit e h = inr (e, h, refl)

pub document_stops : {A : Type 0} (parsed_value : A → List ParsedSection) (stop : Stop Fault) (text : List ℕ) (limit i : ℕ) (bs : List ParsedSection) → DocumentFrom text limit bs i → i < length text → MatchesReading section_found (read.section text limit i) (Err stop)
    → MatchesReading parsed_value (read.document text limit) (Err stop)
document_stops parsed_value stop text limit i bs whole l h = so_told _ _ stop h (λ e g. whole (Err e) (stops_there (bs, i) e (inr (not_at_end text i l, inr (e, g, refl)))))

pub sections_end : (ss ts : List Section) (s : Section) → ts ≡ ss ++ (s ∷ []) → map parsed_section ts ≡ map parsed_section ss ++ (parsed_section s ∷ [])
sections_end ss ts s e = map_end parsed_section ss ts s e
