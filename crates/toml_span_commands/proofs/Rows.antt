-- What a caller reads of matches, by the rows that they have.
use Rattle.toml_span_lex.proofs.Common.{◌≡◌, ◌∙◌, ap, refl, ℕ, List, [], ◌∷◌, map, Option, sym, Bor, option_and_then, option_map, slice_get, find, unwrap_or, bytes_eq, arith, nat_tests, common_steps}
use Rattle.clap.specs.Facts.{Entry}
use Rattle.clap.specs.Matches.{first_value, found_of, matched_of, raw_values}
use Rattle.clap.specs.Walk.{Row, all_of, first_of, row_of, rows_of}
use Rattle.clap.specs.declared.parser.matches.ArgMatches.{ArgMatches}

find-row : (es : List Entry) (id : List ℕ) → find (λ r. bytes_eq r.id id) (map row_of es) ≡ option_map row_of (find (λ e. bytes_eq e.0.now id) es)
find-row [] id = refl
find-row (e ∷ es) id = grind (arith, nat_tests, common_steps, find-row es id)

head-text : (vs : List (Bor (List ℕ))) → option_map (λ v. v.now) (slice_get vs 0) ≡ slice_get (map (λ v. v.now) vs) 0
head-text [] = refl
head-text (v ∷ vs) = refl

first-of : (o : Option Entry) → option_and_then (λ a. option_map (λ s. s.now) (slice_get a.vals.items 0)) (option_map (λ e. e.1) o)
    ≡ option_and_then (λ r. slice_get r.values 0) (option_map row_of o)
first-of o = grind (arith, nat_tests, common_steps, head-text)

pub first-row : (m : ArgMatches) (id : List ℕ) → first_value (found_of m) id ≡ first_of id (rows_of (found_of m))
first-row m id = first-of (find (λ e. bytes_eq e.0.now id) (found_of m).entries.items) ∙ ap (option_and_then (λ r. slice_get r.values 0)) (sym (find-row (found_of m).entries.items id))

all-of : (o : Option Entry) → option_map raw_values (option_map (λ e. e.1) o) ≡ option_map (λ r. r.values) (option_map row_of o)
all-of o = grind (arith, nat_tests, common_steps)

pub all-row : (m : ArgMatches) (id : List ℕ) → option_map raw_values (matched_of (found_of m) id) ≡ all_of id (rows_of (found_of m))
all-row m id = all-of (find (λ e. bytes_eq e.0.now id) (found_of m).entries.items) ∙ ap (option_map (λ (r : Row). r.values)) (sym (find-row (found_of m).entries.items id))

-- a value that is read, or nothing
pub or-nothing : (o : Option (Bor (List ℕ))) (d : Bor (List ℕ)) → d.now ≡ [] → (unwrap_or o d).now ≡ unwrap_or (option_map (λ s. s.now) o) []
or-nothing o d e = grind (arith, nat_tests, common_steps)

pub or-none : (o : Option (Bor (List (Bor (List ℕ))))) (d : Bor (List (Bor (List ℕ)))) → d.now ≡ [] →
    map (λ v. v.now) (unwrap_or o d).now ≡ unwrap_or (option_map (λ s. map (λ v. v.now) s.now) o) []
or-none o d e = grind (arith, nat_tests, common_steps)
