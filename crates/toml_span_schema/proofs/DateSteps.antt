-- Dates and times as RFC 3339 writes them: a step, and the end.
use Rattle.std.proofs.Common.{◌≡◌, ℕ, ◌==◌, if◌then◌else◌, List, [], ◌∷◌, ◌++◌, ap, sym, ◌∙◌, append_assoc, append-nil}
use Rattle.std.specs.Prelude.{codes}
use Rattle.toml_span_schema.specs.Dates.{date_piece, next_place, rfc3339_from}

pub date_step : (place : ℕ) (out new : List ℕ) (c : ℕ) (seen : List ℕ) (after : ℕ)
    → ((rest : List ℕ) → out ++ rfc3339_from place rest ≡ rfc3339_from 0 (seen ++ rest))
    → new ≡ out ++ date_piece place c
    → after ≡ next_place place c
    → (rest : List ℕ) → new ++ rfc3339_from after rest ≡ rfc3339_from 0 ((seen ++ c ∷ []) ++ rest)
date_step place out new c seen after before e1 e2 rest =
    ap (λ x. x ++ rfc3339_from after rest) e1
    ∙ ap (λ a. (out ++ date_piece place c) ++ rfc3339_from a rest) e2
    ∙ append_assoc out (date_piece place c) (rfc3339_from (next_place place c) rest)
    ∙ before (c ∷ rest)
    ∙ ap (rfc3339_from 0) (sym (append_assoc seen (c ∷ []) rest))

pub date_end : (place : ℕ) (out new seen all : List ℕ)
    → ((rest : List ℕ) → out ++ rfc3339_from place rest ≡ rfc3339_from 0 (seen ++ rest))
    → new ≡ out ++ (if place == 3 then codes ":00" else [])
    → seen ≡ all
    → new ≡ rfc3339_from 0 all
date_end place out new seen all before e same =
    e ∙ before [] ∙ ap (rfc3339_from 0) (append-nil seen ∙ same)
