-- The part of a path below a directory.
use Rattle.std.proofs.Common.{◌≡◌, ◌≢◌, ℕ, List, [], ◌∷◌, Option, None, Some, Bor, ap, cond, inl, inr, option_map, refl, sym}
use Rattle.std.proofs.lemmas.Bool.{cases_eq, ne_eqb}
use Rattle.std.specs.Option.{MatchOption}
use Rattle.toml_span_config.specs.Sources.{after_slash}

none : (text : List ℕ) → ((rest : List ℕ) → text ≢ 47 ∷ rest) → None ≡ after_slash text
none [] differs = refl
none (x ∷ xs) differs =
    elim (cases_eq x 47) [
      | inl slash ↦ absurd (differs xs (ap (λ b. b ∷ xs) slash))
      | inr other ↦ sym (ap (λ t. cond t (Some xs) None) (ne_eqb x 47 other))
    ]

-- what `strip_prefix` returns for a slash
pub after : (text : List ℕ) (found : Option (Bor (List ℕ)))
    → MatchOption found ((rest : List ℕ) → text ≢ 47 ∷ rest) (λ x. text ≡ 47 ∷ x.now)
    → option_map (λ rest. rest.now) found ≡ after_slash text
after text (Some x) is = sym (ap after_slash is)
after text None differs = none text differs
