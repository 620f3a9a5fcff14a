-- The order of claims and keys in the text.
use Rattle.std.specs.Prelude.{◌≡◌, ⊤, ℕ, ◌<◌, ◌⊎◌, List, [], ◌∷◌, Option, Some, option_and_then}
use Rattle.toml_span_lex.specs.declared.span.Span.{Span}
use Rattle.toml_span_tree.specs.Path.{Path, Place}
use Rattle.toml_span.specs.Claims.{Claim}
use Rattle.toml_span.specs.declared.claims.ClaimKind.TheVariants.{ArrayOfTables, TableElement}

-- the start of the key that makes the claim; for an element of an array in brackets, the start of the element
abbrev pub claim_start : Claim → ℕ
claim_start c = c.info.key.start

-- The second claim starts after the first; or the same key makes both claims: the first for an array of tables, the
-- second for an element.
abbrev pub Follows : Claim → Claim → Type 0
Follows c d =
    (claim_start c < claim_start d)
    ⊎ ((c.info.kind ≡ ArrayOfTables) × (d.info.kind ≡ TableElement) × (c.info.key ≡ d.info.key))

-- Each claim follows the one before it (`Follows`).
abbrev pub Ascends : List Claim → Type 0
Ascends [] = ⊤
Ascends (c ∷ []) = ⊤
Ascends (c ∷ d ∷ cs) = Follows c d × Ascends (d ∷ cs)

-- the span of the key at a path, if there is a key
abbrev pub key_at : (Path → Option Place) → Path → Option Span
key_at places p = option_and_then (λ x. x.key_span) (places p)

-- The keys at two different paths start at different offsets.
abbrev pub KeysApart : (Path → Option Place) → Type 0
KeysApart places =
    (p q : Path) (k l : Span) → key_at places p ≡ Some k → key_at places q ≡ Some l → k.start ≡ l.start → p ≡ q
