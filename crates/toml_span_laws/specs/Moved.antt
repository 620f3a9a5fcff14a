-- A value that is read again from the text at its span: the same places at another path of another document, with their
-- spans moved.
use Rattle.std.specs.Prelude.{◌≡◌, ◌≢◌, ℕ, List, [], ◌∷◌, Option, codes, option_map}
use Rattle.toml_span_lex.specs.declared.span.Span.{Span}
use Rattle.toml_span_tree.specs.Node.{Scalar}
use Rattle.toml_span_tree.specs.Path.{Path, Place, key, shape_scalar}
use Rattle.toml_span_read.specs.Data.{ParsedSection}
use Rattle.toml_span_laws.specs.Again.{assigned_again, moved_span}
use Rattle.toml_span.specs.declared.claims.ClaimKind.TheVariants.{Assigned}
use Rattle.toml_span.specs.Claims.{Claim, claims}
use Rattle.toml_span.specs.Flat.{all_claims}
use Rattle.toml_span_laws.specs.Clashing.{IsIn}
use Rattle.toml_span_laws.specs.Document.{subtree}

-- the place with its spans moved by the distance between `from` and `to`
abbrev pub moved_place : ℕ → ℕ → Place → Place
moved_place from to x =
    record { shape = x.shape; key_span = option_map (moved_span from to) x.key_span; span = moved_span from to x.span }

-- At the path `other`, and below, `others` has exactly the places that `places` has at `path` and below, with all spans
-- moved, those of keys included.
abbrev pub HasMovedPlaces : ℕ → ℕ → (Path → Option Place) → Path → (Path → Option Place) → Path → Type 0
HasMovedPlaces from to places path others other =
    (p : Path) → subtree others other p ≡ option_map (moved_place from to) (subtree places path p)

-- The claim is made in these sections, and assigns an array in brackets or an inline table.
abbrev pub AssignsBrackets : List ParsedSection → Claim → Type 0
AssignsBrackets sections c =
    IsIn c (all_claims (claims sections)) × (c.info.kind ≡ Assigned) × ((s : Scalar) → c.place.shape ≢ shape_scalar s)

-- `x = `, and then the text at the span
abbrev pub text_again : List ℕ → Span → List ℕ
text_again text span = assigned_again text span.start span.end

-- the path of the only assignment in `text_again`
abbrev pub at_x : Path
at_x = key (codes "x") ∷ []
