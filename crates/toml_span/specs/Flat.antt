-- The flat document: the place at each path.
use Rattle.std.specs.Prelude.{◌≡◌, ℕ, Bool, true, false, List, [], ◌∷◌, ◌++◌, Option, Some, None}
use Rattle.std.specs.Prelude.{option_map, filter}
use Rattle.std.specs.List.{find, slice_get}
use Rattle.std.specs.Option.{option_or}
use Rattle.toml_span_tree.specs.Path.{Path, shape_table, Place, place_at}
use Rattle.toml_span_tree.specs.Node.{Node}
use Rattle.toml_span.specs.Claims.{Claim, Claims, no_claims, claimed, scope}
use Rattle.toml_span_read.specs.Paths.{same_path}
use Rattle.toml_span.specs.declared.claims.ClaimKind.{ClaimKind}
use Rattle.toml_span.specs.declared.claims.ClaimKind.TheVariants.{Dotted, Assigned}

-- the claims of all scopes, in the order of the text
unfoldable pub all_claims : Claims → List Claim
all_claims no_claims = []
all_claims (claimed c cs) = c ∷ all_claims cs
all_claims (scope inner cs) = all_claims inner ++ all_claims cs

abbrev pub by_header : ClaimKind → Bool
by_header Dotted = false
by_header Assigned = false
by_header _ = true

-- The claim that determines the place at a path, out of all claims on the path: the claim of the first header that
-- reaches or passes through it or, if no header does, the first claim. If no claims clash, all claims on a path belong
-- to one scope.
abbrev pub deciding_claim : List Claim → Option Claim
deciding_claim cs = option_or (find (λ c. by_header c.info.kind) cs) (slice_get cs 0)

-- The place at each path of a document that is `size` bytes long: at the empty path the root, elsewhere the place of
-- the claim that determines it.
unfoldable pub flat : ℕ → Claims → Path → Option Place
flat size cs [] = Some (record { shape = shape_table; key_span = None; span = record { start = 0; end = size } })
flat size cs (s ∷ p) =
    option_map (λ c. c.place) (deciding_claim (filter (λ c. same_path c.path (s ∷ p)) (all_claims cs)))

-- The tree has the same place as `places` at each path, and nothing where `places` has nothing. `IsOrdered` says that
-- no name occurs twice in a table.
abbrev pub ShowsExactly : Node → (Path → Option Place) → Type 0
ShowsExactly n places = (p : Path) → place_at p n ≡ places p
