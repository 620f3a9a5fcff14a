-- Texts that are documents, the places that pointers name, and the values that show these places.
use Rattle.std.specs.Prelude.{◌≡◌, ℕ, List, [], ◌∷◌, ◌++◌, length, Option, Some, None, Ok, option_map}
use Rattle.toml_span_tree.specs.Path.{Path, Place}
use Rattle.toml_span_tree.specs.Pointer.{pointer_segments, NamesPath}
use Rattle.toml_span_tree.specs.Node.{Node}
use Rattle.toml_span_read.specs.Data.{ParsedSection, depth_limit}
use Rattle.toml_span_read.specs.Read.{document}
use Rattle.toml_span.specs.Claims.{claims}
use Rattle.toml_span.specs.Clashes.{Resolves}
use Rattle.toml_span.specs.Flat.{flat, ShowsExactly}
use Rattle.toml_span.specs.Ordered.{IsOrdered}

-- The text is read within `depth_limit` as sections that do not clash, and P holds for their flat document.
abbrev pub IsDocument : List ℕ → ((Path → Option Place) → Type 0) → Type 0
IsDocument text P =
    (sections : List ParsedSection) × document text depth_limit (Ok sections) × Resolves (claims sections)
    × P (flat (length text) (claims sections))

-- There is a path whose steps the pointer's segments name, and a place there for which P holds.
abbrev pub HasPlaceAt : List ℕ → (Path → Option Place) → (Place → Type 0) → Type 0
HasPlaceAt pointer places P =
    (names : List (List ℕ)) × (path : Path) × (place : Place) × (pointer_segments pointer ≡ Some names)
    × NamesPath names path × (places path ≡ Some place) × P place

-- ---- the part of a flat document below a path, and the value that shows it

-- the place without the span of its key: a value alone has no key
abbrev pub without_key : Place → Place
without_key x = record { shape = x.shape; key_span = None; span = x.span }

-- The places at `path` and below, as a function of the path that leads to them from there. The first one, at `path`
-- itself, is without the span of its key.
abbrev pub subtree : (Path → Option Place) → Path → Path → Option Place
subtree places path [] = option_map without_key (places path)
subtree places path (s ∷ p) = places (path ++ (s ∷ p))

-- The value shows exactly these places, and the names in its tables ascend. There is at most one such value.
abbrev pub IsValueOf : (Path → Option Place) → Node → Type 0
IsValueOf places n = IsOrdered n × ShowsExactly n places

-- The pointer's segments name the steps of a path, and n is the value that shows the places at that path and below.
abbrev pub PointsAt : List ℕ → (Path → Option Place) → Node → Type 0
PointsAt pointer places n =
    (names : List (List ℕ)) × (path : Path) × (pointer_segments pointer ≡ Some names) × NamesPath names path
    × IsValueOf (subtree places path) n
