-- The place of each piece of a tree's row: by the walk over the row, and by the tree.
use Rattle.toml_span_lex.proofs.Common.{◌≡◌, ℕ, zero, suc, ◌+◌, ◌<◌, List, [], ◌∷◌, ◌++◌, map, take, reverse, length, get_or, Some, slice_get, refl, arith, reverse-append, nat_tests, common_steps}
use Rattle.toml_span_lex.specs.declared.span.Span.{Span}
use Rattle.toml_span_tree.specs.Node.{Node, node, Inner, taken, scalar, array, table, Items, no_items, item, Members, no_members, member}
use Rattle.toml_span_tree.specs.Path.{Step, key, position, Path}
use Rattle.toml_span_serde.specs.Pieces.{Piece, pieces, held_pieces, items_pieces, members_pieces}
use Rattle.toml_span_serde.specs.Stops.{spots, held_spots, items_spots, members_spots}
use Rattle.toml_span_serde.specs.Tasks.{piece_content, piece_of}
use Rattle.toml_span_serde.specs.Walk.{Way, after, walked, way_at}
use Rattle.toml_span_serde.specs.declared.pieces.Piece.{Piece as Made}
use Rattle.toml_span_serde.proofs.Ways.{walked-node, walked-items, walked-members}

-- along a walk
abbrev spots_on : Way → List Piece → List (Path × Span)
spots_on way [] = []
spots_on way (p ∷ ps) = (reverse (way_at p.content way), p.span) ∷ spots_on (after p.content way) ps

spots_on-append : (xs ys : List Piece) (way : Way) → spots_on way (xs ++ ys) ≡ spots_on way xs ++ spots_on (walked xs way) ys
spots_on-append [] ys way = refl
spots_on-append (x ∷ xs) ys way = grind (arith, nat_tests, common_steps, spots_on-append xs ys (after x.content way))

one-more : (s : Step) (way : Way) → reverse (s ∷ way) ≡ reverse way ++ (s ∷ [])
one-more s way = reverse-append (s ∷ []) way

-- a value one step down, and what follows it
on-next : (s : Step) (n : Node) (way : Way) (ps : List Piece) → spots_on (s ∷ way) (pieces n) ≡ spots (reverse (s ∷ way)) n →
    spots_on (s ∷ way) (pieces n ++ ps) ≡ spots (reverse way ++ (s ∷ [])) n ++ spots_on (walked (pieces n) (s ∷ way)) ps
on-next s n way ps there = grind (arith, nat_tests, common_steps, one-more, spots_on-append)

mutual
  on-node : (n : Node) (way : Way) → spots_on way (pieces n) ≡ spots (reverse way) n
  on-node (node i span) way = on-held i span way

  on-held : (i : Inner) (span : Span) (way : Way) → spots_on way (held_pieces span i) ≡ held_spots (reverse way) span i
  on-held taken span way = refl
  on-held (scalar s) span way = refl
  on-held (array ns) span way = grind (arith, nat_tests, common_steps, on-items ns 0 way, spots_on-append, walked-items)
  on-held (table ms) span way = grind (arith, nat_tests, common_steps, on-members ms way, spots_on-append, walked-members)

  on-items : (ns : Items) (i : ℕ) (way : Way) → spots_on (position i ∷ way) (items_pieces ns) ≡ items_spots (reverse way) i ns
  on-items no_items i way = refl
  on-items (item n ns) i way = grind (arith, nat_tests, common_steps, on-items ns (i + 1) way, on-node n (position i ∷ way), on-next, walked-node)

  on-members : (ms : Members) (way : Way) → spots_on way (members_pieces ms) ≡ members_spots (reverse way) ms
  on-members no_members way = refl
  on-members (member name span n ms) way = grind (arith, nat_tests, common_steps, on-members ms way, on-node n (key name ∷ way), on-next, one-more, walked-node)

spot-at : (k : ℕ) (ps : List Made) (p : Made) (way : Way) → k < length ps → get_or ps k p ≡ p →
    slice_get (spots_on way (map piece_of ps)) k
    ≡ Some (reverse (way_at (piece_content p.content) (walked (map piece_of (take k ps)) way)), p.span)
spot-at k [] p way inside is = absurd (omega (arith, inside))
spot-at zero (q ∷ ps) p way inside is = grind (arith, nat_tests, common_steps)
spot-at (suc k) (q ∷ ps) p way inside is = spot-at k ps p (after (piece_content q.content) way) (omega arith) is

-- the place of each piece of a tree's row is where the walk to it leads
pub spot : (root : Node) (k : ℕ) (ps : List Made) (p : Made) → map piece_of ps ≡ pieces root → k < length ps → get_or ps k p ≡ p →
    slice_get (spots [] root) k
    ≡ Some (reverse (way_at (piece_content p.content) (walked (map piece_of (take k ps)) [])), p.span)
spot root k ps p is inside here = grind (arith, nat_tests, common_steps, on-node, spot-at)
