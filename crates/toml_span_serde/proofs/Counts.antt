-- The number of pieces of a value: by the depth after each, and by the tree.
use Rattle.toml_span_lex.proofs.Common.{◌≡◌, ℕ, zero, suc, ◌+◌, ◌<◌, List, [], ◌∷◌, ◌++◌, map, drop, length, get_or, Option, None, Some, refl, sym, ap, ◌∙◌, append_assoc, arith, drop_at, drop-drop, drop-map, nat_tests, common_steps}
use Rattle.std.proofs.lemmas.List.{length-append}
use Rattle.toml_span_lex.specs.declared.span.Span.{Span}
use Rattle.toml_span_tree.specs.Node.{Node, node, Inner, taken, scalar, array, table, Items, no_items, item, Members, no_members, member}
use Rattle.toml_span_serde.specs.Pieces.{Piece, piece, pieces, held_pieces, items_pieces, members_pieces, value, nothing, array_begins, array_ends, table_begins, table_ends, key}
use Rattle.toml_span_serde.specs.Tasks.{depth_after, piece_content, piece_of}
use Rattle.toml_span_serde.specs.declared.pieces.Piece.{Piece as Made}

abbrev pub unless_zero : {A : Type 0} → ℕ → A → A → A
unless_zero zero a b = a
unless_zero (suc n) a b = b

-- the number of pieces up to the first after which the depth is 0
abbrev pub counted : ℕ → ℕ → List Piece → Option ℕ
counted k d [] = None
counted k d (p ∷ ps) = unless_zero (depth_after p.content d) (Some (k + 1)) (counted (k + 1) (depth_after p.content d) ps)

-- one more piece
step : (p : Piece) (ps : List Piece) (k d e : ℕ) → depth_after p.content d ≡ e → 0 < e → counted k d (p ∷ ps) ≡ counted (k + 1) e ps
step p ps k d e is h = grind (arith, nat_tests, common_steps)

-- the last piece
last : (p : Piece) (ps : List Piece) (k d : ℕ) → depth_after p.content d ≡ 0 → counted k d (p ∷ ps) ≡ Some (k + 1)
last p ps k d is = ap (λ n. unless_zero n (Some (k + 1)) (counted (k + 1) n ps)) is

-- a row that leaves the depth unchanged: what follows it is counted from as many pieces further on
abbrev Passes : ℕ → List Piece → Type 0
Passes d ps = (k : ℕ) (rest : List Piece) → counted k d (ps ++ rest) ≡ counted (k + length ps) d rest

passes-none : (d : ℕ) → Passes d []
passes-none d = λ k rest. ap (λ n. counted n d rest) (omega arith)

passes-next : (d e : ℕ) (p : Piece) (ps : List Piece) → depth_after p.content d ≡ e → 0 < e → Passes e ps → (k : ℕ) (rest : List Piece) →
    counted k d ((p ∷ ps) ++ rest) ≡ counted (k + length (p ∷ ps)) e rest
passes-next d e p ps is h passes k rest = step p (ps ++ rest) k d e is h ∙ passes (k + 1) rest ∙ ap (λ n. counted n e rest) (omega arith)

passes-append : (d : ℕ) (ps qs : List Piece) → Passes d ps → Passes d qs → Passes d (ps ++ qs)
passes-append d ps qs first second = λ k rest.
    ap (counted k d) (append_assoc ps qs rest) ∙ first k (qs ++ rest) ∙ second (k + length ps) rest
    ∙ ap (λ n. counted n d rest) (omega (arith, length-append ps qs))

-- between two ends it is one deeper
passes-held : (d : ℕ) (ps : List Piece) (first end : Piece) → 0 < d → depth_after first.content d ≡ d + 1 → depth_after end.content (d + 1) ≡ d →
    Passes (d + 1) ps → Passes d (first ∷ (ps ++ (end ∷ [])))
passes-held d ps first end h up down passes = λ k rest.
    step first ((ps ++ (end ∷ [])) ++ rest) k d (d + 1) up (omega arith) ∙ ap (counted (k + 1) (d + 1)) (append_assoc ps (end ∷ []) rest)
    ∙ passes (k + 1) (end ∷ rest) ∙ step end rest (k + 1 + length ps) (d + 1) d down h
    ∙ ap (λ n. counted n d rest) (omega (arith, length-append ps (end ∷ [])))

mutual
  within-node : (n : Node) (d : ℕ) → 0 < d → Passes d (pieces n)
  within-node (node i span) d h = within-held i span d h

  within-held : (i : Inner) (span : Span) (d : ℕ) → 0 < d → Passes d (held_pieces span i)
  within-held taken span d h = passes-next d d (piece nothing span) [] refl h (passes-none d)
  within-held (scalar s) span d h = passes-next d d (piece (value s) span) [] refl h (passes-none d)
  within-held (array ns) span d h =
      passes-held d (items_pieces ns) (piece array_begins span) (piece array_ends span) h refl (omega arith) (within-items ns (d + 1) (omega arith))
  within-held (table ms) span d h =
      passes-held d (members_pieces ms) (piece table_begins span) (piece table_ends span) h refl (omega arith) (within-members ms (d + 1) (omega arith))

  within-items : (ns : Items) (d : ℕ) → 0 < d → Passes d (items_pieces ns)
  within-items no_items d h = passes-none d
  within-items (item n ns) d h = passes-append d (pieces n) (items_pieces ns) (within-node n d h) (within-items ns d h)

  within-members : (ms : Members) (d : ℕ) → 0 < d → Passes d (members_pieces ms)
  within-members no_members d h = passes-none d
  within-members (member name span n ms) d h =
      passes-next d d (piece (key name) span) _ refl h (passes-append d (pieces n) (members_pieces ms) (within-node n d h) (within-members ms d h))

-- a value
whole : (ps rest : List Piece) (first end : Piece) → depth_after first.content 0 ≡ 1 → depth_after end.content 1 ≡ 0 → Passes 1 ps →
    counted 0 0 ((first ∷ (ps ++ (end ∷ []))) ++ rest) ≡ Some (length (first ∷ (ps ++ (end ∷ []))))
whole ps rest first end up down passes =
    step first ((ps ++ (end ∷ [])) ++ rest) 0 0 1 up (omega arith) ∙ ap (counted 1 1) (append_assoc ps (end ∷ []) rest) ∙ passes 1 (end ∷ rest)
    ∙ last end rest (1 + length ps) 1 down ∙ ap Some (omega (arith, length-append ps (end ∷ [])))

pub counted-value : (n : Node) (rest : List Piece) → counted 0 0 (pieces n ++ rest) ≡ Some (length (pieces n))
counted-value (node taken span) rest = refl
counted-value (node (scalar s) span) rest = refl
counted-value (node (array ns) span) rest = whole (items_pieces ns) rest (piece array_begins span) (piece array_ends span) refl refl (within-items ns 1 (omega arith))
counted-value (node (table ms) span) rest = whole (members_pieces ms) rest (piece table_begins span) (piece table_ends span) refl refl (within-members ms 1 (omega arith))

-- ---- a loop over a row

-- the count ends here
pub ends-here : (i : ℕ) (ps : List Made) (p : Made) (k d : ℕ) (all : Option ℕ) → i < length ps → get_or ps i p ≡ p →
    depth_after (piece_content p.content) d ≡ 0 → counted k d (map piece_of (drop i ps)) ≡ all → Some (k + 1) ≡ all
ends-here i ps p k d all inside here is before = grind (arith, nat_tests, common_steps)

-- this many pieces are consumed
pub passed : (next count : ℕ) (ps : List Made) (xs rest : List Piece) → map piece_of (drop next ps) ≡ xs ++ rest → count ≡ length xs →
    map piece_of (drop (next + count) ps) ≡ rest
passed next count ps xs rest is long =
    ap (map piece_of) (sym (drop-drop count next ps)) ∙ sym (drop-map piece_of count (drop next ps))
    ∙ ap (drop count) is ∙ drop_at xs rest count (sym long)

-- a value has a piece
pub some-piece : (n : Node) (rest : List Piece) → pieces n ++ rest ≡ [] → ⊥
some-piece (node taken span) rest e = cc
some-piece (node (scalar s) span) rest e = cc
some-piece (node (array ns) span) rest e = cc
some-piece (node (table ms) span) rest e = cc

pub same-count : (a b : ℕ) → Some a ≡ Some b → a ≡ b
same-count a b e = cc
