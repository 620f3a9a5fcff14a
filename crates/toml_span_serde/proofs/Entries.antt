-- The pieces of a table's entries in the order of the text.
use Rattle.toml_span_lex.proofs.Common.{◌≡◌, List, [], ◌∷◌, ◌++◌, map, refl, sym, ap, ◌∙◌, cow_str_bytes, arith, nat_tests, common_steps}
use Rattle.toml_span_tree.specs.Node.{Members}
use Rattle.toml_span_tree.specs.Value.{members_of, members_view, view}
use Rattle.toml_span_tree.proofs.Values.{Entry}
use Rattle.toml_span_serde.specs.Pieces.{Piece, piece, pieces, members_pieces}
use Rattle.toml_span_serde.specs.Pieces as row
use Rattle.toml_span_serde.specs.Tasks.{put_by, by_start}
use Rattle.toml_span_serde.specs.TextOrder.{put_entry, in_text_order, members_in_order}

abbrev pub entries_pieces : List Entry → List Piece
entries_pieces [] = []
entries_pieces (e ∷ es) = piece (row.key (cow_str_bytes e.0.name)) e.0.span ∷ (pieces (in_text_order (view e.1)) ++ entries_pieces es)

abbrev entries_in_order : List Entry → Members
entries_in_order es = members_of (map (λ e. (e.0, in_text_order (view e.1))) es)

pieces-of-entries : (es : List Entry) → members_pieces (entries_in_order es) ≡ entries_pieces es
pieces-of-entries [] = refl
pieces-of-entries (e ∷ es) = grind (arith, common_steps, pieces-of-entries es)

put-entries : (e : Entry) (es : List Entry) → entries_in_order (put_by (λ x. x.0.span.start) e es)
    ≡ put_entry (cow_str_bytes e.0.name) e.0.span (in_text_order (view e.1)) (entries_in_order es)
put-entries e [] = refl
put-entries e (x ∷ xs) = grind (arith, nat_tests, common_steps, put-entries e xs)

sorted-entries : (es : List Entry) → entries_in_order (by_start es) ≡ members_in_order (members_view es)
sorted-entries [] = refl
sorted-entries (e ∷ es) =
    put-entries e (by_start es)
    ∙ ap (put_entry (cow_str_bytes e.0.name) e.0.span (in_text_order (view e.1))) (sorted-entries es)

pub entries-pieces-is : (es : List Entry) → entries_pieces (by_start es) ≡ members_pieces (members_in_order (members_view es))
entries-pieces-is es = sym (pieces-of-entries (by_start es)) ∙ ap members_pieces (sorted-entries es)
