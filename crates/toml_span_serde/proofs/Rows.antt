-- One more step from a tree to the row of its pieces.
use Rattle.toml_span_lex.proofs.Common.{ℕ, ◌+◌, ◌<◌, ◌≡◌, refl, List, [], ◌∷◌, ◌++◌, drop, map, length, Bor, get_or, sym, ap, ◌∙◌, append_assoc, cow_str_bytes, arith, nat_tests, common_steps}
use Rattle.std.proofs.lemmas.List.{append-nil}
use Rattle.toml_span_lex.specs.declared.key.Key.{Key}
use Rattle.toml_span_tree.specs.declared.value.Value.{Value}
use Rattle.toml_span_tree.specs.Order.{entry_of}
use Rattle.toml_span_tree.specs.Value.{view, items_view}
use Rattle.toml_span_serde.specs.declared.pieces.Task.{Task}
use Rattle.toml_span_serde.specs.Pieces.{Piece, piece, pieces, key, items_pieces}
use Rattle.toml_span_serde.specs.Tasks.{piece_of, task_pieces, all_pieces}
use Rattle.toml_span_serde.specs.TextOrder.{in_text_order, items_in_order}
use Rattle.toml_span_serde.proofs.Entries.{entries_pieces}
use Rattle.toml_span_serde.specs.Ahead.{ahead}
use Rattle.toml_span_serde.specs.declared.reader.Reader.{Reader}

all_pieces-append : (ts us : List Task) → all_pieces (ts ++ us) ≡ all_pieces ts ++ all_pieces us
all_pieces-append [] us = refl
all_pieces-append (t ∷ ts) us = ap (λ ps. task_pieces t ++ ps) (all_pieces-append ts us) ∙ sym (append_assoc (task_pieces t) (all_pieces ts) (all_pieces us))

-- an entry by reference
abbrev Lent : Type 0
Lent = Bor Key × Bor Value

-- one more task
pub all_pieces-push : (ts us : List Task) (t : Task) → us ≡ ts ++ (t ∷ []) → all_pieces us ≡ all_pieces ts ++ task_pieces t
all_pieces-push ts us t e = ap all_pieces e ∙ all_pieces-append ts (t ∷ []) ∙ ap (λ ps. all_pieces ts ++ ps) (append-nil (task_pieces t))

-- the last task is carried out
pub carried_out : (ts us : List Task) (t : Task) (made after all : List Piece) → ts ≡ us ++ (t ∷ []) →
    after ≡ all_pieces us ++ (task_pieces t ++ made) → all_pieces ts ++ made ≡ all → after ≡ all
carried_out ts us t made after all last step before =
    step ∙ sym (append_assoc (all_pieces us) (task_pieces t) made) ∙ ap (λ ps. ps ++ made) (sym (all_pieces-push us ts t last)) ∙ before

-- the pieces of the elements, beginning at one
pub items_pieces-next : (i : ℕ) (es : List Value) (e : Value) (out after all : List Piece) →
    i < length es → get_or es i e ≡ e →
    out ++ items_pieces (items_in_order (items_view (drop i es))) ≡ all →
    after ≡ out ++ pieces (in_text_order (view e)) →
    after ++ items_pieces (items_in_order (items_view (drop (i + 1) es))) ≡ all
items_pieces-next i es e out after all below here before step = grind (arith, nat_tests, common_steps)

-- the pieces of the entries, beginning at one
pub entries_pieces-next : (i : ℕ) (es : List Lent) (e : Lent) (out mid after all : List Piece) →
    i < length es → get_or es i e ≡ e →
    out ++ entries_pieces (map entry_of (drop i es)) ≡ all →
    mid ≡ out ++ (piece (key (cow_str_bytes e.0.now.name)) e.0.now.span ∷ []) →
    after ≡ mid ++ pieces (in_text_order (view e.1.now)) →
    after ++ entries_pieces (map entry_of (drop (i + 1) es)) ≡ all
entries_pieces-next i es e out mid after all below here before first second = grind (arith, nat_tests, common_steps)

-- a reader that has only looked ahead
pub ahead-same : (old new : Reader) → new.next ≡ old.next → new.pieces ≡ old.pieces → ahead new ≡ ahead old
ahead-same old new next all = ap (λ n. map piece_of (drop n new.pieces.now)) next ∙ ap (λ ps. map piece_of (drop old.next ps.now)) all
