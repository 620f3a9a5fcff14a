-- One more entry of a table that is read as a map.
use Rattle.toml_span_lex.proofs.Common.{common_steps, arith, ◌≡◌, ℕ, List, [], ◌∷◌, ◌++◌, map, Result, Ok, Err, String, Global, string_bytes, string_cmp, refl, ap, sym, ◌∙◌, insert_entry, cow_str_bytes}
use Rattle.toml_span_tree.specs.Error.{ErrorContent}
use Rattle.toml_span_tree.specs.Node.{Node}
use Rattle.toml_span_tree.specs.Value.{members_view, view}
use Rattle.toml_span_tree.proofs.Values.{Entry}
use Rattle.toml_span_typed.proofs.Arrays.{errors_push}
use Rattle.toml_span_tree.specs.Errors.{Errors}
use Rattle.toml_span_typed.specs.code.Maps.{AddsEntry}
use Rattle.toml_span_typed.specs.Maps.{EntriesRead, holding, holding_read, names_of, shown_pair, values_of}
use Rattle.toml_span_typed.specs.Reads.{EachReads, errors}

-- an element that is put into a map
pub shown_insert : {T : Type 0} (es : List (String Global × T)) (k : String Global) (x : T) → map shown_pair (insert_entry string_cmp es k x) ≡ holding (map shown_pair es) (string_bytes k) x
shown_insert [] k x = refl
shown_insert (e ∷ es) k x = let rest = shown_insert es k x in grind (arith, common_steps)

module _ {T : Type 0} (reads : Node → Result T Errors → Node → Type 0) where
  each_more : (es : List Entry) (e : Entry) (answers : List (Result T Errors)) (a : Result T Errors)
      → EachReads reads (values_of (members_view es)) answers → (w : Node) × reads (view e.1) a w → EachReads reads (values_of (members_view (es ++ e ∷ []))) (answers ++ a ∷ [])
  each_more [] e [] a h one = (one, tt)
  each_more (d ∷ es) e (b ∷ bs) a h one = (h.0, each_more es e bs a h.1 one)
  each_more [] e (b ∷ bs) a h one = elim h [ ]
  each_more (d ∷ es) e [] a h one = elim h [ ]

  holding-more : (es : List Entry) (e : Entry) (answers : List (Result T Errors)) (a : Result T Errors) (held : List (List ℕ × T)) → EachReads reads (values_of (members_view es)) answers
      → holding_read held (names_of (members_view (es ++ e ∷ []))) (answers ++ a ∷ []) ≡ holding_read (holding_read held (names_of (members_view es)) answers) (cow_str_bytes e.0.name ∷ []) (a ∷ [])
  holding-more [] e [] a held h = refl
  holding-more (d ∷ es) e (Ok x ∷ bs) a held h = holding-more es e bs a (holding held (cow_str_bytes d.0.name) x) h.1
  holding-more (d ∷ es) e (Err faults ∷ bs) a held h = holding-more es e bs a held h.1
  holding-more [] e (b ∷ bs) a held h = elim h [ ]
  holding-more (d ∷ es) e [] a held h = elim h [ ]

-- what was read, and one more
pub entry_more : {T : Type 0} (reads : Node → Result T Errors → Node → Type 0) (es : List Entry) (e : Entry) (held more : List (List ℕ × T)) (fs gs : List ErrorContent)
    → EntriesRead reads (names_of (members_view es)) (values_of (members_view es)) held fs → AddsEntry reads (cow_str_bytes e.0.name) (view e.1) held fs more gs
    → EntriesRead reads (names_of (members_view (es ++ e ∷ []))) (values_of (members_view (es ++ e ∷ []))) more gs
entry_more reads es e held more fs gs h one = (
  h.0 ++ one.0 ∷ [],
  each_more reads es e h.0 one.0 h.1 one.1,
  one.2 ∙ ap (λ m. holding_read m (cow_str_bytes e.0.name ∷ []) (one.0 ∷ [])) h.2 ∙ sym (holding-more reads es e h.0 one.0 [] h.1),
  errors_push h.0 one.0 ∙ ap (λ zs. zs ++ errors (one.0 ∷ [])) h.3 ∙ sym one.3,
)
