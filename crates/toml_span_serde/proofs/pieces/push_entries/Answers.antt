use Rattle.toml_span_lex.proofs.Common.{List, [], ◌∷◌, ◌++◌, map, sym, subst, ap, ◌∙◌, append_assoc, drop_all}
use Rattle.toml_span.proofs.Ordered.{members-ordered}
use Rattle.toml_span_tree.specs.Order.{entry_of}
use Rattle.toml_span_tree.specs.Value.{members_view}
use Rattle.toml_span_tree.proofs.Values.{Entry}
use Rattle.toml_span_serde.specs.Pieces.{table_begins, piece, key, members_pieces}
use Rattle.toml_span_serde.specs.Tasks.{all_pieces}
use Rattle.toml_span_serde.specs.TextOrder.{members_in_order}
use Rattle.toml_span_serde.proofs.Entries.{entries_pieces, entries-pieces-is}
use Rattle.toml_span_serde.proofs.OrderedNames.{AllOrdered, Lent, by-start-all, entries-next, ordered-push}
use Rattle.toml_span_serde.proofs.Rows.{all_pieces-push, entries_pieces-next}
use Rattle.toml_span_serde.proofs.pieces.push_entries.Goals as goal

pub loop-entry-init : goal.loop-entry-init
loop-entry-init c =
    let entries = c.args.table.now.entries in
    let laid = members_pieces (members_in_order (members_view entries)) in
    let sorted = ap (map entry_of) c.deref-entry-items.ensures.value ∙ c.in_ok-entries.ensures.entries in (
      ap (λ es. all_pieces c.push.new.self.items ++ entries_pieces es) sorted
          ∙ ap (λ ps. all_pieces c.push.new.self.items ++ ps) (entries-pieces-is entries)
          ∙ ap (λ ps. ps ++ laid) (all_pieces-push _ _ _ c.in_ok-push.ensures.items)
          ∙ append_assoc (all_pieces c.args.tasks.now.items) (piece table_begins c.args.span ∷ []) laid,
      λ h all. (
        (ordered-push _ _ _ c.in_ok-push.ensures.items h).0,
        by-start-all entries (subst (λ (es : List Entry). AllOrdered es) sorted all),
      ),
    )

pub loop-entry-preserved : goal.loop-entry-preserved
loop-entry-preserved c =
    let k = c.entry-item.result.0.now in
    let here = sym c.entry-item.is in
    let at = c.loop-entry.entry-index in
    let items = c.deref-entry-items.result.now in
    let below = c.loop-entry-test.true in (
      entries_pieces-next at items c.entry-item.result _ _ _ _
          below here c.loop-entry.invariant.0
          (all_pieces-push _ _ _ c.in_ok-push-2.ensures.items ∙ ap (λ name. all_pieces c.loop-entry.tasks.items ++ (piece (key name) k.span ∷ [])) c.as_ref.ensures.value)
          (all_pieces-push _ _ _ c.in_ok-push-3.ensures.items),
      λ h rest.
          let both = ordered-push _ _ _ c.in_ok-push-3.ensures.items h in
          c.loop-entry.invariant.1 (ordered-push _ _ _ c.in_ok-push-2.ensures.items both.0).0
          (entries-next at items c.entry-item.result below here both.1 rest),
    )

pub returns-clause-ordered : goal.returns-clause-ordered
returns-clause-ordered c = λ h.
    let entries = c.args.table.now.entries in
    let left = drop_all c.loop-entry.entry-index c.deref-entry-items.result.now c.loop-entry-test.false in
    let both = c.loop-entry.invariant.1 h (subst (λ (es : List Lent). AllOrdered (map entry_of es)) (sym left) tt) in
    (both.0, members-ordered entries c.in_ok-entries.ensures.ordered both.1)
