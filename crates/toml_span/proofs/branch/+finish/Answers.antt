use Rattle.toml_span_lex.proofs.Common.{◌≡◌, [], refl, sym, ap, ◌∙◌, nil_from_length}
use Rattle.toml_span.specs.declared.branch.Branch.{Branch}
use Rattle.toml_span.specs.declared.branch.Branch.TheOpen.{Branch-F}
use Rattle.toml_span.specs.declared.branch.Branch.TheViews.{out-Branch, roll-Branch}
use Rattle.toml_span.proofs.Nodes.{no-entries, out-roll, some-entries}
use Rattle.toml_span.proofs.Finishing.{never-empty, filled-more, filled-none, filled-finishes, became-table, became-array}
use Rattle.toml_span_tree.specs.declared.value.Value.{Value}
use Rattle.toml_span.specs.code.Placing.{BecomesEntry}
use Rattle.toml_span.proofs.Values.{made-more}
use Rattle.toml_span.proofs.branch.+finish.Goals as goal

pub into_array-loop-entry-preserved : goal.into_array-loop-entry-preserved
into_array-loop-entry-preserved t c = record {
  can = tt;
  ends = tt;
  filled = made-more Branch Value BecomesEntry _ _ _ _ _ c.in-Some.entry _ c.in-Some.ensures.steps.0 c.loop-entry.invariant.filled (c.in_ok-value.field-0-0, c.in_ok-value.ensures) c.in_ok-push.ensures.items;
}

pub into_table-loop-key-preserved : goal.into_table-loop-key-preserved
into_table-loop-key-preserved t c = record {
  filled =
      rw c.in_ok-insert.ensures.entries
      (filled-more _ c.in-Some.key _ c.in-Some.child _ _ _ _ refl (rw c.as_mut.ensures.value at c.in_ok-span.ensures) (rw c.in-Some.ensures.steps at c.loop-key.invariant.filled));
  bare = λ none. absurd (never-empty _ _ _ c.in-Some.ensures.steps (c.loop-key.invariant.bare none));
}

pub into_table-returns-clause-finishes : goal.into_table-returns-clause-finishes
into_table-returns-clause-finishes t c = filled-finishes _ _ _ c.loop-key.key-iterator c.in-None.ensures.steps.0 c.loop-key.invariant.filled c.in_order-2.ensures

pub into_table-returns-then-is_empty-clause-finishes : goal.into_table-returns-then-is_empty-clause-finishes
into_table-returns-then-is_empty-clause-finishes t c =
    filled-finishes _ _ _ [] refl (filled-none _ _ (nil_from_length _ (c.is_empty.ensures.0 c.if-is_empty.true))) c.in_order.ensures

values_kept : (b : Branch-F Branch) → (out-Branch (roll-Branch b)).values ≡ b.values
values_kept b = ap (λ (b : Branch-F Branch). b.values) (out-roll b)

pub into_value-returns-then-is_empty : goal.into_value-returns-then-is_empty
into_value-returns-then-is_empty t c =
    became-table c.args.node.now c.in_ok-table.table c.spans.result _ (rw c.as_slice.ensures at c.spans.ensures) c.with_span.ensures.view c.with_span.ensures.kept (no-entries c.args.node.now (sym c.if-is_empty.ensures))
    (rw (c.replace-tables.ensures.value, c.replace-values.ensures.value ∙ values_kept _) at c.in_ok-table.ensures.finishes)

pub into_value-returns : goal.into_value-returns
into_value-returns t c =
    became-array c.args.node.now c.in_ok-array.array c.spans.result _ (rw c.as_slice.ensures at c.spans.ensures) c.with_span-2.ensures.view c.with_span-2.ensures.kept (some-entries c.args.node.now (sym c.if-is_empty.ensures))
    (rw c.replace.ensures.value at c.in_ok-array.ensures)

pub into_table-returns-in_err-span-clause-bare : goal.into_table-returns-in_err-span-clause-bare
into_table-returns-in_err-span-clause-bare t c = λ none. absurd (never-empty _ _ _ c.in-Some.ensures.steps (c.loop-key.invariant.bare none))

pub into_table-returns-in_err-insert-clause-bare : goal.into_table-returns-in_err-insert-clause-bare
into_table-returns-in_err-insert-clause-bare t c = λ none. absurd (never-empty _ _ _ c.in-Some.ensures.steps (c.loop-key.invariant.bare none))
