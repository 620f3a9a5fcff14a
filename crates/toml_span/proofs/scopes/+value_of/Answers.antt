use Rattle.toml_span_lex.proofs.Common.{◌≡◌, [], Some, None, rules, refl, sym, ap, ◌∙◌, nil_from_length, w64, SFits, of_z, to_z, cow_str_bytes}
use Rattle.std.proofs.lemmas.Int.{to_z-of_z}
use Rattle.toml_span_tree.specs.Node.{node, text, integer, float, boolean, datetime}
use Rattle.toml_span_tree.specs.Value.{inner_view, float_value, date_bytes}
use Rattle.toml_span_tree.specs.declared.value.ValueInner.{the_lemmas as tree_lemmas}
use Rattle.toml_span_tree.specs.declared.value.ValueInner.TheVariants.{Array, Table}
use Rattle.toml_span_tree.specs.declared.value.ValueInner.TheVariants as inners
use Rattle.toml_span_tree.specs.Path.{shape_of as tree_shape}
use Rattle.toml_span_tree.proofs.Values.{inner_view-Array, inner_view-Table}
use Rattle.toml_span_read.specs.Data.{parsed_value}
use Rattle.toml_span_read.specs.declared.value.ValKind.{the_lemmas}
use Rattle.toml_span_read.specs.Borrowed.{assignment_written, written}
use Rattle.toml_span.proofs.Placed.{err-of}
use Rattle.toml_span.proofs.Borrowing.{assignment_right, first_right, fresh-bare}
use Rattle.toml_span.proofs.HeldValues.{array_read, element_push, inline_read, made_array, made_table, plain_right, string_right}
use Rattle.toml_span.proofs.Assignments.{inner-none, places-one, val_span, remains-first, placing-more, placing-err, placing-none, table-gives, table-err, table-own}
use Rattle.toml_span.proofs.Values.{IsMade, made-more, elements-first, elements-err, elements-none, scalar-gives, array-reads, inline-reads, scope-gives, scope-err}
use Rattle.toml_span_read.specs.declared.value.Val.{Val}
use Rattle.toml_span_tree.specs.declared.value.Value.{Value}
use Rattle.toml_span.proofs.scopes.+value_of.Goals as goal
use Rattle.toml_span.proofs.scopes.+value_of.Goals.{value_of-in-String, value_of-in-Integer, value_of-in-Float, value_of-in-Boolean, value_of-in-Datetime, value_of-in-Array+in_ok-array_of-in-Array, value_of-in-Inline+in_ok-table_of-in-Inline}

-- ---- arrays

pub array_of-loop-element-init : goal.array_of-loop-element-init
array_of-loop-element-init t c = record {
  can = tt;
  ends = tt;
  borrows = λ text h. (rw c.into_iter-element-iterator.ensures.into_iter_gives.0 h, rw c.in_ok-array.ensures.items tt);
  finished = elements-first _ _ _ c.into_iter-element-iterator.ensures.into_iter_gives.0 c.in_ok-array.ensures.items;
}

pub array_of-loop-element-preserved : goal.array_of-loop-element-preserved
array_of-loop-element-preserved t c = record {
  can = tt;
  ends = tt;
  borrows = λ text h.
      let before = c.loop-element.invariant.borrows text h in
      let first = first_right text written _ _ c.in-Some.element c.in-Some.ensures.steps.0 before.0 in
      (first.1, rw c.in_ok-push.ensures.items (element_push text c.in_ok-value_of.field-0 c.loop-element.array.items before.1 (c.in_ok-value_of.ensures.borrows text first.0 None)));
  finished = made-more Val Value IsMade _ _ _ c.loop-element.array.items c.push.new.self.items c.in-Some.element c.in_ok-value_of.field-0 c.in-Some.ensures.steps.0 c.loop-element.invariant.finished c.in_ok-value_of.ensures.value c.in_ok-push.ensures.items;
}

pub array_of-returns-in_err-value_of-clause-scope : goal.array_of-returns-in_err-value_of-clause-scope
array_of-returns-in_err-value_of-clause-scope t c =
    let q = c.from_residual-in_err-value_of.result in
    let e = c.in_err-value_of.field-0.0 in
    elements-err _ _ _ c.in-Some.element c.loop-element.array.items (λ xs. inner_view (Array xs)) q e c.in-Some.ensures.steps.0 c.loop-element.invariant.finished
    (err-of q e _ c.from_residual-in_err-value_of.ensures.1 (λ y p. p)) c.in_err-value_of.ensures.value

pub array_of-returns-clause-scope : goal.array_of-returns-clause-scope
array_of-returns-clause-scope t c = elements-none _ _ c.loop-element.array (nil_from_length _ (sym c.loop-element.element-iterator.rest.ok.0 ∙ c.in-None.ensures.steps.0)) c.loop-element.invariant.finished

-- ---- assignments

pub place_one-returns-clause-places : goal.place_one-returns-clause-places
place_one-returns-clause-places t c =
    places-one c.args.pair c.as_slice.result.now c.args.node.now c.place_pair.new.node c.place_pair.result c.as_slice.ensures.value
    (c.place_pair.ensures.places _ (parsed_value c.args.pair.value) refl c.value_of-value.ensures.value (val_span c.args.pair.value))

pub place_one-returns-then-is_empty-clause-places : goal.place_one-returns-then-is_empty-clause-places
place_one-returns-then-is_empty-clause-places t c =
    places-one c.args.pair [] c.args.node.now c.assign.new.node c.assign.result (inner-none c.args.pair c.if-is_empty.ensures)
    (c.assign.ensures.places (parsed_value c.args.pair.value) c.value_of-value.ensures.value (val_span c.args.pair.value))

pub place_pairs-loop-pair-init : goal.place_pairs-loop-pair-init
place_pairs-loop-pair-init t c = record {
  can = tt;
  ends = tt;
  borrows = λ text h before. (rw c.into_iter-pair-iterator.ensures.into_iter_gives.0 h, before, refl);
  placing = remains-first _ _ _ c.into_iter-pair-iterator.ensures.into_iter_gives.0;
}

pub place_pairs-loop-pair-preserved : goal.place_pairs-loop-pair-preserved
place_pairs-loop-pair-preserved t c = record {
  can = tt;
  ends = tt;
  borrows = λ text h node.
      let before = c.loop-pair.invariant.borrows text h node in
      let first = first_right text assignment_written _ _ c.in-Some.pair c.in-Some.ensures.steps.0 before.0 in
      let kept = c.in_ok-place_one.ensures.borrows text first.0 before.1 in
      (first.1, kept.0, kept.1 ∙ before.2);
  placing = placing-more c.loop-pair.node c.place_one.new.node _ _ _ _ c.in-Some.pair c.in-Some.ensures.steps.0 c.loop-pair.invariant.placing c.in_ok-place_one.ensures.places;
}

pub place_pairs-returns-in_err-place_one-clause-places : goal.place_pairs-returns-in_err-place_one-clause-places
place_pairs-returns-in_err-place_one-clause-places t c =
    let q = c.from_residual.result in
    let e = c.in_err-place_one.field-0.0 in
    placing-err c.loop-pair.node c.place_one.new.node c.args.node.now c.place_one.new.node _ _ _ c.in-Some.pair q e c.in-Some.ensures.steps.0 c.loop-pair.invariant.placing
    (err-of q e _ c.from_residual.ensures.1 (λ y p. p)) c.in_err-place_one.ensures.places

pub place_pairs-returns-clause-places : goal.place_pairs-returns-clause-places
place_pairs-returns-clause-places t c = placing-none c.loop-pair.node _ _ _ (nil_from_length _ (sym c.loop-pair.pair-iterator.rest.ok.0 ∙ c.in-None.ensures.steps.0)) c.loop-pair.invariant.placing

-- ---- inline tables

pub table_of-returns-in_err-place_pairs-clause-scope : goal.table_of-returns-in_err-place_pairs-clause-scope
table_of-returns-in_err-place_pairs-clause-scope t c =
    let q = c.from_residual.result in
    let e = c.in_err-place_pairs.field-0.0 in
    table-err c.new-scope.result c.place_pairs.new.node _ (λ t. inner_view (Table t)) q e c.new-scope.ensures (err-of q e _ c.from_residual.ensures.1 (λ y p. p)) c.in_err-place_pairs.ensures.places

pub table_of-returns-clause-scope : goal.table_of-returns-clause-scope
table_of-returns-clause-scope t c =
    table-gives c.new-scope.result c.place_pairs.new.node _ c.in_ok-into_table.field-0 c.new-scope.ensures c.in_ok-place_pairs.ensures.places c.in_ok-into_table.ensures.finishes

pub value_of-returns-in_err-array_of-in-Array-clause-value : goal.value_of-returns-in_err-array_of-in-Array-clause-value
value_of-returns-in_err-array_of-in-Array-clause-value t c =
    let q = c.from_residual.result in
    let e = c.in_err-array_of-in-Array.field-0.0 in
    scope-err c.args.val _ _ (λ xs. inner_view (Array xs)) q e (array-reads c.args.val c.in-Array.elements c.in-Array.is)
    (err-of q e _ c.from_residual.ensures.1 (λ y p. p)) c.in_err-array_of-in-Array.ensures.scope

pub value_of-returns-in_err-table_of-in-Inline-clause-value : goal.value_of-returns-in_err-table_of-in-Inline-clause-value
value_of-returns-in_err-table_of-in-Inline-clause-value t c =
    let q = c.from_residual-in_err-table_of-in-Inline.result in
    let e = c.in_err-table_of-in-Inline.field-0.0 in
    scope-err c.args.val _ _ (λ t. inner_view (Table t)) q e (inline-reads c.args.val c.in-Inline.pairs c.in-Inline.is)
    (err-of q e _ c.from_residual-in_err-table_of-in-Inline.ensures.1 (λ y p. p)) c.in_err-table_of-in-Inline.ensures.scope

pub value_of-returns-clause-value : goal.value_of-returns-clause-value
value_of-returns-clause-value t c =
    let v = c.args.val in
    let x = c.with_span.result in
    let inner = c.match-kind.inner in
    let seen = c.with_span.ensures.view in
    elim c.match-kind.branch [
      | value_of-in-String w ↦ scalar-gives v inner _ _ x (text (cow_str_bytes w.in-String.text)) w.in-String.is w.inner-is (search (rules, the_lemmas)) (search (rules, tree_lemmas)) seen
      | value_of-in-Integer w ↦
          let n = w.in-Integer.number in
          let fits : SFits w64 n = search (rules, the_lemmas) in
          let whole : to_z w64 (of_z w64 n) ≡ n = to_z-of_z w64 n fits in
          scalar-gives v inner (inners.Integer n) _ x (integer n) w.in-Integer.is (w.inner-is ∙ ap inners.Integer whole) (search (rules, the_lemmas)) (search (rules, tree_lemmas)) seen
      | value_of-in-Float w ↦ scalar-gives v inner _ _ x (float (float_value w.in-Float.text)) w.in-Float.is w.inner-is (search (rules, the_lemmas)) (search (rules, tree_lemmas)) seen
      | value_of-in-Boolean w ↦ scalar-gives v inner _ _ x (boolean w.in-Boolean.truth) w.in-Boolean.is w.inner-is (search (rules, the_lemmas)) (search (rules, tree_lemmas)) seen
      | value_of-in-Datetime w ↦ scalar-gives v inner _ _ x (datetime (date_bytes w.in-Datetime.text)) w.in-Datetime.is w.inner-is (search (rules, the_lemmas)) (search (rules, tree_lemmas)) seen
      | value_of-in-Array+in_ok-array_of-in-Array w ↦
          scope-gives v _ _ inner (Array w.in_ok-array_of-in-Array.field-0) x (array-reads v w.in-Array.elements w.in-Array.is) w.inner-is seen
          (ap tree_shape (inner_view-Array w.in_ok-array_of-in-Array.field-0)) w.in_ok-array_of-in-Array.ensures.scope
      | value_of-in-Inline+in_ok-table_of-in-Inline w ↦
          scope-gives v _ _ inner (Table w.in_ok-table_of-in-Inline.field-0) x (inline-reads v w.in-Inline.pairs w.in-Inline.is) w.inner-is seen
          (ap tree_shape (inner_view-Table w.in_ok-table_of-in-Inline.field-0)) w.in_ok-table_of-in-Inline.ensures.scope
    ]

-- ---- what is borrowed

pub array_of-returns-clause-borrows : goal.array_of-returns-clause-borrows
array_of-returns-clause-borrows t c = λ text h. (c.loop-element.invariant.borrows text h).1

pub place_one-returns-clause-borrows : goal.place_one-returns-clause-borrows
place_one-returns-clause-borrows t c = λ text h.
    let right = assignment_right text c.args.pair h in
    c.place_pair.ensures.borrows text _ refl (rw c.as_slice.ensures.value right.0) right.1 (c.value_of-value.ensures.borrows text right.2)

pub place_one-returns-then-is_empty-clause-borrows : goal.place_one-returns-then-is_empty-clause-borrows
place_one-returns-then-is_empty-clause-borrows t c = λ text h.
    let right = assignment_right text c.args.pair h in
    c.assign.ensures.borrows text right.1 (c.value_of-value.ensures.borrows text right.2)

pub place_pairs-returns-clause-borrows : goal.place_pairs-returns-clause-borrows
place_pairs-returns-clause-borrows t c = λ text h node. let kept = c.loop-pair.invariant.borrows text h node in (kept.1, kept.2)

pub table_of-returns-clause-borrows : goal.table_of-returns-clause-borrows
table_of-returns-clause-borrows t c = λ text h.
    table-own text c.new-scope.result c.place_pairs.new.node _ c.in_ok-into_table.field-0 c.new-scope.ensures c.in_ok-place_pairs.ensures.places c.in_ok-into_table.ensures.finishes
    (c.in_ok-place_pairs.ensures.borrows text h (rw (fresh-bare c.new-scope.result c.new-scope.ensures) tt)).0

pub value_of-returns-clause-borrows : goal.value_of-returns-clause-borrows
value_of-returns-clause-borrows t c = λ text h.
    let v = c.args.val in
    let x = c.with_span.result in
    let inner = c.match-kind.inner in
    let kept = c.with_span.ensures.kept in
    elim c.match-kind.branch [
      | value_of-in-String w ↦ string_right text v x inner w.in-String.text w.in-String.is w.inner-is kept h
      | value_of-in-Integer w ↦ plain_right text x inner _ v.span kept w.inner-is (search (rules, tree_lemmas))
      | value_of-in-Float w ↦ plain_right text x inner _ v.span kept w.inner-is (search (rules, tree_lemmas))
      | value_of-in-Boolean w ↦ plain_right text x inner _ v.span kept w.inner-is (search (rules, tree_lemmas))
      | value_of-in-Datetime w ↦ plain_right text x inner _ v.span kept w.inner-is (search (rules, tree_lemmas))
      | value_of-in-Array+in_ok-array_of-in-Array w ↦
          let a = w.in_ok-array_of-in-Array.field-0 in
          made_array text x a v.span (kept.0 ∙ ap (λ i. Some i) w.inner-is, kept.1) (c.with_span.ensures.view ∙ ap (λ i. node (inner_view i) v.span) w.inner-is ∙ ap (λ i. node i v.span) (inner_view-Array a))
          (w.in_ok-array_of-in-Array.ensures.borrows text (array_read text v w.in-Array.elements w.in-Array.is h))
      | value_of-in-Inline+in_ok-table_of-in-Inline w ↦
          let t = w.in_ok-table_of-in-Inline.field-0 in
          made_table text x t v.span (kept.0 ∙ ap (λ i. Some i) w.inner-is, kept.1) (c.with_span.ensures.view ∙ ap (λ i. node (inner_view i) v.span) w.inner-is ∙ ap (λ i. node i v.span) (inner_view-Table t))
          (w.in_ok-table_of-in-Inline.ensures.borrows text (inline_read text v w.in-Inline.pairs w.in-Inline.is h))
    ]
