use Rattle.toml_span_lex.proofs.Common.{◌≡◌, ◌++◌, sym, ap, refl, ◌∙◌, cow_str_bytes}
use Rattle.toml_span_tree.specs.Value.{view, inner_view, items_view, members_view}
use Rattle.toml_span_lines.specs.Lines.{line, node_lines, held_lines, items_lines, members_lines, position_segment, key_segment}
use Rattle.toml_span_lines.proofs.Fronts.{holds-all, holds-more, fails-after, stops-after, goes-on}
use Rattle.toml_span_lines.proofs.Walks.{node_lines-held, items_lines-next, members_lines-next, take-segment}
use Rattle.toml_span_tree.proofs.Sizes.{items_size-next, members_size-next}
use Rattle.toml_span_tree.proofs.Values.{inner_view-Array, inner_view-Table}
use Rattle.toml_span_lines.proofs.lines.+write_value.Goals as goal

pub write_elements-returns-in_err-push_position-clause-out : goal.write_elements-returns-in_err-push_position-clause-out
write_elements-returns-in_err-push_position-clause-out g t c =
    let out = c.loop-position.invariant.out in
    stops-after c.from_residual.result _ _ _ out.0 _ _ _ _ c.from_residual.ensures.1 out.1 c.loop-position.invariant.good out.2

pub write_elements-returns-in_err-write_value-clause-out : goal.write_elements-returns-in_err-write_value-clause-out
write_elements-returns-in_err-write_value-clause-out g t c =
    let path = c.args.path.now.items in
    let i = c.loop-position.position in
    let element = c.index-elements-position.result in
    let below : path ++ position_segment i ≡ c.push_position.new.path.items =
    sym (c.in_ok-push_position.ensures ∙ ap (λ p. p ++ position_segment i) c.loop-position.invariant.path) in
    let out = c.loop-position.invariant.out in
    let piece = node_lines c.push_position.new.path.items (view element) in
    fails-after (Unit {0}) (Unit {0}) c.from_residual-in_err-write_value.result c.in_err-write_value.field-0.0 _ _ _ _ out.0 _ piece _ _ _ _ c.from_residual-in_err-write_value.ensures.1 out.1
    c.in_err-write_value.ensures.out
    (items_lines-next path i c.args.elements.now element out.0 (out.0 ++ piece) _ c.loop-position-test.true (sym c.index-elements-position.is) out.2
    (ap (λ p. out.0 ++ node_lines p (view element)) (sym below)))

pub write_elements-loop-position-preserved : goal.write_elements-loop-position-preserved
write_elements-loop-position-preserved g t c =
    let path = c.args.path.now.items in
    let i = c.loop-position.position in
    let element = c.index-elements-position.result in
    let here = sym c.index-elements-position.is in
    let below : path ++ position_segment i ≡ c.push_position.new.path.items =
    sym (c.in_ok-push_position.ensures ∙ ap (λ p. p ++ position_segment i) c.loop-position.invariant.path) in
    let out = c.loop-position.invariant.out in
    let piece = node_lines c.push_position.new.path.items (view element) in
    record {
      good = c.in_ok-write_value.ensures.out.0;
      path = take-segment path _ _ (position_segment i) _ c.loop-position.invariant.length (c.in_ok-write_value.ensures.path ∙ sym below) c.truncate.ensures.items;
      length = c.loop-position.invariant.length;
      small = items_size-next i c.args.elements.now element _ c.loop-position-test.true here c.loop-position.invariant.small;
      out = (
        out.0 ++ piece,
        holds-more _ _ _ out.0 _ piece _ out.1 c.in_ok-write_value.ensures.out.1,
        items_lines-next path i c.args.elements.now element out.0 (out.0 ++ piece) _ c.loop-position-test.true here out.2
            (ap (λ p. out.0 ++ node_lines p (view element)) (sym below)),
      );
    }

pub write_entries-returns-in_err-push_key-clause-out : goal.write_entries-returns-in_err-push_key-clause-out
write_entries-returns-in_err-push_key-clause-out g t c =
    let out = c.loop-key.invariant.out in
    stops-after c.from_residual.result _ _ _ out.0 _ _ _ _ c.from_residual.ensures.1 out.1 c.loop-key.invariant.good out.2

pub write_entries-returns-in_err-write_value-clause-out : goal.write_entries-returns-in_err-write_value-clause-out
write_entries-returns-in_err-write_value-clause-out g t c =
    let path = c.args.path.now.items in
    let key = c.in-Some.key.now in
    let value = c.in-Some.value.now in
    let below : path ++ key_segment (cow_str_bytes key.name) ≡ c.push_key.new.path.items =
    sym (c.in_ok-push_key.ensures
    ∙ ap (λ p. p ++ key_segment c.as_ref.result.now) c.loop-key.invariant.path
    ∙ ap (λ n. path ++ key_segment n) c.as_ref.ensures.value) in
    let out = c.loop-key.invariant.out in
    let piece = node_lines c.push_key.new.path.items (view value) in
    fails-after (Unit {0}) (Unit {0}) c.from_residual-in_err-write_value.result c.in_err-write_value.field-0.0 _ _ _ _ out.0 _ piece _ _ _ _ c.from_residual-in_err-write_value.ensures.1 out.1
    c.in_err-write_value.ensures.out
    (members_lines-next path c.loop-key.key-iterator c.next.new.self key value out.0 (out.0 ++ piece) _ c.in-Some.ensures.steps out.2
    (ap (λ p. out.0 ++ node_lines p (view value)) (sym below)))

pub write_entries-loop-key-preserved : goal.write_entries-loop-key-preserved
write_entries-loop-key-preserved g t c =
    let path = c.args.path.now.items in
    let key = c.in-Some.key.now in
    let value = c.in-Some.value.now in
    let segment = key_segment (cow_str_bytes key.name) in
    let below : path ++ segment ≡ c.push_key.new.path.items =
    sym (c.in_ok-push_key.ensures
    ∙ ap (λ p. p ++ key_segment c.as_ref.result.now) c.loop-key.invariant.path
    ∙ ap (λ n. path ++ key_segment n) c.as_ref.ensures.value) in
    let out = c.loop-key.invariant.out in
    let piece = node_lines c.push_key.new.path.items (view value) in
    record {
      good = c.in_ok-write_value.ensures.out.0;
      path = take-segment path _ _ segment _ c.loop-key.invariant.length (c.in_ok-write_value.ensures.path ∙ sym below) c.truncate.ensures.items;
      length = c.loop-key.invariant.length;
      small = members_size-next c.loop-key.key-iterator c.next.new.self key value _ c.in-Some.ensures.steps c.loop-key.invariant.small;
      out = (
        out.0 ++ piece,
        holds-more _ _ _ out.0 _ piece _ out.1 c.in_ok-write_value.ensures.out.1,
        members_lines-next path c.loop-key.key-iterator c.next.new.self key value out.0 (out.0 ++ piece) _ c.in-Some.ensures.steps out.2
            (ap (λ p. out.0 ++ node_lines p (view value)) (sym below)),
      );
    }

pub write_value-returns-in_err-write_line-clause-out : goal.write_value-returns-in_err-write_line-clause-out
write_value-returns-in_err-write_line-clause-out g t c =
    let path = c.args.path.now.items in
    let held = c.args.held.now.items in
    let span = c.args.value.now.span in
    let i = inner_view c.as_ref-inner.result.now in
    let own = line c.as_slice.result.now c.type_str.result.now span.start span.end in
    fails-after (Unit {0}) (Unit {0}) c.from_residual.result c.in_err-write_line.field-0.0 _ _ _ _ held held own (held_lines path i) _ _ _ c.from_residual.ensures.1 (holds-all _ held) c.in_err-write_line.ensures
    (node_lines-held (view c.args.value.now) i span path held _ _ _ c.as_ref-inner.ensures (sym c.is_taken.ensures ∙ c.if-is_taken.false) c.as_slice.ensures.value c.type_str.ensures refl)

pub write_value-returns-in-Array-clause-out : goal.write_value-returns-in-Array-clause-out
write_value-returns-in-Array-clause-out g t c =
    let path = c.args.path.now.items in
    let held = c.args.held.now.items in
    let span = c.args.value.now.span in
    let i = inner_view c.as_ref-inner.result.now in
    let own = line c.as_slice.result.now c.type_str.result.now span.start span.end in
    let below : items_lines path 0 (items_view c.as_slice-in-Array.result.now) ≡ held_lines path i =
    ap (λ es. items_lines path 0 (items_view es)) c.as_slice-in-Array.ensures.value ∙ sym (ap (held_lines path) (ap inner_view c.in-Array.is ∙ inner_view-Array c.in-Array.elements)) in
    goes-on c.write_elements.result _ _ _ _ (held ++ own) _ _ _ _ c.in_ok-write_line.ensures.1 c.write_elements.ensures.out
    (node_lines-held (view c.args.value.now) i span path held _ _ _ c.as_ref-inner.ensures (sym c.is_taken.ensures ∙ c.if-is_taken.false) c.as_slice.ensures.value c.type_str.ensures
    (ap (λ l. (held ++ own) ++ l) below))

pub write_value-returns-in-Table-clause-out : goal.write_value-returns-in-Table-clause-out
write_value-returns-in-Table-clause-out g t c =
    let path = c.args.path.now.items in
    let held = c.args.held.now.items in
    let span = c.args.value.now.span in
    let i = inner_view c.as_ref-inner.result.now in
    let own = line c.as_slice.result.now c.type_str.result.now span.start span.end in
    let below : members_lines path (members_view c.in-Table.table.entries) ≡ held_lines path i =
    sym (ap (held_lines path) (ap inner_view c.in-Table.is ∙ inner_view-Table c.in-Table.table)) in
    goes-on c.write_entries.result _ _ _ _ (held ++ own) _ _ _ _ c.in_ok-write_line.ensures.1 c.write_entries.ensures.out
    (node_lines-held (view c.args.value.now) i span path held _ _ _ c.as_ref-inner.ensures (sym c.is_taken.ensures ∙ c.if-is_taken.false) c.as_slice.ensures.value c.type_str.ensures
    (ap (λ l. (held ++ own) ++ l) below))
