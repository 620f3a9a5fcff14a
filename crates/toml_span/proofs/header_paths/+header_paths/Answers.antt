use Rattle.toml_span_lex.proofs.Common.{◌≡◌, ◌<◌, arith, ap, length, rules, sym, ◌∙◌, ◌∷◌, [], ◌++◌, map, true, false, Some, is_some, cow_str_bytes, BTreeMap, Entry, insert_entry, keys_of, map_with_value}
use Rattle.toml_span_lex.specs.declared.key.Key.{Key}
use Rattle.toml_span_tree.specs.declared.value.Value.{Value}
use Rattle.std.proofs.lemmas.Bool.{eqb-true}
use Rattle.toml_span_read.proofs.EarlierTree.{key_cmp, parts-first}
use Rattle.toml_span_read.specs.Data.{simple_key}
use Rattle.toml_span.proofs.Borrowing.{front_right}
use Rattle.toml_span.proofs.BuiltArrays.{new-array, pass-array, pass-latest}
use Rattle.toml_span.proofs.BuiltTables.{key-for, new-section, new-table, occupied, pass-table, placed-rest, some-map, vacant}
use Rattle.toml_span.proofs.Headers.{parts-below, parts-some}
use Rattle.toml_span.specs.code.Built.{ArrayBuildsOn}
use Rattle.toml_span.specs.code.Placing.{Array}
use Rattle.toml_span.specs.code.Relative.{counts_after_through, through}
use Rattle.toml_span.proofs.KeyMaps.{entry-found, entry-missing}
use Rattle.toml_span.proofs.header_paths.+header_paths.Goals as goal

pub new_value-returns-then-not-is_empty : goal.new_value-returns-then-not-is_empty
new_value-returns-then-not-is_empty t c = λ text h tail k part placed key.
    new-table text h tail k (simple_key part) c.with_span.result c.place_table.new.table key.1 (placed.extent ∙ sym c.with_span.ensures.kept.1) key.2 c.with_span.ensures.kept.0 c.in_order.ensures
    c.new-below.result (map simple_key c.args.rest.now) (parts-some c.args.rest.now (sym c.if-not-is_empty.ensures)) c.new-below.ensures.empty (c.in_ok-place_table.ensures text h tail placed)

pub new_value-returns-then-not-array : goal.new_value-returns-then-not-array
new_value-returns-then-not-array t c = λ text h tail k part placed key.
    let single : c.args.array ≡ false = search rules in
    rw (parts-below c.args.rest.now (omega (arith, eqb-true (length c.args.rest.now) 0 (sym c.if-not-is_empty.ensures))))
    (new-section text h tail k (simple_key part) c.args.value placed.table key.1 placed.extent key.2 placed.held placed.ascend (placed.brackets ∙ single) placed.section)

pub new_value-returns-in-Ok : goal.new_value-returns-in-Ok
new_value-returns-in-Ok t c = λ text h tail k part placed key.
    let double : c.args.array ≡ true = search rules in
    rw (parts-below c.args.rest.now (omega (arith, eqb-true (length c.args.rest.now) 0 (sym c.if-not-is_empty.ensures))))
    (new-array text h tail k (simple_key part) (placed.brackets ∙ double) c.args.value placed.table placed.extent placed.held placed.ascend placed.section c.with_span-in-Ok.result c.push.new.self key.1 c.with_span-in-Ok.ensures.kept.1 key.2
    c.with_span-in-Ok.ensures.kept.0 (c.in-Ok.ensures.items ∙ ap (λ l. l ++ (c.args.value ∷ [])) c.new-elements.ensures.items))

pub pass_table-returns : goal.pass_table-returns
pass_table-returns t c = λ text h tail placed. record {
  some = parts-some c.args.rest.now (sym c.if-is_empty.ensures);
  ascend = c.in_order.ensures;
  builds = c.in_ok-place_table.ensures text h tail placed;
}

pub pass_element-returns-in-Table : goal.pass_element-returns-in-Table
pass_element-returns-in-Table t c = λ text h tail placed. record {
  before = c.in-Table.below;
  after = c.in_ok-below-in-Table.below;
  was = c.in-Table.ensures.kept;
  held = c.with_span.ensures.kept.0;
  span = c.with_span.ensures.kept.1;
  passes = c.in_ok-below-in-Table.ensures text h tail placed;
}

pub pass_array-returns-then-not-is_empty : goal.pass_array-returns-then-not-is_empty
pass_array-returns-then-not-is_empty t c = λ text h tail k part placed.
    some-map c.with_element.result _ _
    (λ made is old w was held span st e entry.
    pass-latest text h tail k part (map simple_key c.args.rest.now) old w c.args.elements made _ c.in_ok-latest.latest c.in_ok-passed.passed st e (c.in_ok-passed.ensures text h tail placed) was held span c.in_ok-latest.ensures.items is entry)
    c.with_element.ensures

pub pass_array-returns : goal.pass_array-returns
pass_array-returns t c = λ text h tail k part placed.
    let double : c.args.array ≡ true = search rules in
    rw (parts-below c.args.rest.now (omega (arith, eqb-true (length c.args.rest.now) 0 (sym c.if-not-is_empty.ensures))))
    (some-map _ (λ (made : Array). made.items ≡ c.args.elements.items ++ (c.args.value ∷ [])) (λ (made : Array). ArrayBuildsOn text k c.args.elements made (λ e. through e h part [] tail) (λ e. counts_after_through e h []))
    (λ made is old w was held span st e entry.
    pass-array text h tail k part (placed.brackets ∙ double) c.args.value placed.table placed.extent placed.held placed.ascend placed.section old w c.args.elements made st e was held span is entry)
    (search rules))

pub pass_value-returns-in_ok-below-in-Table : goal.pass_value-returns-in_ok-below-in-Table
pass_value-returns-in_ok-below-in-Table t c = λ text h tail k part placed st e entry.
    let on = c.in_ok-below-in-Table.ensures text h tail placed in
    pass-table text h tail part (map simple_key c.args.rest.now) k c.args.child.now c.with_span.result c.in-Table.below c.in_ok-below-in-Table.below st e on.some c.in-Table.ensures.kept c.with_span.ensures.kept on.ascend on.builds entry

pub pass_value-returns-in_ok-elements-in-Array : goal.pass_value-returns-in_ok-elements-in-Array
pass_value-returns-in_ok-elements-in-Array t c = λ text h tail k part placed.
    c.in_ok-elements-in-Array.ensures text h tail k part placed c.args.child.now c.with_span-in-Array.result c.in-Array.ensures.kept c.with_span-in-Array.ensures.kept.0 c.with_span-in-Array.ensures.kept.1

pub place_table-returns-else-get-key : goal.place_table-returns-else-get-key
place_table-returns-else-get-key t c = λ text h tail placed.
    let o = c.in-Ok-Occupied in
    let clone = c.in-Ok in
    let front = parts-first c.args.parts.now c.part-item.result _ c.in-len1-up.len_at_least c.part-item.is in
    let keys = front_right text c.args.parts.now c.part-item.result _ c.in-len1-up.len_at_least c.part-item.is placed.keys in
    let stands = rw o.field-0-is at o.ensures.value in
    let found = rw o.field-0-is at o.ensures.found in
    let update = rw o.field-0-is at o.ensures.update in
    let same = rw o.field-0-is at o.ensures.same_map in
    let stay = rw o.field-0-is at o.ensures.keys_stay in
    let child = c.pass_value.new.child in
    let k = c.key.result.now in
    let here = entry-found (cow_str_bytes clone.key.name) c.args.table.now.entries (k, c.into_mut.result.now) (found.1 ∙ ap (λ k. Some k) (sym c.key.ensures)) (sym stands ∙ c.into_mut.ensures.value) in
    let by : c.into_mut.result.now.span.start < k.span.start = search rules in
    let on = λ (new : BTreeMap Key Value) (is : new ≡ map_with_value (Entry.Occupied o.entry) child).
    some-map c.pass_value.result _ _
    (λ u on. occupied text h tail (simple_key c.part-item.result) _ c.args.table.now new clone.key clone.ensures.name (k, c.into_mut.result.now) child here by (ap (λ (m : BTreeMap Key Value). m.entries) is ∙ update.1 child)
    (ap (λ (m : BTreeMap Key Value). keys_of m.entries) is ∙ stay (ap is_some c.into_mut.ensures.value) child) on)
    (c.pass_value.ensures text h tail k (simple_key c.part-item.result) (placed-rest text h tail c.args.parts.now _ c.args.array c.args.value keys.1 placed)) in
    rw front (on _ (search (rules, same)))

pub place_table-returns-in_ok-made-in-Ok-Vacant : goal.place_table-returns-in_ok-made-in-Ok-Vacant
place_table-returns-in_ok-made-in-Ok-Vacant t c = λ text h tail placed.
    let o = c.in-Ok-Vacant in
    let clone = c.in-Ok in
    let front = parts-first c.args.parts.now c.part-item.result _ c.in-len1-up.len_at_least c.part-item.is in
    let keys = front_right text c.args.parts.now c.part-item.result _ c.in-len1-up.len_at_least c.part-item.is placed.keys in
    let none = rw o.field-0-is at o.ensures.found in
    let update = rw o.field-0-is at o.ensures.update in
    let same = rw o.field-0-is at o.ensures.same_map in
    let made = c.in_ok-made-in-Ok-Vacant.made in
    let key = key-for text clone.key c.part-item.result clone.ensures.name clone.ensures.span clone.ensures.borrowed clone.ensures.owned keys.0 in
    let written = update.1 c.insert.result.now ∙ ap (insert_entry key_cmp c.args.table.now.entries clone.key) c.insert.ensures.value in
    let on = λ (new : BTreeMap Key Value) (is : new ≡ map_with_value (Entry.Vacant o.entry) c.insert.result.now).
    vacant text h tail (simple_key c.part-item.result) _ c.args.table.now new clone.key clone.ensures.name made (entry-missing (cow_str_bytes clone.key.name) c.args.table.now.entries none) (ap (λ (m : BTreeMap Key Value). m.entries) is ∙ written)
    (c.in_ok-made-in-Ok-Vacant.ensures text h tail clone.key c.part-item.result (placed-rest text h tail c.args.parts.now _ c.args.array c.args.value keys.1 placed) key) in
    rw front (on _ (search (rules, same)))
