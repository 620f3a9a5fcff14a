use Rattle.toml_span_lex.proofs.Common.{◌≡◌, Some, [], ◌∷◌, is_eq, rules, refl, sym, ap, ◌∙◌, BTreeMap, insert_entry, map_with_value, Entry}
use Rattle.toml_span_lex.specs.declared.key.Key.{Key}
use Rattle.toml_span_tree.specs.declared.value.Value.{Value}
use Rattle.toml_span_read.proofs.EarlierTree.{key_cmp, same_name}
use Rattle.toml_span_read.specs.Data.{simple_key}
use Rattle.toml_span.specs.Claims.{pair_info}
use Rattle.toml_span.specs.declared.claims.ClaimKind.TheVariants.{Assigned}
use Rattle.toml_span.specs.declared.branch.Branch.TheViews.{out-Branch}
use Rattle.toml_span.proofs.Assigned.{refused-child, refused-value, assigned-err, assigned-ok, sets-value, missing-free}
use Rattle.toml_span.proofs.Placed.{assigned_twice, err-of}
use Rattle.toml_span.proofs.Borrowing.{keeps_value}
use Rattle.toml_span.proofs.KeyMaps.{entry-found, entry-missing}
use Rattle.toml_span.proofs.scopes.assign.Goals as goal

pub returns-in_err-check_beside_table-clause-places : goal.returns-in_err-check_beside_table-clause-places
returns-in_err-check_beside_table-clause-places c = λ v value span.
    refused-child c.args.node.now _ c.args.key v c.from_residual.result c.in_err-check_beside_table.field-0.0 c.pair_info-info.result _ _
    (c.pair_info-info.ensures ∙ ap (pair_info Assigned c.args.key.span) span) (err-of c.from_residual.result c.in_err-check_beside_table.field-0.0 _ c.from_residual.ensures.1 (λ y p. p)) c.in_err-check_beside_table.ensures

pub returns-in_err-value-in-Vacant-clause-places : goal.returns-in_err-value-in-Vacant-clause-places
returns-in_err-value-in-Vacant-clause-places c = λ v value span.
    let none = rw c.in-Vacant.is at c.in_ok-entry.ensures.found in
    assigned-err c.args.node.now _ c.args.key v c.args.value c.from_residual-in_err-value-in-Vacant.result c.in_err-value-in-Vacant.field-0.0 c.pair_info-info.result _
    (ap (λ m. m.kind) c.pair_info-info.ensures) c.in_ok-check_beside_table.ensures.0 (entry-missing (simple_key c.args.key).name (out-Branch c.args.node.now).values.entries none)
    c.in_err-value-in-Vacant.was (err-of c.from_residual-in_err-value-in-Vacant.result c.in_err-value-in-Vacant.field-0.0 _ c.from_residual-in_err-value-in-Vacant.ensures.1 (λ y p. p)) value

pub returns-in-Occupied-clause-places : goal.returns-in-Occupied-clause-places
returns-in-Occupied-clause-places c = λ v value span before.
    let earlier = c.key-earlier.result.now in
    let key = rw c.in-Occupied.is at c.in_ok-entry.ensures.found in
    let same = rw c.in-Occupied.is at c.in_ok-entry.ensures.same_key in
    let stands = rw c.in-Occupied.is at c.in_ok-entry.ensures.value in
    let found = entry-found (simple_key c.args.key).name (out-Branch c.args.node.now).values.entries (earlier, c.get.result.now) (key.1 ∙ ap (λ k. Some k) (sym c.key-earlier.ensures)) (sym stands ∙ c.get.ensures) in
    refused-value c.args.node.now _ c.args.key earlier c.get.result.now v c.check_clash.result (c.pair_info.result ∷ []) c.pair_info-info.result (simple_key earlier).name _ _
    (λ before. missing-free c.args.node.now (simple_key c.args.key).name c.pair_info-info.result (simple_key c.args.key).name before (ap (λ m. m.kind) c.pair_info-info.ensures) c.in_ok-check_beside_table.ensures.0)
    found (ap (λ m. m ∷ []) c.pair_info.ensures) (ap (λ k. (simple_key k).name) c.key-earlier.ensures ∙ sym (same_name (simple_key c.args.key).name _ (ap is_eq same)))
    (c.pair_info-info.ensures ∙ ap (pair_info Assigned c.args.key.span) span) c.check_clash.ensures before

pub returns-in_ok-value-in-Vacant-clause-places : goal.returns-in_ok-value-in-Vacant-clause-places
returns-in_ok-value-in-Vacant-clause-places c = λ v value span before.
    let n = out-Branch c.args.node.now in
    let none = rw c.in-Vacant.is at c.in_ok-entry.ensures.found in
    let free = entry-missing (simple_key c.args.key).name n.values.entries none in
    let same = rw c.in-Vacant.is at c.in_ok-entry.ensures.same_map in
    let update = rw c.in-Vacant.is at c.in_ok-entry.ensures.update in
    let written = update.1 c.insert.result.now ∙ ap (insert_entry key_cmp n.values.entries c.args.key) c.insert.ensures.value in
    let places = λ (values : BTreeMap Key Value) (is : values ≡ map_with_value (Entry.Vacant c.in-Vacant.entry) c.insert.result.now).
    assigned-ok c.args.node.now _ c.args.key c.in_ok-value-in-Vacant.field-0 v c.args.value c.pair_info-info.result
    (ap (λ m. m.kind) c.pair_info-info.ensures) c.in_ok-check_beside_table.ensures.0 free c.in_ok-value-in-Vacant.was value
    (sets-value c.args.node.now (record { infos = n.infos; values = values; tables = n.tables; entries = n.entries }) c.args.key c.in_ok-value-in-Vacant.field-0 free refl refl refl (ap (λ (m : BTreeMap Key Value). m.entries) is ∙ written)) before in
    places _ (search (rules, same))

pub returns-in-Occupied-clause-borrows : goal.returns-in-Occupied-clause-borrows
returns-in-Occupied-clause-borrows c = λ text key value before.
    assigned_twice c.check_clash.result c.pair_info.result c.pair_info-info.result _ _ _ (ap (λ m. m.kind) c.pair_info.ensures) (ap (λ m. m.kind) c.pair_info-info.ensures) c.check_clash.ensures

pub returns-in_ok-value-in-Vacant-clause-borrows : goal.returns-in_ok-value-in-Vacant-clause-borrows
returns-in_ok-value-in-Vacant-clause-borrows c = λ text key value before.
    let n = out-Branch c.args.node.now in
    let none = rw c.in-Vacant.is at c.in_ok-entry.ensures.found in
    let free = entry-missing (simple_key c.args.key).name n.values.entries none in
    let same = rw c.in-Vacant.is at c.in_ok-entry.ensures.same_map in
    let update = rw c.in-Vacant.is at c.in_ok-entry.ensures.update in
    let written = update.1 c.insert.result.now ∙ ap (insert_entry key_cmp n.values.entries c.args.key) c.insert.ensures.value in
    let right = rw c.in_ok-value-in-Vacant.was at value in
    let places = λ (values : BTreeMap Key Value) (is : values ≡ map_with_value (Entry.Vacant c.in-Vacant.entry) c.insert.result.now).
    keeps_value text c.args.node.now (record { infos = n.infos; values = values; tables = n.tables; entries = n.entries }) c.args.key c.in_ok-value-in-Vacant.field-0 free refl refl refl
    (ap (λ (m : BTreeMap Key Value). m.entries) is ∙ written) key right before in
    places _ (search (rules, same))
