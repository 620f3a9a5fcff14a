use Rattle.toml_span_lex.proofs.Common.{map, is_some, rules, refl, sym, ap, ◌∙◌, ⊤, map_with_value, Entry}
use Rattle.toml_span_read.specs.Data.{simple_key}
use Rattle.toml_span_read.proofs.EarlierTree.{parts-first}
use Rattle.toml_span.specs.Claims.{pair_info}
use Rattle.toml_span.specs.declared.claims.ClaimKind.TheVariants.{Dotted}
use Rattle.toml_span.specs.declared.branch.Branch.TheViews.{out-Branch}
use Rattle.toml_span.proofs.Claimed.{marked-roll}
use Rattle.toml_span.proofs.Headers.{passes-dotted, passes-dotted-err, pair-placed, pair-beside}
use Rattle.toml_span.proofs.Placed.{err-of, looked, sets-entry, starts-found, starts-new, reported, unclosed}
use Rattle.toml_span.proofs.KeyMaps.{entry-missing}
use Rattle.toml_span.proofs.Borrowing.{front_right, keeps_found, keeps_marked, keeps_new, names_same}
use Rattle.toml_span.specs.code.Tree.{is_entry_kind}
use Rattle.toml_span.proofs.scopes.+place_pair.Goals as goal

pub pass_pair-returns-in_err-record_claim-clause-places : goal.pass_pair-returns-in_err-record_claim-clause-places
pass_pair-returns-in_err-record_claim-clause-places t c = λ d v due value span.
    passes-dotted-err c.args.node.now _ (simple_key c.args.part.now) (map simple_key c.args.rest.now) (simple_key d.last) v c.pair_info.result c.from_residual.result c.in_err-record_claim.field-0.0 _ _
    (c.pair_info.ensures ∙ ap (pair_info Dotted c.args.part.now.span) span) (err-of c.from_residual.result c.in_err-record_claim.field-0.0 _ c.from_residual.ensures.1 (λ y p. p)) c.in_err-record_claim.ensures

pub pass_pair-returns-clause-places : goal.pass_pair-returns-clause-places
pass_pair-returns-clause-places t c = λ d v due value span.
    passes-dotted c.args.node.now _ _ (simple_key c.args.part.now) (map simple_key c.args.rest.now) (simple_key d.last) v c.pair_info.result c.place_pair.result
    (c.pair_info.ensures ∙ ap (pair_info Dotted c.args.part.now.span) span) c.in_ok-record_claim.ensures.0
    (marked-roll c.pair_info.result c.args.node.now _ c.in_ok-record_claim.ensures.1 refl refl refl) (c.place_pair.ensures.places d v due value span)

pub pass_pair-returns-clause-borrows : goal.pass_pair-returns-clause-borrows
pass_pair-returns-clause-borrows t c = λ text d due rest last value.
    keeps_marked text c.args.node.now _ c.pair_info.result c.args.part.now.span _ c.place_pair.result (ap (λ m. m.key) c.pair_info.ensures) c.in_ok-record_claim.ensures.1 refl refl refl
    (c.place_pair.ensures.borrows text d due rest last value)

pub pass_child-returns-clause-borrows : goal.pass_child-returns-clause-borrows
pass_child-returns-clause-borrows t c = λ text d due rest last value.
    names_same text c.args.part.now.span c.as_mut.result.now c.args.child.now.value _ c.pass_pair.result c.as_mut.ensures.value (c.pass_pair.ensures.borrows text d due rest last value)

pub place_pair-returns-in_default-clause-borrows : goal.place_pair-returns-in_default-clause-borrows
place_pair-returns-in_default-clause-borrows t c = λ text d due parts last value. c.assign_pending.ensures.borrows text d due last value

pub place_pair-returns-in_err-child-in-Vacant-clause-places : goal.place_pair-returns-in_err-child-in-Vacant-clause-places
place_pair-returns-in_err-child-in-Vacant-clause-places t c = λ d v due value span.
    let n = out-Branch c.args.node.now in
    let front = parts-first c.args.inner.now c.part-item.result _ c.in-len1-up.len_at_least c.part-item.is in
    let missing = looked (simple_key c.part-item.result).name c.in_ok-clone.field-0 n.tables _ c.in_ok-clone.ensures.name (rw c.in-Vacant.is at c.in_ok-entry.ensures.found) in
    let q = c.from_residual-in_err-child-in-Vacant in
    let e = c.in_err-child-in-Vacant.field-0.0 in
    rw front
    (pair-beside c.args.node.now _ (simple_key c.part-item.result) _ (simple_key d.last) v c.pair_info-info.result q.result e (λ u. ⊤) _ missing (c.pair_info-info.ensures ∙ ap (pair_info Dotted c.part-item.result.span) span)
    (err-of q.result e _ q.ensures.1 (λ y p. p)) (reported e _ _ (λ u. ⊤) c.in_err-child-in-Vacant.ensures))

pub place_pair-returns-in-Occupied-clause-places : goal.place_pair-returns-in-Occupied-clause-places
place_pair-returns-in-Occupied-clause-places t c = λ d v due value span.
    let n = out-Branch c.args.node.now in
    let front = parts-first c.args.inner.now c.part-item.result _ c.in-len1-up.len_at_least c.part-item.is in
    let clone = c.in_ok-clone in
    let stands = rw c.in-Occupied.is at c.in_ok-entry.ensures.value in
    let found = looked (simple_key c.part-item.result).name clone.field-0 n.tables _ clone.ensures.name (sym stands ∙ c.into_mut.ensures.value) in
    let update = rw c.in-Occupied.is at c.in_ok-entry.ensures.update in
    let same = rw c.in-Occupied.is at c.in_ok-entry.ensures.same_map in
    let box = c.pass_child.new.child in
    rw front (pair-placed c.args.node.now _ c.into_mut.result.now.value box.value (simple_key c.part-item.result) _ (simple_key d.last) v c.pass_child.result (starts-found _ _ _ found)
    (sets-entry c.args.node.now _ (map_with_value (Entry.Occupied c.in-Occupied.entry) box) (simple_key c.part-item.result).name clone.field-0 box clone.ensures.name (update.1 box) (search (rules, same))) (c.pass_child.ensures.places d v due value span))

pub place_pair-returns-in_ok-child-in-Vacant-clause-places : goal.place_pair-returns-in_ok-child-in-Vacant-clause-places
place_pair-returns-in_ok-child-in-Vacant-clause-places t c = λ d v due value span.
    let n = out-Branch c.args.node.now in
    let front = parts-first c.args.inner.now c.part-item.result _ c.in-len1-up.len_at_least c.part-item.is in
    let missing = looked (simple_key c.part-item.result).name c.in_ok-clone.field-0 n.tables _ c.in_ok-clone.ensures.name (rw c.in-Vacant.is at c.in_ok-entry.ensures.found) in
    let clone = c.in_ok-clone in
    let fresh = c.in_ok-child-in-Vacant.ensures in
    let update = rw c.in-Vacant.is at c.in_ok-entry.ensures.update in
    let same = rw c.in-Vacant.is at c.in_ok-entry.ensures.same_map in
    let box = c.pass_child-in-Vacant.new.child in
    rw front (pair-placed c.args.node.now _ c.insert.result.now.value box.value (simple_key c.part-item.result) _ (simple_key d.last) v c.pass_child-in-Vacant.result
    (starts-new _ _ _ missing (unclosed _ c.pair_info-info.result _ fresh.0 (ap (λ m. is_entry_kind m.kind) c.pair_info-info.ensures)) (rw c.insert.ensures.value fresh.1))
    (sets-entry c.args.node.now _ (map_with_value (Entry.Vacant c.in-Vacant.entry) box) (simple_key c.part-item.result).name clone.field-0 box clone.ensures.name (update.1 box) (search (rules, same))) (c.pass_child-in-Vacant.ensures.places d v due value span))

pub place_pair-returns-in-Occupied-clause-borrows : goal.place_pair-returns-in-Occupied-clause-borrows
place_pair-returns-in-Occupied-clause-borrows t c = λ text d due parts last value.
    let front = front_right text c.args.inner.now c.part-item.result _ c.in-len1-up.len_at_least c.part-item.is parts in
    let stands = rw c.in-Occupied.is at c.in_ok-entry.ensures.value in
    let update = rw c.in-Occupied.is at c.in_ok-entry.ensures.update in
    let same = rw c.in-Occupied.is at c.in_ok-entry.ensures.same_map in
    let stay = rw c.in-Occupied.is at c.in_ok-entry.ensures.keys_stay in
    let box = c.pass_child.new.child in
    keeps_found text c.args.node.now _ (map_with_value (Entry.Occupied c.in-Occupied.entry) box) c.in_ok-clone.field-0 c.into_mut.result.now box c.part-item.result.span c.pass_child.result (update.1 box)
    (search (rules, same)) (sym stands ∙ c.into_mut.ensures.value) (stay (ap is_some c.into_mut.ensures.value) box) (c.pass_child.ensures.borrows text d due front.1 last value)

pub place_pair-returns-in_ok-child-in-Vacant-clause-borrows : goal.place_pair-returns-in_ok-child-in-Vacant-clause-borrows
place_pair-returns-in_ok-child-in-Vacant-clause-borrows t c = λ text d due parts last value.
    let front = front_right text c.args.inner.now c.part-item.result _ c.in-len1-up.len_at_least c.part-item.is parts in
    let clone = c.in_ok-clone in
    let update = rw c.in-Vacant.is at c.in_ok-entry.ensures.update in
    let same = rw c.in-Vacant.is at c.in_ok-entry.ensures.same_map in
    let none = rw c.in-Vacant.is at c.in_ok-entry.ensures.found in
    let box = c.pass_child-in-Vacant.new.child in
    keeps_new text c.args.node.now _ (map_with_value (Entry.Vacant c.in-Vacant.entry) box) c.part-item.result clone.field-0 _ box c.pass_child-in-Vacant.result clone.ensures.name clone.ensures.borrowed clone.ensures.owned (update.1 box)
    (search (rules, same)) (entry-missing (simple_key clone.field-0).name (out-Branch c.args.node.now).tables.entries none) (rw c.insert.ensures.value c.in_ok-child-in-Vacant.ensures.1) front.0 (c.pass_child-in-Vacant.ensures.borrows text d due front.1 last value)
