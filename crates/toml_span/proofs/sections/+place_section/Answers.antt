use Rattle.toml_span_lex.proofs.Common.{arith, ◌-◌, ◌<◌, length, vec_len, ◌∙◌, [], map, refl, rules, sym, ⊤, map_with_value, false≢true, Entry, ap, is_some}
use Rattle.std.proofs.lemmas.Bool.{eqb-true}
use Rattle.toml_span_read.proofs.EarlierTree.{parts-first}
use Rattle.toml_span_read.specs.Data.{parsed_assignment, simple_key}
use Rattle.toml_span.specs.declared.claims.ClaimKind.TheVariants.{Passed}
use Rattle.toml_span.specs.declared.branch.Branch.TheViews.{out-Branch}
use Rattle.toml_span.specs.Claims.{assignments_claims, part_info}
use Rattle.toml_span.specs.code.Relative.{counts_after, section_at}
use Rattle.toml_span.specs.code.Tree.{IsScope, entries}
use Rattle.toml_span.proofs.Claimed.{marked-roll}
use Rattle.toml_span.proofs.Nodes.{roll-out}
use Rattle.toml_span.proofs.Headers.{descended, opening-err, no-latest, parts-below, parts-some, pass-again, pass-vec, section-beside, section-placed, section-free}
use Rattle.toml_span.proofs.Borrowing.{front_right, keeps_entry, keeps_found, keeps_marked, keeps_new, names_same}
use Rattle.toml_span.proofs.KeyMaps.{entry-missing}
use Rattle.toml_span.proofs.Placed.{err-of, looked, sets-entry, starts-found, starts-new, reported}
use Rattle.toml_span.proofs.sections.+place_section.Goals as goal

pub descend-returns-in_err-record_claim-clause-places : goal.descend-returns-in_err-record_claim-clause-places
descend-returns-in_err-record_claim-clause-places t c =
    opening-err c.args.head (simple_key c.args.part.now) IsScope Passed _ c.args.node.now _ c.from_residual.result c.in_err-record_claim.field-0.0 _ _
    (err-of c.from_residual.result c.in_err-record_claim.field-0.0 _ c.from_residual.ensures.1 (λ y p. p)) (rw c.part_info.ensures at c.in_err-record_claim.ensures)

pub descend-returns-clause-places : goal.descend-returns-clause-places
descend-returns-clause-places t c =
    let claimed = rw c.part_info.ensures at c.in_ok-record_claim.ensures in
    descended c.args.head (simple_key c.args.part.now) (assignments_claims (map parsed_assignment c.args.pairs.items) []) (map simple_key c.args.rest.now) c.args.node.now _ c.place_section.new.node c.place_section.result claimed.0
    (marked-roll (part_info c.args.head Passed c.args.part.now.span) c.args.node.now _ claimed.1 refl refl refl) c.place_section.ensures.places

pub pass_header-returns-then-is_empty-clause-places : goal.pass_header-returns-then-is_empty-clause-places
pass_header-returns-then-is_empty-clause-places t c = rw (parts-below c.args.rest.now (omega (arith, eqb-true (length c.args.rest.now) 0 (sym c.if-is_empty.ensures)))) c.end_header.ensures.places

pub pass_header-returns-in-Some-clause-places : goal.pass_header-returns-in-Some-clause-places
pass_header-returns-in-Some-clause-places t c =
    pass-vec c.args.head (simple_key c.args.part.now) (assignments_claims (map parsed_assignment c.args.pairs.items) []) (map simple_key c.args.rest.now) c.args.node.now c.in-Some.latest.now c.descend.new.node c.descend.result
    (parts-some c.args.rest.now (sym c.if-is_empty.ensures)) (c.in-Some.ensures.variant.0 refl) c.in-Some.ensures.value c.descend.ensures.places

pub pass_header-returns-in-None-clause-places : goal.pass_header-returns-in-None-clause-places
pass_header-returns-in-None-clause-places t c =
    pass-again c.args.head (simple_key c.args.part.now) (assignments_claims (map parsed_assignment c.args.pairs.items) []) (map simple_key c.args.rest.now) c.args.node.now c.descend-in-None.new.node c.descend-in-None.result
    (parts-some c.args.rest.now (sym c.if-is_empty.ensures)) (no-latest c.args.node.now (λ some. false≢true (c.in-None.ensures.variant.1 some))) c.descend-in-None.ensures.places

pub place_section-returns-in_default-clause-places : goal.place_section-returns-in_default-clause-places
unfolding section_at counts_after
place_section-returns-in_default-clause-places t c = rw (parts-below c.args.parts.now c.in_default.len_below) c.place_all.ensures.places

pub place_section-returns-in-Occupied-clause-places : goal.place_section-returns-in-Occupied-clause-places
place_section-returns-in-Occupied-clause-places t c =
    let n = out-Branch c.args.node.now in
    let front = parts-first c.args.parts.now c.part-item.result _ c.in-len1-up.len_at_least c.part-item.is in
    let clone = c.in_ok-clone in
    let stands = rw c.in-Occupied.is at c.in_ok-entry.ensures.value in
    let found = looked (simple_key c.part-item.result).name clone.field-0 n.tables _ clone.ensures.name (sym stands ∙ c.into_mut.ensures.value) in
    let update = rw c.in-Occupied.is at c.in_ok-entry.ensures.update in
    let same = rw c.in-Occupied.is at c.in_ok-entry.ensures.same_map in
    let box = c.pass_child.new.child in
    rw front (section-placed c.args.head (simple_key c.part-item.result)
    (assignments_claims (map parsed_assignment c.args.pairs.items) []) _ c.args.node.now _ c.into_mut.result.now.value box.value c.pass_child.result (starts-found _ _ _ found)
    (sets-entry c.args.node.now _ (map_with_value (Entry.Occupied c.in-Occupied.entry) box) (simple_key c.part-item.result).name clone.field-0 box clone.ensures.name (update.1 box) (search (rules, same))) c.pass_child.ensures.places)

pub place_section-returns-in_err-child-in-Vacant-clause-places : goal.place_section-returns-in_err-child-in-Vacant-clause-places
place_section-returns-in_err-child-in-Vacant-clause-places t c =
    let n = out-Branch c.args.node.now in
    let front = parts-first c.args.parts.now c.part-item.result _ c.in-len1-up.len_at_least c.part-item.is in
    let missing = looked (simple_key c.part-item.result).name c.in_ok-clone.field-0 n.tables _ c.in_ok-clone.ensures.name (rw c.in-Vacant.is at c.in_ok-entry.ensures.found) in
    let q = c.from_residual-in_err-child-in-Vacant in
    let e = c.in_err-child-in-Vacant.field-0.0 in
    let clash = rw (c.part_info-info.ensures, c.claim_kind.ensures) at (reported {B = Unit {0}} e _ _ (λ u. ⊤) c.in_err-child-in-Vacant.ensures) in
    rw front (section-beside c.args.head (simple_key c.part-item.result) (assignments_claims (map parsed_assignment c.args.pairs.items) []) _ c.args.node.now _ q.result e (λ u. ⊤) _ missing (err-of q.result e _ q.ensures.1 (λ y p. p)) clash)

pub place_section-returns-in_ok-child-in-Vacant-clause-places : goal.place_section-returns-in_ok-child-in-Vacant-clause-places
place_section-returns-in_ok-child-in-Vacant-clause-places t c =
    let n = out-Branch c.args.node.now in
    let front = parts-first c.args.parts.now c.part-item.result _ c.in-len1-up.len_at_least c.part-item.is in
    let missing = looked (simple_key c.part-item.result).name c.in_ok-clone.field-0 n.tables _ c.in_ok-clone.ensures.name (rw c.in-Vacant.is at c.in_ok-entry.ensures.found) in
    let fresh = rw (c.part_info-info.ensures, c.claim_kind.ensures) at c.in_ok-child-in-Vacant.ensures in
    let clone = c.in_ok-clone in
    let update = rw c.in-Vacant.is at c.in_ok-entry.ensures.update in
    let same = rw c.in-Vacant.is at c.in_ok-entry.ensures.same_map in
    let box = c.pass_child-in-Vacant.new.child in
    rw front (section-placed c.args.head (simple_key c.part-item.result)
    (assignments_claims (map parsed_assignment c.args.pairs.items) []) _ c.args.node.now _ c.insert.result.now.value box.value c.pass_child-in-Vacant.result
    (starts-new _ _ _ missing
    (section-free c.args.head (simple_key c.part-item.result) (assignments_claims (map parsed_assignment c.args.pairs.items) []) _ c.args.node.now fresh.0) (rw c.insert.ensures.value fresh.1))
    (sets-entry c.args.node.now _ (map_with_value (Entry.Vacant c.in-Vacant.entry) box) (simple_key c.part-item.result).name clone.field-0 box clone.ensures.name (update.1 box) (search (rules, same))) c.pass_child-in-Vacant.ensures.places)

pub pass_child-returns-clause-places : goal.pass_child-returns-clause-places
pass_child-returns-clause-places t c =
    rw c.as_mut.ensures.value at c.pass_header.ensures.places

-- ---- what is borrowed

pub descend-returns-clause-borrows : goal.descend-returns-clause-borrows
descend-returns-clause-borrows t c = λ text rest pairs.
    let claimed = rw c.part_info.ensures at c.in_ok-record_claim.ensures in
    keeps_marked text c.args.node.now _ (part_info c.args.head Passed c.args.part.now.span) c.args.part.now.span _ c.place_section.result refl claimed.1 refl refl refl (c.place_section.ensures.borrows text rest pairs)

pub pass_header-returns-then-is_empty-clause-borrows : goal.pass_header-returns-then-is_empty-clause-borrows
pass_header-returns-then-is_empty-clause-borrows t c = λ text rest pairs. c.end_header.ensures.borrows text pairs

pub pass_header-returns-in-Some-clause-borrows : goal.pass_header-returns-in-Some-clause-borrows
pass_header-returns-in-Some-clause-borrows t c = λ text rest pairs.
    let n = c.args.node.now in
    let some = c.in-Some.ensures.variant.0 refl in
    let within : vec_len (out-Branch n).entries - 1 < length (entries n) = omega (arith, (out-Branch n).entries.ok.0, some) in
    keeps_entry text c.args.part.now.span n _ (vec_len (out-Branch n).entries - 1) c.in-Some.latest.now c.descend.new.node c.descend.result refl refl refl refl within c.in-Some.ensures.value
    (c.descend.ensures.borrows text rest pairs)

pub pass_header-returns-in-None-clause-borrows : goal.pass_header-returns-in-None-clause-borrows
pass_header-returns-in-None-clause-borrows t c = λ text rest pairs.
    names_same text c.args.part.now.span _ c.args.node.now c.descend-in-None.new.node c.descend-in-None.result (roll-out c.args.node.now) (c.descend-in-None.ensures.borrows text rest pairs)

pub pass_child-returns-clause-borrows : goal.pass_child-returns-clause-borrows
pass_child-returns-clause-borrows t c = λ text rest pairs.
    names_same text c.args.part.now.span c.as_mut.result.now c.args.child.now.value _ c.pass_header.result c.as_mut.ensures.value (c.pass_header.ensures.borrows text rest pairs)

pub place_section-returns-in_default-clause-borrows : goal.place_section-returns-in_default-clause-borrows
place_section-returns-in_default-clause-borrows t c = λ text parts pairs. c.place_all.ensures.borrows text pairs

pub place_section-returns-in-Occupied-clause-borrows : goal.place_section-returns-in-Occupied-clause-borrows
place_section-returns-in-Occupied-clause-borrows t c = λ text parts pairs.
    let front = front_right text c.args.parts.now c.part-item.result _ c.in-len1-up.len_at_least c.part-item.is parts in
    let stands = rw c.in-Occupied.is at c.in_ok-entry.ensures.value in
    let update = rw c.in-Occupied.is at c.in_ok-entry.ensures.update in
    let same = rw c.in-Occupied.is at c.in_ok-entry.ensures.same_map in
    let stay = rw c.in-Occupied.is at c.in_ok-entry.ensures.keys_stay in
    let box = c.pass_child.new.child in
    keeps_found text c.args.node.now _ (map_with_value (Entry.Occupied c.in-Occupied.entry) box) c.in_ok-clone.field-0 c.into_mut.result.now box c.part-item.result.span c.pass_child.result (update.1 box)
    (search (rules, same)) (sym stands ∙ c.into_mut.ensures.value) (stay (ap is_some c.into_mut.ensures.value) box) (c.pass_child.ensures.borrows text front.1 pairs)

pub place_section-returns-in_ok-child-in-Vacant-clause-borrows : goal.place_section-returns-in_ok-child-in-Vacant-clause-borrows
place_section-returns-in_ok-child-in-Vacant-clause-borrows t c = λ text parts pairs.
    let front = front_right text c.args.parts.now c.part-item.result _ c.in-len1-up.len_at_least c.part-item.is parts in
    let clone = c.in_ok-clone in
    let update = rw c.in-Vacant.is at c.in_ok-entry.ensures.update in
    let same = rw c.in-Vacant.is at c.in_ok-entry.ensures.same_map in
    let none = rw c.in-Vacant.is at c.in_ok-entry.ensures.found in
    let box = c.pass_child-in-Vacant.new.child in
    keeps_new text c.args.node.now _ (map_with_value (Entry.Vacant c.in-Vacant.entry) box) c.part-item.result clone.field-0 _ box c.pass_child-in-Vacant.result clone.ensures.name clone.ensures.borrowed clone.ensures.owned (update.1 box)
    (search (rules, same)) (entry-missing (simple_key clone.field-0).name (out-Branch c.args.node.now).tables.entries none) (rw c.insert.ensures.value c.in_ok-child-in-Vacant.ensures.1) front.0 (c.pass_child-in-Vacant.ensures.borrows text front.1 pairs)
