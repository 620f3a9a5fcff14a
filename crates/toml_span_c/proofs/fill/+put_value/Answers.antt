-- The walks down, one value at a time.
use Rattle.toml_span_lex.proofs.Common.{◌≡◌, ◌+◌, ℕ, [], nat_tests, common_steps, suc, Some, None, sym, ap, ◌∙◌, arith, length, drop, option_map, zero-add, refl, drop_all, cow_str_bytes}
use Rattle.toml_span_tree.specs.Value.{view, inner_of}
use Rattle.toml_span_tree.proofs.Sizes.{items_size-next, members_size-next}
use Rattle.toml_span_c.specs.Records.{no_span, record_of, entry_strings, node_entries, held_entries}
use Rattle.toml_span_c.specs.code.Sites.{begun}
use Rattle.toml_span_c.specs.declared.records.Record.{Record}
use Rattle.toml_span_c.proofs.Puts.{puts-none, puts-own, fits-own, fits-same}
use Rattle.toml_span_c.proofs.Walks.{items_left, members_left, upto-begin, upto-more, upto-all, items-split, members-split, entries-taken, entries-held, own_entry}
use Rattle.toml_span_c.proofs.fill.+put_value.Goals as goal

pub put_elements-loop-position-preserved : goal.put_elements-loop-position-preserved
put_elements-loop-position-preserved t c =
    let i = c.loop-position.position in
    let es = c.args.elements.now in
    let parent = c.args.parent in
    let element = c.index-elements-position.result in
    let here = sym c.index-elements-position.is in
    let below = c.loop-position-test.true in
    record {
      small = items_size-next i es element _ below here c.loop-position.invariant.small;
      so = λ k m at fits.
          upto-more _ k m (items_left parent i (drop i es)) (items_left parent (i + 1) (drop (i + 1) es)) (λ n. node_entries n parent i None no_span (view element)) _ _ _ _ _ _ _ _ _
          (λ n. items-split parent i n es element below here) c.put_value.ensures fits (c.loop-position.invariant.so k m at fits);
    }

pub put_elements-returns : goal.put_elements-returns
put_elements-returns t c k m at fits =
    let i = c.loop-position.position in
    let es = c.args.elements.now in
    upto-all _ k m (items_left c.args.parent i (drop i es)) _ _ _ _ _ _ (λ n. ap (λ l. items_left c.args.parent i l n) (drop_all i es c.loop-position-test.false)) (c.loop-position.invariant.so k m at fits)

pub put_entries-loop-key-preserved : goal.put_entries-loop-key-preserved
put_entries-loop-key-preserved t c =
    let key = c.in-Some.key.now in
    let value = c.in-Some.value.now in
    let i = c.loop-key.position in
    let parent = c.args.parent in
    let split = c.in-Some.ensures.steps in
    let one = ap (λ l. length l) split in
    record {
      place = omega (arith, c.loop-key.invariant.place, one);
      small = members_size-next c.loop-key.key-iterator c.next.new.self key value _ split c.loop-key.invariant.small;
      so = λ k m at fits.
          upto-more _ k m (members_left parent i c.loop-key.key-iterator) (members_left parent (i + 1) c.next.new.self) (λ n. node_entries n parent i (Some (cow_str_bytes key.name)) key.span (view value)) _ _ _ _ _ _ _ _ _
          (λ n. members-split parent i n c.loop-key.key-iterator c.next.new.self key value split)
          (λ n j here. rw (sym c.as_ref.ensures.value) (c.put_value.ensures n j here))
          fits (c.loop-key.invariant.so k m at fits);
    }

pub put_entries-returns : goal.put_entries-returns
put_entries-returns t c k m at fits =
    upto-all _ k m (members_left c.args.parent c.loop-key.position c.loop-key.key-iterator) _ _ _ _ _ _ (λ n. ap (λ l. members_left c.args.parent c.loop-key.position l n) c.in-None.ensures.steps.0) (c.loop-key.invariant.so k m at fits)

pub put_entries-overflow_add-position : goal.put_entries-overflow_add-position
put_entries-overflow_add-position t c = omega (arith, c.loop-key.invariant.place, ap (λ l. length l) c.in-Some.ensures.steps, c.iter-key-items.ensures.fits)

pub put_elements-loop-position-init : goal.put_elements-loop-position-init
put_elements-loop-position-init t c = record {
  small = omega arith;
  so = λ k m at fits. upto-begin _ k m (items_left c.args.parent 0 c.args.elements.now) _ _ _ at;
}

pub put_entries-loop-key-init : goal.put_entries-loop-key-init
put_entries-loop-key-init t c =
    let all = c.into_iter-key-iterator.ensures.into_iter_gives ∙ c.iter-key-items.ensures.rest in
    rw all (record {
      place = zero-add _;
      small = omega arith;
      so = λ k m at fits. upto-begin _ k m (members_left c.args.parent 0 c.args.table.now.entries) _ _ _ at;
    })

pub put_held-returns-in-Some : goal.put_held-returns-in-Some
put_held-returns-in-Some t c k m own at fits = grind (arith, nat_tests, common_steps, c.put_elements.ensures (suc k) m at)

pub put_held-returns-in-Some-as_table : goal.put_held-returns-in-Some-as_table
put_held-returns-in-Some-as_table t c k m own at fits = grind (arith, nat_tests, common_steps, c.put_entries.ensures (suc k) m at)

pub put_held-returns-in_default-as_table : goal.put_held-returns-in_default-as_table
put_held-returns-in_default-as_table t c k m own at fits =
    let none : held_entries k (inner_of (view c.args.value.now)) ≡ [] = grind (arith, nat_tests, common_steps) in
    rw none (puts-none _ (suc k) m _ _ _ at)

pub put_value-returns-then-is_taken : goal.put_value-returns-then-is_taken
put_value-returns-then-is_taken t c k m at fits =
    rw (entries-taken k c.args.site.parent c.args.site.position _ c.args.site.key_span (view c.args.value.now) (sym c.is_taken.ensures ∙ c.if-is_taken.true)) (puts-none _ k m _ _ _ at)

pub put_value-returns : goal.put_value-returns
put_value-returns t c k m at fits =
    let document = c.args.document.now in
    let value = c.args.value.now in
    let inner = inner_of (view value) in
    let site = c.args.site in
    let name = option_map (λ s. s.now) site.name in
    let kept = entries-held k site.parent site.position name site.key_span (view value) (sym c.is_taken.ensures ∙ c.if-is_taken.false) in
    let own = own_entry k site.parent site.position name site.key_span (view value) inner in
    let (own_fits, held_fits) = fits-own document k m own (held_entries k inner) (fits-same document k m _ _ kept fits) in
    let first = c.begin_record-record.ensures.put m at.strings own_fits in
    let after = m + length (entry_strings document (begun site value)) in
    let next : c.saturating_add-counts.result ≡ suc k = omega (arith, at.nodes, held_fits.few, c.saturating_add-counts.ensures) in
    let below = c.put_held.ensures k after at.nodes (record { nodes = next; strings = first.count }) held_fits in
    let begins = c.begin_record-record.ensures.begins m at.strings own_fits in
    let made = ap (λ (r : Record). record r { next = c.put_held.new.counts.nodes }) begins
    ∙ ap (λ (n : ℕ). record (record_of document m (begun site value)) { next = n }) below.counts.nodes in
    rw kept (puts-own document _ k m after own (held_entries k inner) _ _ _ _ _ _ _ _ refl made first.bytes below c.put_record.ensures at.nodes)
