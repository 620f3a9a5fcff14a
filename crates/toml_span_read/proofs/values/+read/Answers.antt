use Rattle.toml_span_lex.proofs.Common.{arith, inl, inr, or_left, Ok, Err, rules, refl, ap, ◌≡◌, ◌+◌, ◌-◌, length, get_or, true}
use Rattle.toml_span_read.specs.Data.{parts, parsed_value, parsed_assignment}
use Rattle.toml_span_read.specs.Read as read
use Rattle.toml_span_read.specs.Read.{ends, goes_on, stops as stops_there}
use Rattle.toml_span_read.specs.code.Values.{value_found, assignment_found}
use Rattle.toml_span_read.specs.Faults.{opens_nested}
use Rattle.toml_span_read.specs.Borrowed.{IsWrittenRight, written, assignment_written}
use Rattle.toml_span_read.proofs.BorrowLemmas.{joined_more, assignment_right}
use Rattle.toml_span_read.proofs.EarlierLemmas.{added_clear, added_fault}
use Rattle.toml_span_read.proofs.CrossingPlaces.{crossing_placed, pair_spanned}
use Rattle.toml_span_read.proofs.KeyLemmas.{handed_on, parts_length}
use Rattle.toml_span_read.proofs.FaultPlaces.{so_told}
use Rattle.toml_span_read.proofs.ValueRead.{begun_deep, array_begins, table_begins, levels, map_end}
use Rattle.toml_span_read.proofs.values.+read.Goals as goal

pub value-returns-in-91-clause-value : goal.value-returns-in-91-clause-value
value-returns-in-91-clause-value t c =
    let b : opens_nested (get_or c.args.text.now c.args.at 0) ≡ true = search rules in
    begun_deep c.too_deep.result c.args.text.now c.args.limit c.args.depth c.args.at (omega arith) (or_left _ _ b) c.too_deep.ensures.fault

-- ---- arrays

pub array-items-init : goal.array-items-init
array-items-init t c =
    let e = c.new-items.ensures.items in
    let g = c.opened-next.ensures in
    record {
      forward = g.further.on;
      boundary = g.further.boundary;
      borrows = rw e tt;
      from = rw e (array_begins c.args.text.now c.args.limit c.args.depth c.args.at c.opened-next.result (omega arith) c.requires.1.1.1.0 g.run);
    }

pub array-items-preserved : goal.array-items-preserved
array-items-preserved t c =
    let v = c.in-Ok.ensures in
    let s = c.in-Comma.ensures in
    let more = map_end parsed_value c.items.items.items c.add.new.items.items c.in-Ok.found.0 c.in_default.ensures in
    record {
      forward = omega (arith, v.advances.on, s.1.on, c.items.invariant.forward);
      boundary = s.1.boundary;
      borrows = joined_more (IsWrittenRight c.args.text.now) written c.items.items.items c.add.new.items.items c.in-Ok.found.0 c.in_default.ensures c.items.invariant.borrows v.borrows;
      from = rw more (λ r rest. c.items.invariant.from r (goes_on _ _ r (inr (search rules, inl (value_found c.in-Ok.found, v.value, (s.0.at, s.0.before, inl (rw s.0.here refl, (_, s.0.after, refl)))))) rest));
    }

pub array-returns-in-Err-clause-value : goal.array-returns-in-Err-clause-value
array-returns-in-Err-clause-value t c =
    so_told _ _ c.in-Err.stop c.in-Err.ensures.value (λ e h. c.items.invariant.from (Err e) (stops_there _ e (inr (search rules, inr (e, h, refl)))))

pub array-returns-in-Closed-clause-borrows : goal.array-returns-in-Closed-clause-borrows
array-returns-in-Closed-clause-borrows t c =
    rw c.array_of-in-Closed.ensures.written
    (joined_more (IsWrittenRight c.args.text.now) written c.items.items.items c.add.new.items.items c.in-Ok.found.0 c.in_default.ensures c.items.invariant.borrows c.in-Ok.ensures.borrows)

pub array-returns-in-Closed-clause-value : goal.array-returns-in-Closed-clause-value
array-returns-in-Closed-clause-value t c =
    let more = map_end parsed_value c.items.items.items c.add.new.items.items c.in-Ok.found.0 c.in_default.ensures in
    let s = c.in-Closed.ensures.0 in
    rw (c.array_of-in-Closed.ensures.parsed_value, more)
    (c.items.invariant.from (Ok (read.array_end _ _)) (ends _ _ (inr (search rules, inl (value_found c.in-Ok.found, c.in-Ok.ensures.value, (s.at, s.before, inr (rw s.here refl, inl (rw s.here refl, rw s.ends refl))))))))

pub array-returns-in-Neither-clause-value : goal.array-returns-in-Neither-clause-value
array-returns-in-Neither-clause-value t c =
    let n = c.in-Neither.ensures.0 in
    so_told _ _ c.wanted.result c.wanted.ensures.fault (λ e (s, stands, is). c.items.invariant.from (Err e) (stops_there _ e
    (inr (search rules, inl (value_found c.in-Ok.found, c.in-Ok.ensures.value, (c.in-Neither.here, n.before, inr (n.no_comma, inr (n.no_bracket, (s, stands, ap (λ y. Err y) is)))))))))

pub array-returns-then-byte_at-eq93-clause-value : goal.array-returns-then-byte_at-eq93-clause-value
array-returns-then-byte_at-eq93-clause-value t c =
    rw (c.array_of.ensures.parsed_value, c.after_byte-close.ensures.value) (c.items.invariant.from (Ok (read.array_end _ _)) (ends _ _ (inl (search rules, refl))))

-- ---- inline tables

pub inline_table-pairs-init : goal.inline_table-pairs-init
inline_table-pairs-init t c =
    let e = c.new-pairs.ensures.items in
    let g = c.opened-next.ensures in
    record {
      forward = g.further.on;
      boundary = g.further.boundary;
      borrows = rw e tt;
      knows = rw e c.new-earlier.ensures;
      from = rw e (table_begins c.args.text.now c.args.limit c.args.depth c.args.at c.opened-next.result (omega arith) c.requires.1.1.1.0 g.run);
    }

pub inline_table-pairs-preserved : goal.inline_table-pairs-preserved
inline_table-pairs-preserved t c =
    let v = c.in-Ok.ensures in
    let a = c.in_default.ensures.adds in
    let s = c.in-Comma.ensures in
    let more = map_end parsed_assignment c.pairs.pairs.items c.add_clear.new.values.items c.in-Ok.found.0 a.0 in
    record {
      forward = omega (arith, v.advances.on, s.1.on, c.pairs.invariant.forward);
      boundary = s.1.boundary;
      borrows = joined_more (IsWrittenRight c.args.text.now) assignment_written c.pairs.pairs.items c.add_clear.new.values.items c.in-Ok.found.0 a.0 c.pairs.invariant.borrows v.borrows;
      knows = c.in_default.ensures.knows;
      from = rw more (λ r rest. c.pairs.invariant.from r (goes_on _ _ r (inr (search rules, inl (assignment_found c.in-Ok.found, v.pair, inl (_, added_clear _ _ a.1, (s.0.at, s.0.before, inl (rw s.0.here refl, (_, s.0.after, refl))))))) rest));
    }

pub inline_table-returns-in-Err-clause-value : goal.inline_table-returns-in-Err-clause-value
inline_table-returns-in-Err-clause-value t c =
    so_told _ _ c.in-Err.stop c.in-Err.ensures.pair (λ e h. c.pairs.invariant.from (Err e) (stops_there _ e (inr (search rules, inr (e, h, refl)))))

pub inline_table-returns-in-Err-add_clear-clause-advances : goal.inline_table-returns-in-Err-add_clear-clause-advances
inline_table-returns-in-Err-add_clear-clause-advances t c =
    crossing_placed c.in-Err-add_clear.stop c.args.text.now c.pairs.pairs.items c.add_clear.new.values.items c.in-Ok.found.0 c.in-Ok.found.1 c.in-Ok.ensures.advances.boundary.0
    (pair_spanned (parsed_assignment c.in-Ok.found.0) c.args.text.now c.args.limit c.args.depth c.pairs.next c.in-Ok.found.1 (omega arith) c.in-Ok.ensures.pair) c.in-Err-add_clear.ensures.adds

pub inline_table-returns-in-Err-add_clear-clause-value : goal.inline_table-returns-in-Err-add_clear-clause-value
inline_table-returns-in-Err-add_clear-clause-value t c =
    so_told _ _ c.in-Err-add_clear.stop c.in-Err-add_clear.ensures.adds
    (λ e h. c.pairs.invariant.from (Err e) (stops_there _ e (inr (search rules, inl (assignment_found c.in-Ok.found, c.in-Ok.ensures.pair, inr (e, added_fault _ _ e h, refl))))))

pub inline_table-returns-in-Closed-clause-borrows : goal.inline_table-returns-in-Closed-clause-borrows
inline_table-returns-in-Closed-clause-borrows t c =
    rw c.inline_of-in-Closed.ensures.written
    (joined_more (IsWrittenRight c.args.text.now) assignment_written c.pairs.pairs.items c.add_clear.new.values.items c.in-Ok.found.0 c.in_default.ensures.adds.0 c.pairs.invariant.borrows c.in-Ok.ensures.borrows)

pub inline_table-returns-in-Closed-clause-value : goal.inline_table-returns-in-Closed-clause-value
inline_table-returns-in-Closed-clause-value t c =
    let a = c.in_default.ensures.adds in
    let more = map_end parsed_assignment c.pairs.pairs.items c.add_clear.new.values.items c.in-Ok.found.0 a.0 in
    let s = c.in-Closed.ensures.0 in
    rw (c.inline_of-in-Closed.ensures.parsed_value, more)
    (c.pairs.invariant.from (Ok (read.table_end _ _)) (ends _ _
    (inr (search rules, inl (assignment_found c.in-Ok.found, c.in-Ok.ensures.pair, inl (_, added_clear _ _ a.1, (s.at, s.before, inr (rw s.here refl, inl (rw s.here refl, rw s.ends refl)))))))))

pub inline_table-returns-in-Neither-clause-value : goal.inline_table-returns-in-Neither-clause-value
inline_table-returns-in-Neither-clause-value t c =
    let n = c.in-Neither.ensures.0 in
    so_told _ _ c.wanted.result c.wanted.ensures.fault (λ e (s, stands, is). c.pairs.invariant.from (Err e) (stops_there _ e (inr (
      search rules,
      inl (
        assignment_found c.in-Ok.found,
        c.in-Ok.ensures.pair,
        inl (_, added_clear _ _ c.in_default.ensures.adds.1, (c.in-Neither.here, n.before, inr (n.no_comma, inr (n.no_bracket, (s, stands, ap (λ y. Err y) is))))),
      ),
    ))))

pub inline_table-returns-then-byte_at-eq125-clause-value : goal.inline_table-returns-then-byte_at-eq125-clause-value
inline_table-returns-then-byte_at-eq125-clause-value t c =
    rw (c.inline_of.ensures.parsed_value, c.after_byte-close.ensures.value) (c.pairs.invariant.from (Ok (read.table_end _ _)) (ends _ _ (inl (search rules, refl))))

-- ---- pairs

pub pair-returns-in_err-parts-clause-pair : goal.pair-returns-in_err-parts-clause-pair
pair-returns-in_err-parts-clause-pair t c =
    rw (handed_on c.from_residual.result c.in_err-parts.field-0.0 c.from_residual.ensures.1)
    (so_told _ _ c.in_err-parts.field-0.0 c.in_err-parts.ensures.key (λ e h. inr (e, h, refl)))

pub pair-returns-in-Err-clause-pair : goal.pair-returns-in-Err-clause-pair
pair-returns-in-Err-clause-pair t c =
    so_told _ _ c.wanted.result c.wanted.ensures.fault
    (λ e (s, stands, is). inl (_, c.in_ok-parts.ensures.key, (c.in-Err.here, c.in-Err.ensures.0, inr (c.in-Err.ensures.1, (s, stands, ap (λ y. Err y) is)))))

pub pair-returns-in-Ok-value-clause-pair : goal.pair-returns-in-Ok-value-clause-pair
pair-returns-in-Ok-value-clause-pair t c =
    let u : (c.args.limit + 1) - (c.args.depth + (c.len.result + 1)) ≡ ((c.args.limit + 1) - c.args.depth) - length (parts c.in_ok-parts.parts) =
    omega (arith, parts_length c.in_ok-parts.parts.inner.items c.in_ok-parts.parts.last, c.len.ensures) in
    let s = c.in-Ok.ensures.0 in
    inl (
      _,
      c.in_ok-parts.ensures.key,
      (
        s.at,
        s.before,
        inl (
          rw s.here refl,
          (
            c.in-Ok.from,
            s.after,
            inl (value_found (c.in-Ok-value.value, c.in-Ok-value.end), levels _ _ _ _ _ _ (rw u at c.in-Ok-value.ensures.value), rw c.assigned.ensures.parsed_assignment refl),
          ),
        ),
      ),
    )

pub pair-returns-clause-pair : goal.pair-returns-clause-pair
pair-returns-clause-pair t c =
    let u : (c.args.limit + 1) - (c.args.depth + (c.len.result + 1)) ≡ ((c.args.limit + 1) - c.args.depth) - length (parts c.in_ok-parts.parts) =
    omega (arith, parts_length c.in_ok-parts.parts.inner.items c.in_ok-parts.parts.last, c.len.ensures) in
    let s = c.in-Ok.ensures.0 in
    so_told _ _ c.in-Err-value.stop c.in-Err-value.ensures.value
    (λ e h. inl (_, c.in_ok-parts.ensures.key, (s.at, s.before, inl (rw s.here refl, (c.in-Ok.from, s.after, inr (e, levels _ _ _ _ _ _ (rw u at h), refl))))))

pub pair-returns-in-Ok-value-clause-borrows : goal.pair-returns-in-Ok-value-clause-borrows
pair-returns-in-Ok-value-clause-borrows t c = assignment_right c.args.text.now _ c.in_ok-parts.parts c.in-Ok-value.value c.assigned.ensures.written c.in_ok-parts.ensures.borrows c.in-Ok-value.ensures.borrows
