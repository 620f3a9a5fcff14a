use Rattle.toml_span_lex.proofs.Common.{◌≡◌, true, rules, arith, get_or, inl, inr, or_parts, or_right, refl, Err}
use Rattle.toml_span_read.specs.Faults.{begins_bare}
use Rattle.toml_span_read.proofs.BorrowLemmas.{scalar_right}
use Rattle.toml_span_read.proofs.FaultPlaces.{so_told}
use Rattle.toml_span_read.proofs.KeyLemmas.{handed_on}
use Rattle.toml_span_read.proofs.ValueRead.{plain_stops, begun_deep, bare_value}
use Rattle.toml_span_read.proofs.values.scalar.Goals as goal

pub returns-then-byte-ne43-clause-value : goal.returns-then-byte-ne43-clause-value
returns-then-byte-ne43-clause-value c =
    so_told _ _ c.no_value.result c.no_value.ensures.fault (λ e h. plain_stops c.args.text.now c.args.limit c.args.depth c.args.at e (or_parts _ _ c.requires.plain).0 (search rules) h)

pub returns-then-depth-limit-clause-value : goal.returns-then-depth-limit-clause-value
returns-then-depth-limit-clause-value c =
    let b : begins_bare (get_or c.args.text.now c.args.at 0) ≡ true = search rules in
    begun_deep c.too_deep.result c.args.text.now c.args.limit c.args.depth c.args.at (omega arith) (or_right _ _ b) c.too_deep.ensures.fault

pub returns-in_err-kind-clause-value : goal.returns-in_err-kind-clause-value
returns-in_err-kind-clause-value c =
    rw (handed_on c.from_residual.result c.in_err-kind.field-0.0 c.from_residual.ensures.1)
    (so_told _ _ c.in_err-kind.field-0.0 c.in_err-kind.ensures.scalar (λ e h. bare_value c.args.text.now c.args.limit c.args.depth c.args.at (Err e) (omega arith) (search rules) (inr (e, h, refl))))

pub returns-clause-value : goal.returns-clause-value
returns-clause-value c =
    let (s, is, h) = c.in_ok-kind.ensures.scalar in
    rw (c.scalar_of.ensures.parsed_value, is) (bare_value c.args.text.now c.args.limit c.args.depth c.args.at _ (omega arith) (search rules) (inl ((s, c.in_ok-kind.end), h, refl)))

pub returns-clause-borrows : goal.returns-clause-borrows
returns-clause-borrows c =
    scalar_right _ c.in_ok-kind.kind _ c.args.text.now c.args.at c.in_ok-kind.end (search rules) c.in_ok-kind.ensures.scalar c.scalar_of.ensures.written
