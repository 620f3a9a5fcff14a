use Rattle.std.proofs.Common.{◌∙◌, ap, cond, drop, sym}
use Rattle.std.proofs.lemmas.Bool.{false≢true}
use Rattle.toml_span_check.proofs.Boundaries.{boundary, no-boundary}
use Rattle.toml_span_check.proofs.folder.rest_from.Goals as goal

pub returns-then-is_char_boundary : goal.returns-then-is_char_boundary
returns-then-is_char_boundary c =
    let path = c.args.path.now in
    let n = c.args.length in
    let cut = c.is_char_boundary.ensures.test.0 c.if-is_char_boundary.true in
    c.range_from.ensures.value ∙ ap (λ t. cond t (drop n path) path) (sym (boundary path n cut))

pub returns-else-is_char_boundary : goal.returns-else-is_char_boundary
returns-else-is_char_boundary c =
    let path = c.args.path.now in
    let n = c.args.length in
    let uncut = no-boundary path n (λ cut. false≢true (sym c.if-is_char_boundary.false ∙ c.is_char_boundary.ensures.test.1 cut)) in
    ap (λ t. cond t (drop n path) path) (sym uncut)
