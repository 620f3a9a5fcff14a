use Rattle.toml_span_lex.proofs.Common.{ℕ, List, get_or, string_bytes, subst}
use Rattle.toml_span_c.specs.Edits.{ChangeMade}
use Rattle.toml_span_c.proofs.Changes.{changes_next, no_change}
use Rattle.toml_span_c.proofs.edits.changes_made.Goals as goal

pub loop-index-preserved : goal.loop-index-preserved
loop-index-preserved c =
    let changes = c.args.changes.now in
    let index = c.loop-index.index in
    let after = string_bytes c.in_ok-new.new in
    changes_next changes index no_change c.args.text.now (string_bytes c.loop-index.new) after
    c.loop-index-test.true c.loop-index.invariant
    (subst (λ (text : List ℕ). ChangeMade (get_or changes index no_change) text after) c.as_str.ensures.value
    c.in_ok-new.ensures)
