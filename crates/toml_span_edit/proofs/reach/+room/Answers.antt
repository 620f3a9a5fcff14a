use Rattle.toml_span_lex.proofs.Common.{arith, nat_tests, common_steps, ◌≡◌, ◌≤◌, length, get_or, Some, ap, ◌∙◌}
use Rattle.toml_span_tree.specs.Value.{inner_of, view}
use Rattle.toml_span_edit.specs.Kept as spec
use Rattle.toml_span_edit.proofs.Around.{room_next}
use Rattle.toml_span_edit.proofs.Steps.{no_name}
use Rattle.toml_span_edit.proofs.reach.+room.Goals as goal

pub returns : goal.returns
returns t c =
    let text = c.args.text.now in
    let path = c.args.path.now in
    let n = view c.args.value.now in
    let key = c.in_ok-key.key in
    let m = view c.in_ok-key.below.now in
    let few : 2 ≤ length path = grind (arith, nat_tests, common_steps) in
    let is : spec.named (get_or path 0 no_name).now (inner_of n) ≡ Some (key, m) = grind (arith, nat_tests, common_steps) in
    c.room.ensures
    ∙ room_next text path c.args.outer c.held_in-held.result key n m few is
    (c.held_in-held.ensures ∙ ap (λ s. spec.held_in text n s c.args.outer) (c.with_key-span.ensures ∙ ap (λ r. spec.with_key key r) c.reach.ensures))
