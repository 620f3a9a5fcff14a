use Rattle.toml_span_lex.proofs.Common.{◌≤◌, ◌∙◌, ◌++◌, ap, arith, length, map, take_all}
use Rattle.toml_span_read.specs.Data.{parsed_assignment}
use Rattle.toml_span_format.specs.Entries.{key_names}
use Rattle.toml_span_format.specs.Keys.{part_names}
use Rattle.toml_span_format.proofs.NameLemmas.{names_of_all}
use Rattle.toml_span_format.proofs.keys.push_keys.Goals as goal

pub returns : goal.returns
returns c =
    let before = map key_names c.args.keys.now.items in
    let all = c.args.section.now.assignments.items in
    let past : length all ≤ c.loop-assignment.assignment-index = omega (arith, c.loop-assignment-test.false, ap length c.deref-assignment-items.ensures.value) in
    c.loop-assignment.invariant ∙ ap (λ l. before ++ map (λ a. part_names (parsed_assignment a).parts) l) (take_all c.loop-assignment.assignment-index all past)
    ∙ ap (λ l. before ++ l) (names_of_all all)
