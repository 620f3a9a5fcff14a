use Rattle.toml_span_lex.proofs.Common.{◌≡◌, List, [], ◌∷◌, ◌++◌, ap, sym, ◌∙◌, append_assoc, arith, common_steps}
use Rattle.toml_span_tree.specs.Value.{all_members_whole, is_whole, members_view, view}
use Rattle.toml_span_tree.proofs.Values.{Entry}
use Rattle.toml_span_tree.specs.code.Errors.{all_of_option}
use Rattle.toml_span_typed.proofs.Maps.{entry_more}
use Rattle.toml_span_typed.proofs.Whole.{right}
use Rattle.toml_span_typed.proofs.deserialize.maps.read_entries.Goals as goal

pub loop-key-preserved : goal.loop-key-preserved
loop-key-preserved g c =
    let e : Entry = (c.in-Some.key, c.in-Some.item) in
    let before = c.loop-key.yielded in
    let after = c.next.new.self in
    let step : c.loop-key.key-iterator ≡ e ∷ after = c.in-Some.ensures.steps in
    record {
      rest = append_assoc before (e ∷ []) after ∙ ap (λ (es : List Entry). before ++ es) (sym step) ∙ c.loop-key.invariant.rest;
      whole = right (is_whole (view c.in-Some.item)) (all_members_whole (members_view after)) (rw step at c.loop-key.invariant.whole);
      done = entry_more _ before e _ _ _ _ c.loop-key.invariant.done c.in_default.ensures;
    }

pub returns-in-None-from_list : goal.returns-in-None-from_list
returns-in-None-from_list g c =
    let ends : c.loop-key.yielded ≡ c.args.table.entries = grind (arith, common_steps) in
    let done = c.loop-key.invariant.done in
    let none = sym c.from_list.ensures ∙ ap all_of_option c.in-None-from_list.is in
    rw (sym ends) (done.0, done.1, done.2, done.3 ∙ none)

pub returns : goal.returns
returns g c =
    let ends : c.loop-key.yielded ≡ c.args.table.entries = grind (arith, common_steps) in
    let done = c.loop-key.invariant.done in
    let some = sym c.from_list.ensures ∙ ap all_of_option c.in-Some-from_list.is in
    rw (sym ends) (_, (done.0, done.1, done.2, done.3 ∙ some))
