use Rattle.toml_span_lex.proofs.Common.{◌≡◌, ◌∷◌, ◌++◌, [], ap, sym, ◌∙◌, append_assoc, arith, common_steps, into_iter_items}
use Rattle.toml_span_tree.specs.Value.{all_whole, is_whole, items_view, view}
use Rattle.toml_span_tree.specs.code.Errors.{all_of_option}
use Rattle.toml_span_typed.proofs.Arrays.{nodes_push, read_more}
use Rattle.toml_span_typed.proofs.Whole.{right}
use Rattle.toml_span_typed.proofs.deserialize.arrays.read_all.Goals as goal

pub loop-item-preserved : goal.loop-item-preserved
loop-item-preserved g c =
    let before = c.loop-item.yielded in
    let item = c.in-Some.item in
    let after = into_iter_items c.next.new.self in
    let step = c.in-Some.ensures.steps.0 in
    record {
      can = tt;
      ends = tt;
      rest = append_assoc before (item ∷ []) after ∙ ap (λ vs. before ++ vs) (sym step) ∙ c.loop-item.invariant.rest;
      whole = right (is_whole (view item)) (all_whole (items_view after)) (sym (ap (λ vs. all_whole (items_view vs)) step) ∙ c.loop-item.invariant.whole);
      done = rw (nodes_push before item) (read_more _ _ _ _ _ _ _ c.loop-item.invariant.done c.in_default.ensures);
    }

pub returns-in-None-from_list : goal.returns-in-None-from_list
returns-in-None-from_list g c =
    let ends : c.loop-item.yielded ≡ c.args.items.items = grind (arith, common_steps) in
    let done = c.loop-item.invariant.done in
    rw (sym ends) (done.0, done.1, (done.3 ∙ sym c.from_list.ensures ∙ ap all_of_option c.in-None-from_list.is, done.2))

pub returns : goal.returns
returns g c =
    let ends : c.loop-item.yielded ≡ c.args.items.items = grind (arith, common_steps) in
    let done = c.loop-item.invariant.done in
    rw (sym ends) (done.0, done.1, done.3 ∙ sym c.from_list.ensures ∙ ap all_of_option c.in-Some-from_list.is)
