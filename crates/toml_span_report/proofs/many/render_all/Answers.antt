use Rattle.toml_span_lex.proofs.Common.{◌≡◌, ℕ, List, map, rules, ap, ◌∙◌, subst, IsNonDecreasingBy-from_sort_by_key, answers_always, IfOk-weaker}
use Rattle.toml_span_report.specs.Many.{AreInOrder, drawn_content, drawn_with_offset, joined}
use Rattle.toml_span_report.specs.Report.{report_content}
use Rattle.toml_span_report.proofs.OrderLemmas.{in_order, map_twice}
use Rattle.toml_span_report.proofs.many.render_all.Goals as goal

pub returns : goal.returns
returns c =
    let sorted = c.sort_by_key.new.self.items in
    let made = drawn_with_offset c.args.style c.args.name.now c.args.text.now in
    let rs = map report_content c.args.reports.now in
    let given : map drawn_content c.in_ok-drawn.drawn.items ≡ map made rs = c.in_ok-drawn.ensures ∙ map_twice report_content made c.args.reports.now in
    let order = in_order c.in_ok-drawn.drawn.items sorted c.sort_by_key.ensures.permutation
    (IsNonDecreasingBy-from_sort_by_key (λ d. d.at) _ c.in_ok-sort_by_key.ensures.sorted (λ a r q k. search rules))
    (c.sort_by_key.ensures.stable (λ d. d.at) (answers_always _ _ _ (λ f a r g h. search rules))) in
    IfOk-weaker c.joined.result _ _
    (λ out h. (map drawn_content sorted, subst (λ (ds : List (ℕ × List ℕ)). AreInOrder ds (map drawn_content sorted)) given order, h ∙ ap (λ ds. joined (map drawn_content ds) rs) c.as_slice.ensures.value))
    c.joined.ensures
