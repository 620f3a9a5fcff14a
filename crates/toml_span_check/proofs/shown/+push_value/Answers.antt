use Rattle.toml_span_lex.proofs.Common.{◌∙◌, ◌++◌, ap, map, string_bytes, false, arith, nat_tests, common_steps}
use Rattle.toml_span_tree.specs.Order.{entry_of}
use Rattle.toml_span_tree.specs.Value.{members_view}
use Rattle.toml_span_tree.proofs.Sizes.{members_size}
use Rattle.toml_span_check.specs.Order.{members_in_order}
use Rattle.toml_span_check.specs.Shown.{members_shown}
use Rattle.toml_span_check.proofs.Entries.{laid, laid-in-order, size-in-order}
use Rattle.toml_span_check.proofs.shown.+push_value.Goals as goal

pub push_elements-loop-element-preserved : goal.push_elements-loop-element-preserved
push_elements-loop-element-preserved t c = grind (arith, nat_tests, common_steps)

pub push_elements-returns : goal.push_elements-returns
push_elements-returns t c = grind (arith, nat_tests, common_steps)

pub push_entries-loop-entry-init : goal.push_entries-loop-entry-init
push_entries-loop-entry-init t c =
    let s = c.args.shape.is_sorted in
    let entries = c.args.table.now.entries in
    let sorted = ap (map entry_of) c.deref-entry-items.ensures.value ∙ c.in_ok-entries.ensures in
    let size = ap (λ es. members_size (members_view es)) sorted ∙ size-in-order s entries in
    record {
      small = omega (arith, size);
      out =
          ap (λ ms. string_bytes c.push_str.new.self ++ members_shown c.args.shape.is_tagged false ms) (ap (laid s) sorted ∙ laid-in-order s entries)
          ∙ ap (λ o. o ++ members_shown c.args.shape.is_tagged false (members_in_order s (members_view entries))) c.in_ok-push_str.ensures.bytes;
    }

pub push_entries-loop-entry-preserved : goal.push_entries-loop-entry-preserved
push_entries-loop-entry-preserved t c = grind (arith, nat_tests, common_steps)

pub push_entries-returns : goal.push_entries-returns
push_entries-returns t c = grind (arith, nat_tests, common_steps)

pub push_value-returns-then-is_taken : goal.push_value-returns-then-is_taken
push_value-returns-then-is_taken t c = grind (arith, nat_tests, common_steps)
