use Rattle.toml_span_lex.proofs.Common.{common_steps, nat_tests, ◌≡◌, ◌↔◌, Bool, not, IsTrue, List, [], ◌∷◌, length, ◌∙◌, arith, Some}
use Rattle.toml_span_tree.specs.Node.{Inner, Members}
use Rattle.toml_span_tree.specs.Value.{members_view, members_in, has_members, is_filled}
use Rattle.toml_span_tree.proofs.Values.{Entry}
use Rattle.toml_span_tree.proofs.value.Value.has_keys.Goals as goal

filled : (b : Bool) (es : List Entry) → (IsTrue b ↔ (length es ≡ 0)) → not b ≡ is_filled (members_view es)
filled b [] h = grind (arith, nat_tests, common_steps)
filled b (e ∷ es) h = grind (arith, nat_tests, common_steps)

of_table : (i : Inner) (ms : Members) → Some ms ≡ members_in i → is_filled ms ≡ has_members i
of_table i ms h = grind (arith, nat_tests, common_steps)

pub returns-in-Some : goal.returns-in-Some
returns-in-Some c =
    filled c.is_empty.result c.in-Some.table.now.entries c.is_empty.ensures ∙ of_table _ _ c.in-Some.ensures
