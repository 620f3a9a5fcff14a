use Rattle.toml_span_tree.specs.declared.value.ValueInner.{the_lemmas}
use Rattle.toml_span_lex.proofs.Common.{rules, ◌≡◌, BTreeMap, List, ℕ, Some, refl, option_map, option_and_then, sym, ap, ◌∙◌, arith, lookup, set_value, unwrap_or}
use Rattle.toml_span_lex.specs.declared.key.Key.{Key}
use Rattle.toml_span_tree.specs.declared.value.Value.{Value}
use Rattle.toml_span_tree.specs.Node.{get_item, node, table, taken}
use Rattle.toml_span_tree.specs.Path.{set_entry, set_element}
use Rattle.toml_span_tree.specs.Value.{view, inner_view, items_view, members_view}
use Rattle.toml_span_tree.specs.code.Pointer.{set_item, segments_after, value_named, put_named}
use Rattle.toml_span_tree.specs.Pointer.{segments}
use Rattle.toml_span_tree.proofs.Values.{view_is, inner_view-Table, at_name}
use Rattle.toml_span_tree.proofs.Pointers.{get_item-lent, past_all}
use Rattle.toml_span_tree.proofs.Puts.{member-lent, member-is, view-made, view-set_value, view-set, set_entry-same, set_element-same, exchanged-in, exchanged-none, exchanged-as, exchanged-cut, exchanged-table, if_not_taken-false}
use Rattle.toml_span_tree.proofs.+replace.Goals as goal

pub pointer::replace_element-returns-in-Some-get_mut :
    goal.pointer::replace_element-returns-in-Some-get_mut
pointer::replace_element-returns-in-Some-get_mut t c =
    let vs = c.args.array.now.items in
    let i = c.in-Some.position in
    let child = c.in-Some-get_mut.child in
    let after = c.replace_here.new.self in
    let item = c.get_mut.ensures.item in
    let there : get_item i (items_view vs) ≡ Some (view child.now) = sym (get_item-lent c.get_mut.result _ vs i item.1 item.3) ∙ ap (option_map (λ v. view v.now)) c.in-Some-get_mut.is in
    exchanged-in c.replace_here.result c.args.new (segments_after (option_map (λ r. r.now) c.args.rest)) _ (view child.now) (view after) _ _
    (ap (option_and_then (λ i. get_item i (items_view vs))) c.in-Some.ensures ∙ there)
    (view-set vs i after ∙ sym (ap (λ o. set_item o (view after) (items_view vs)) c.in-Some.ensures))
    (λ e. view-set vs i after ∙ ap (λ n. set_element i n (items_view vs)) e ∙ set_element-same i (items_view vs) (view child.now) there)
    c.replace_here.ensures

pub pointer::replace_element-returns-in_default : goal.pointer::replace_element-returns-in_default
pointer::replace_element-returns-in_default t c =
    let array = c.args.array.now in
    let small = array.small in
    let ok = array.ok in
    exchanged-none c.args.new (segments_after (option_map (λ r. r.now) c.args.rest)) _ _
    (sym (past_all array.items _ c.in_default.ensures (omega (arith, small, ok.0, ok.1))))
    refl

pub pointer::replace_element-returns-in-None : goal.pointer::replace_element-returns-in-None
pointer::replace_element-returns-in-None t c =
    let vs = c.args.array.now.items in
    let item = c.get_mut.ensures.item in
    exchanged-none c.args.new (segments_after (option_map (λ r. r.now) c.args.rest)) _ _
    (ap (option_and_then (λ i. get_item i (items_view vs))) c.in-Some.ensures
    ∙ sym (get_item-lent c.get_mut.result _ vs c.in-Some.position item.1 item.3)
    ∙ ap (option_map (λ v. view v.now)) c.in-None.is)
    refl

pub pointer::replace_entry-returns-in-Some : goal.pointer::replace_entry-returns-in-Some
pointer::replace_entry-returns-in-Some t c =
    let es = c.args.table.now.entries in
    let name = c.args.name.now in
    let child = c.in-Some.child in
    let after = c.replace_here.new.self in
    let there = member-is c.get_mut.result child name es (c.get_mut.ensures.value ∙ ap (λ (n : List ℕ). lookup (at_name n) es) c.named.ensures.0) c.in-Some.is in
    let written =
    ap members_view ((c.get_mut.follows.holds after).0 ∙ ap (λ (n : List ℕ). set_value (at_name n) es after) c.named.ensures.0)
    ∙ view-set_value name es after in
    exchanged-in c.replace_here.result c.args.new (segments_after (option_map (λ r. r.now) c.args.rest)) _ (view child.now) (view after) _ _
    there
    written
    (λ e. written ∙ ap (λ n. set_entry name n (members_view es)) e ∙ set_entry-same name (members_view es) (view child.now) there)
    c.replace_here.ensures

pub pointer::replace_entry-returns : goal.pointer::replace_entry-returns
pointer::replace_entry-returns t c =
    let es = c.args.table.now.entries in
    exchanged-none c.args.new (segments_after (option_map (λ r. r.now) c.args.rest)) _ _
    (sym (member-lent c.get_mut.result c.args.name.now es (c.get_mut.ensures.value ∙ ap (λ (n : List ℕ). lookup (at_name n) es) c.named.ensures.0)) ∙ ap (option_map (λ v. view v.now)) c.in-None.is)
    (ap (λ (m : BTreeMap Key Value). members_view m.entries) c.get_mut.follows.holds-at-none)

pub value::Value::replace_found-returns-in-Some : goal.value::Value::replace_found-returns-in-Some
value::Value::replace_found-returns-in-Some t c =
    let span = c.args.self.now.span in
    let i = inner_view c.in-Some.inner in
    let j = inner_view c.replace_found.new.self in
    let was : view c.args.self.now ≡ node i span = view_is c.args.self.now ∙ ap (λ o. node (unwrap_or (option_map inner_view o) taken) span) c.in-Some.is in
    let is = view-made c.replace_found.new.self span in
    exchanged-as c.replace_found.result c.args.new (segments c.args.path.now) (Some (node i span)) (Some (view c.args.self.now)) (λ w. node j span ≡ w) _ (node j span ≡ node i span) _
    (ap Some (sym was))
    (λ w e. is ∙ e)
    (λ e. is ∙ e ∙ sym was)
    (exchanged-cut c.replace_found.result c.args.new c.args.path.now c.cut.result.0.now _ i j span c.cut.ensures c.replace_found.ensures)

pub value::Value::replace_here-returns-in-None : goal.value::Value::replace_here-returns-in-None
value::Value::replace_here-returns-in-None t c =
    let n = view c.args.self.now in
    let none = ap (option_map (λ r. r.now)) c.in-None.is in (
      n,
      if_not_taken-false n (sym c.is_taken.ensures ∙ c.if-is_taken.false),
      ap (λ o. value_named (segments_after o) n) none ∙ ap (λ v. Some (view v)) (sym c.replace.ensures.value),
      ap view c.replace.ensures.after ∙ sym (ap (λ o. put_named (segments_after o) (view c.args.new) n) none),
    )

pub value::ValueInner::replace_found-returns-in-Table :
    goal.value::ValueInner::replace_found-returns-in-Table
value::ValueInner::replace_found-returns-in-Table t c =
    exchanged-table c.replace_entry.result c.args.new (segments_after (option_map (λ r. r.now) c.args.rest)) c.args.segment.now _ _ _ _
    (ap inner_view c.in-Table.is ∙ inner_view-Table c.in-Table.table ∙ ap (λ (m : BTreeMap Key Value). table (members_view m.entries)) (sym c.in-Table.table-is))
    (search (rules, the_lemmas))
    c.replace_entry.ensures
