use Rattle.toml_span_lex.proofs.Common.{◌≡◌, [], ◌∷◌, ◌++◌, map, refl, sym, ap, ◌∙◌, subst, append_assoc, IsStrictlySortedBy, keys_of}
use Rattle.serde_json.specs.View as made
use Rattle.toml_span_tree.specs.declared.value.Value.{Value}
use Rattle.toml_span_tree.specs.Value.{view}
use Rattle.toml_span_tree.specs.Json.{json_of}
use Rattle.toml_span_tree.proofs.Values.{Entry}
use Rattle.toml_span_tree.proofs.Objects.{key_cmp, put_last, json_items-map}
use Rattle.toml_span_tree.proofs.json.+json.Goals as goal

pub json_of_elements-returns : goal.json_of_elements-returns
json_of_elements-returns t c =
    let items = c.args.array.now.items in
    let pushed : map made.view c.push_elements.new.made.items ≡ map (λ (v : Value). json_of (view v)) items =
    c.in_ok-push_elements.ensures ∙ rw (c.in_ok-made.ensures.items, c.as_slice.ensures.value) refl in
    ap made.items_of pushed ∙ json_items-map items

pub json_of_entries-loop-key-preserved : goal.json_of_entries-loop-key-preserved
json_of_entries-loop-key-preserved t c =
    let l = c.loop-key in
    let done = l.invariant.0 in
    let e : Entry = (c.in-Some.key.now, c.in-Some.value.now) in
    let left = c.next.new.self in
    let all : c.args.table.now.entries ≡ done ++ e ∷ left = l.invariant.1 ∙ ap (λ es. done ++ es) c.in-Some.ensures.steps in
    let last = put_last done e left (subst (λ es. IsStrictlySortedBy key_cmp (keys_of es)) all c.iter-key-items.ensures.ordered) in (
      done ++ e ∷ [],
      all ∙ sym (append_assoc done (e ∷ []) left),
      c.in_ok-put_entry.ensures ∙ rw l.invariant.2 last,
    )
