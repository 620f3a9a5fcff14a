use Rattle.toml_span_lex.proofs.Common.{List, ℕ, ◌∙◌, ap, sym, map, cow_str_bytes, option_and_then, Global}
use Rattle.toml_span_tree.specs.Value.{view}
use Rattle.toml_span_tree.specs.code.Pointer.{untaken_entry}
use Rattle.toml_span_places.specs.Dotted.{named}
use Rattle.toml_span_places.proofs.DottedLemmas.{after_one, named_more}
use Rattle.toml_span_places.proofs.dotted.+value_at.Goals as goal

pub returns : goal.returns
returns t c =
    let child = ap (λ (s : List ℕ). untaken_entry s (view c.args.value.now)) (sym c.as_ref.ensures.value) ∙ sym c.in_ok-child_of.ensures in
    c.value_at.ensures
    ∙ sym (named_more Global c.args.path.now c.segment-item.result _ (view c.args.value.now) c.in-len1-up.len_at_least c.segment-item.is
    ∙ ap (option_and_then (named (map cow_str_bytes (after_one Global c.args.path.now)))) child)
