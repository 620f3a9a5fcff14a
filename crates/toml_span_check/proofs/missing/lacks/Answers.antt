use Rattle.toml_span_lex.proofs.Common.{◌∙◌, ◌++◌, ap, sym, codes, length, option_map}
use Rattle.toml_span_tree.specs.Value.{inner_of, items_view, view}
use Rattle.toml_span_check.specs.Numbers.{number_of}
use Rattle.toml_span_check.proofs.Missings.{lacks-element}
use Rattle.toml_span_check.proofs.missing.lacks.Goals as goal

pub returns-in_ok-push_number-in-Some : goal.returns-in_ok-push_number-in-Some
returns-in_ok-push_number-in-Some c =
    lacks-element (inner_of (view c.args.value.now)) c.in-Some.elements.now.items c.args.is_root c.args.segment.now _ _ c.if-is_root.false
    (sym c.as_array.ensures ∙ ap (option_map (λ array. items_view array.now.items)) c.in-Some.is)
    (ap length c.as_slice-elements.ensures.value)
    (c.in_ok-push_number-in-Some.ensures ∙ ap (λ o. o ++ number_of (length c.as_slice-elements.result.now) (codes " element")) c.in_ok-out-in-Some.ensures.ok)
