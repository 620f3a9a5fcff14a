use Rattle.toml_span_lex.proofs.Common.{sym, ap, ◌∙◌, box_value, cow_str_bytes, option_copied, option_map}
use Rattle.toml_span.specs.code.Machine.{earliest_clash}
use Rattle.toml_span.specs.code.Tree.{child_infos, infos}
use Rattle.toml_span.proofs.Placed.{gives-map}
use Rattle.toml_span.proofs.scopes.check_beside_table.Goals as goal

pub returns-in-Some : goal.returns-in-Some
returns-in-Some c =
    let name = cow_str_bytes c.args.key.now.name in
    let found = sym c.get.ensures.value ∙ ap option_copied c.in-Some.is in
    gives-map c.check_clash.result _ _ _ _
    (ap (λ o. earliest_clash (child_infos (option_map box_value o)) c.args.info name) found ∙ ap (λ ms. earliest_clash ms c.args.info name) (sym (c.as_slice.ensures ∙ ap infos c.deref.ensures))) (λ u h. h) c.check_clash.ensures

pub returns-in-None : goal.returns-in-None
returns-in-None c =
    (ap (λ o. earliest_clash (child_infos (option_map box_value o)) c.args.info (cow_str_bytes c.args.key.now.name)) (sym c.get.ensures.value ∙ ap option_copied c.in-None.is), tt)
