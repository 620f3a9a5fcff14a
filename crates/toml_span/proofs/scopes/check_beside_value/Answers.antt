use Rattle.toml_span_lex.proofs.Common.{[], ◌∷◌, sym, ap, ◌∙◌, cow_str_bytes, option_map}
use Rattle.toml_span.specs.code.Machine.{earliest_clash}
use Rattle.toml_span.specs.code.Tree.{closed_infos}
use Rattle.toml_span.proofs.KeyMaps.{entry-found, entry-missing}
use Rattle.toml_span.proofs.Placed.{gives-map, infos-found}
use Rattle.toml_span.proofs.scopes.check_beside_value.Goals as goal

pub returns-in-Some : goal.returns-in-Some
returns-in-Some c =
    let name = cow_str_bytes c.args.key.now.name in
    let found = entry-found name c.args.values.now.entries (c.in-Some.earlier.now, c.in-Some.value.now)
    (sym c.get_key_value.ensures.key ∙ ap (option_map (λ p. p.0.now)) c.in-Some.is) (sym c.get_key_value.ensures.value ∙ ap (option_map (λ p. p.1.now)) c.in-Some.is) in
    gives-map c.check_clash.result (earliest_clash (c.pair_info.result ∷ []) c.args.info name) _ _ _
    (ap (λ ms. earliest_clash ms c.args.info name) (infos-found _ c.in-Some.earlier.now c.in-Some.value.now c.pair_info.result found c.pair_info.ensures)) (λ u h. h) c.check_clash.ensures

pub returns-in-None : goal.returns-in-None
returns-in-None c =
    let name = cow_str_bytes c.args.key.now.name in
    let missing = entry-missing name c.args.values.now.entries (sym c.get_key_value.ensures.value ∙ ap (option_map (λ p. p.1.now)) c.in-None.is) in
    (ap (λ o. earliest_clash (closed_infos o) c.args.info name) missing, tt)
