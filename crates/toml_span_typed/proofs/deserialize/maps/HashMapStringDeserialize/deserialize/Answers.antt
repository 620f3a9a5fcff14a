use Rattle.toml_span_lex.proofs.Common.{rules, subst, sym, ◌∙◌, items_from_drains, YieldsList-from_first}
use Rattle.std.proofs.lemmas.List.{map-id}
use Rattle.std.specs.HashMap.{IsFromIterResult}
use Rattle.std.specs.String.{string_eq}
use Rattle.toml_span_typed.proofs.deserialize.maps.HashMapStringDeserialize.deserialize.Goals as goal

pub returns : goal.returns
returns g c =
    let entries = c.in_ok-entries.entries.entries in
    let (first, taken, starts, drains, made) = c.in_ok-from_iter.ensures.ran in
    let all = sym (map-id taken) ∙ items_from_drains taken drains (YieldsList-from_first (λ entry. entry) (λ left. left) entries starts.0) in
    (entries, search rules, subst (λ es. IsFromIterResult string_eq es c.in_ok-from_iter.field-0) all made)
