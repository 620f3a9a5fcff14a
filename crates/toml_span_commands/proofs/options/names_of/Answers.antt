use Rattle.toml_span_lex.proofs.Common.{◌∙◌, ◌++◌, ap, ap₂, refl, ℕ, List, [], map, map-append, Option, unwrap_or}
use Rattle.toml_span_commands.specs.Options.{but_last}
use Rattle.toml_span_commands.proofs.Rows.{all-row, or-none}
use Rattle.toml_span_commands.proofs.options.names_of.Goals as goal

pub returns : goal.returns
returns c =
    let files = ap (map (λ name. name.now)) (c.in_ok-names.ensures.items ∙ ap (λ s. s.now) c.unwrap_or.ensures)
    ∙ or-none c.get_strs.result _ refl
    ∙ ap (λ (o : Option (List (List ℕ))). unwrap_or o []) (c.get_strs.ensures ∙ all-row c.args.matches.now _) in
    let more = c.but_last.ensures
    ∙ ap but_last
    (ap (λ s. map (λ v. v.now) s.now) c.unwrap_or-2.ensures ∙ or-none c.get_strs-2.result _ refl
    ∙ ap (λ (o : Option (List (List ℕ))). unwrap_or o []) (c.get_strs-2.ensures ∙ all-row c.args.matches.now _)) in
    ap (map (λ name. name.now)) c.in_ok-extend_from_slice.ensures.items
    ∙ map-append (λ name. name.now) c.in_ok-names.names.items c.but_last.result.now
    ∙ ap₂ (λ xs ys. xs ++ ys) files more
