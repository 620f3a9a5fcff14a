use Rattle.toml_span_lex.proofs.Common.{◌∙◌, ap, refl, ℕ, List, [], map, Option, unwrap_or}
use Rattle.toml_span_commands.specs.Options.{last}
use Rattle.toml_span_commands.proofs.Rows.{all-row, or-none}
use Rattle.toml_span_commands.proofs.options.path_of.Goals as goal

pub returns : goal.returns
returns c =
    c.last.ensures
    ∙ ap last
    (ap (λ s. map (λ v. v.now) s.now) c.unwrap_or.ensures ∙ or-none c.get_strs.result _ refl
    ∙ ap (λ (o : Option (List (List ℕ))). unwrap_or o []) (c.get_strs.ensures ∙ all-row c.args.matches.now _))
