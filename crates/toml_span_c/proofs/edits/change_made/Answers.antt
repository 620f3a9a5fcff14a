use Rattle.toml_span_lex.proofs.Common.{◌≡◌, map, rules}
use Rattle.toml_span_c.specs.Edits.{IsChange, names_of}
use Rattle.toml_span_c.proofs.Changes.{as_change}
use Rattle.toml_span_edit.specs.declared.edits.Edit.{Edit}
use Rattle.toml_span_c.proofs.edits.change_made.Goals as goal

pub returns : goal.returns
returns c =
    let edit : Edit = record { path = c.as_slice-path.result; change = c.in-Some.change } in
    let path : map (λ s. s.now) c.as_slice-path.result.now ≡ names_of c.args.asked.path.now = search rules in
    let value : c.in-Ok.value.now ≡ c.args.asked.value.now = search rules in
    let target : map (λ s. s.now) c.as_slice.result.now ≡ names_of c.args.asked.target.now = search rules in
    let change : IsChange c.args.asked c.in-Some.change = search rules in
    as_change c.args.asked edit c.args.text.now (path, change) c.edit_made.result c.edit_made.ensures
