use Rattle.toml_span_lex.proofs.Common.{ℕ, List, string_bytes, subst, sym}
use Rattle.toml_span_read.specs.Again.{ReadsAsString}
use Rattle.toml_span_edit.specs.declared.draft.Draft.{Draft}
use Rattle.toml_span_edit.proofs.EditedAt.{set_to_string, string_refused}
use Rattle.toml_span_edit.proofs.draft.Draft.set_str.Goals as goal

pub returns-clause-made : goal.returns-clause-made
returns-clause-made c =
    let reads = subst (λ (value : List ℕ). ReadsAsString c.args.string.now value) (sym c.as_str.ensures.value)
    c.in_ok-value.ensures.reads in
    set_to_string c.args.path.now c.args.string.now (string_bytes c.args.self.text) c.as_str.result
    (λ (draft : Draft). string_bytes draft.text) c.edit.result reads c.edit.ensures.made

pub returns-clause-refused : goal.returns-clause-refused
returns-clause-refused c =
    let reads = subst (λ (value : List ℕ). ReadsAsString c.args.string.now value) (sym c.as_str.ensures.value)
    c.in_ok-value.ensures.reads in
    string_refused c.args.self.count c.args.path.now c.args.string.now (string_bytes c.args.self.text) c.as_str.result
    c.edit.result reads c.edit.ensures.refused
