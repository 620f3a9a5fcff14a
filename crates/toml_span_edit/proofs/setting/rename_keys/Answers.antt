use Rattle.toml_span_lex.proofs.Common.{ℕ, List, ap, map, sym, ◌∙◌}
use Rattle.toml_span_read.specs.Data.{parsed_section}
use Rattle.toml_span_places.specs.Keys.{document_keys}
use Rattle.toml_span_places.specs.Replace.{replaced}
use Rattle.toml_span_edit.specs.Kept.{keys_at}
use Rattle.toml_span_edit.proofs.Steps.{if_ok}
use Rattle.toml_span_edit.proofs.setting.rename_keys.Goals as goal

pub returns : goal.returns
returns c =
    let text = c.args.document.text.now in
    let sections = map parsed_section c.args.document.sections.now in
    let spans = keys_at (map (λ s. s.now) c.args.path.now) (document_keys text sections) in
    let same = sym (c.as_str.ensures.value ∙ c.in_ok-key.ensures.spelling) in
    if_ok _ _
    (λ new is. (sections, c.requires, ap (λ (key : List ℕ). replaced text (map (λ span. (span, key)) spans)) same ∙ is))
    c.with_key.result c.with_key.ensures
