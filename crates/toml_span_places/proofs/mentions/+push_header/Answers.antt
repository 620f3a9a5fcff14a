use Rattle.toml_span_lex.proofs.Common.{◌∙◌, ap, map, sym}
use Rattle.toml_span_read.specs.Data.{parsed_section}
use Rattle.toml_span_tree.specs.Nodes.{step_of}
use Rattle.toml_span_places.specs.Mentions.{latest, steps_of}
use Rattle.toml_span_places.specs.code.Opened.{counts_of}
use Rattle.toml_span_places.proofs.PathLemmas.{header_last, header_listed, header_more, header_none, on_ok_same, same_path_ok}
use Rattle.toml_span_places.proofs.mentions.+push_header.Goals as goal

pub returns-in_default-clause-path : goal.returns-in_default-clause-path
returns-in_default-clause-path t c =
    header_none (counts_of c.args.opened.now) (steps_of c.args.path) c.args.parts.now c.in_default.len_below

pub returns-then-is_empty-clause-path : goal.returns-then-is_empty-clause-path
returns-then-is_empty-clause-path t c =
    c.in_ok-path_below.ensures
    ∙ header_last (counts_of c.args.opened.now) (steps_of c.args.path) c.args.parts.now c.key-item.result _
    c.in-len1-up.len_at_least c.key-item.is (sym c.if-is_empty.ensures)

pub returns-clause-mentions : goal.returns-clause-mentions
returns-clause-mentions t c =
    let e_is = c.in_ok-element.ensures ∙ ap (λ l. latest (counts_of c.args.opened.now (map step_of l))) c.as_slice-2.ensures.value in
    let here = c.in_ok-push-2.ensures ∙ rw (c.as_slice-3.ensures.value, c.by_header-details-2.ensures) in
    on_ok_same c.push_header.result _ _
    (header_listed (counts_of c.args.opened.now) (parsed_section c.args.section.now) (steps_of c.args.path) _ _ _ c.args.parts.now c.key-item.result _ _ _ _
    c.in-len1-up.len_at_least c.key-item.is (sym c.if-is_empty.ensures) c.in_ok-path_below.ensures e_is c.in_ok-inside.ensures here)
    c.push_header.ensures.mentions

pub returns-clause-path : goal.returns-clause-path
returns-clause-path t c =
    let e_is = c.in_ok-element.ensures ∙ ap (λ l. latest (counts_of c.args.opened.now (map step_of l))) c.as_slice-2.ensures.value in
    same_path_ok c.push_header.result _ _
    (header_more (counts_of c.args.opened.now) (steps_of c.args.path) _ _ _ c.args.parts.now c.key-item.result _
    c.in-len1-up.len_at_least c.key-item.is (sym c.if-is_empty.ensures) c.in_ok-path_below.ensures e_is c.in_ok-inside.ensures)
    c.push_header.ensures.path
