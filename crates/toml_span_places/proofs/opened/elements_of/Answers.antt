use Rattle.toml_span_lex.proofs.Common.{◌∙◌, ap, map, unwrap_or}
use Rattle.toml_span_places.specs.code.Opened.{sorted_step}
use Rattle.toml_span_places.proofs.OpenedLemmas.{counts_read}
use Rattle.toml_span_places.proofs.opened.elements_of.Goals as goal

pub returns-in-Some : goal.returns-in-Some
returns-in-Some c =
    ap (λ o. unwrap_or o 0) (c.in-Some.ensures.value
    ∙ counts_read c.args.opened.now.elements.entries _ _
    (ap (λ l. map sorted_step l) c.as_slice.ensures.value ∙ c.in_ok-sorted.ensures))

pub returns : goal.returns
returns c =
    ap (λ o. unwrap_or o 0) (c.in-None.ensures.value
    ∙ counts_read c.args.opened.now.elements.entries _ _
    (ap (λ l. map sorted_step l) c.as_slice.ensures.value ∙ c.in_ok-sorted.ensures))
