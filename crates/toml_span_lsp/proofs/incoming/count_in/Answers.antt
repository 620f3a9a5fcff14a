use Rattle.toml_span_lex.proofs.Common.{refl}
use Rattle.json.specs.Value.{value_view}
use Rattle.toml_span_lsp.proofs.Params.{count_is, count_read}
use Rattle.toml_span_lsp.proofs.incoming.count_in.Goals as goal

pub returns : goal.returns
returns c =
    let j = value_view c.in_ok-get.field-0.now in
    count_read c.try_from.result c.ok.result _ c.in_ok-count.count _ c.args.name.now (value_view c.args.value.now) j c.in_ok-get.ensures c.ok.ensures.value c.try_from.ensures refl
    (count_is j c.in_ok-count.count c.in_ok-count.ensures)
