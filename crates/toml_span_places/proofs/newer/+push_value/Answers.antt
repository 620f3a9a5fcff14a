use Rattle.toml_span_lex.proofs.Common.{◌++◌, ◌∙◌, ap, sym}
use Rattle.toml_span_read.specs.Data.{parsed_assignment}
use Rattle.toml_span_places.specs.Newer.{pair_forms}
use Rattle.toml_span_places.proofs.Uses.{pairs_next}
use Rattle.toml_span_places.proofs.ValueSizes.{assigned_small}
use Rattle.toml_span_places.proofs.newer.+push_value.Goals as goal

pub push_pairs-loop-position-preserved : goal.push_pairs-loop-position-preserved
push_pairs-loop-position-preserved t c =
    let l = c.loop-position in
    let es = c.args.pairs.now in
    let e = c.index-pairs-position.result in
    let here = sym c.index-pairs-position.is in
    let more = c.in_ok-push_pair.ensures ∙ ap (λ gap. l.out.items ++ pair_forms c.args.text.now (parsed_assignment e) gap) c.gap_after.ensures in
    record {
      small = assigned_small l.position es e _ c.loop-position-test.true here l.invariant.small;
      out = pairs_next c.args.text.now l.position es e _ _ _ c.loop-position-test.true here more l.invariant.out;
    }
