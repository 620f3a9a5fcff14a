use Rattle.toml_span_lex.proofs.Common.{[], ◌++◌, ap, map, sym}
use Rattle.toml_span_read.specs.Data.{parsed_section}
use Rattle.toml_span_read.specs.Paths.{opened_by}
use Rattle.toml_span_places.specs.Mentions.{mentioned, mentions_after}
use Rattle.toml_span_places.proofs.SectionLemmas.{listed_section}
use Rattle.toml_span_places.proofs.mentions.mentions.Goals as goal

pub loop-section-init : goal.loop-section-init
unfolding opened_by
loop-section-init c = (
  [],
  c.new-opened.ensures,
  ap (λ l. map mentioned l ++ mentions_after c.args.with_assignments [] (map parsed_section c.args.sections.now)) c.new-out.ensures.items,
)

pub loop-section-preserved : goal.loop-section-preserved
loop-section-preserved c =
    listed_section c.args.with_assignments c.loop-section.section-index c.args.sections.now c.section-item.result _ _ _ _ _
    c.loop-section-test.true (sym c.section-item.is) c.in_ok-push_section.ensures.mentions
    c.in_ok-push_section.ensures.opened c.loop-section.invariant
