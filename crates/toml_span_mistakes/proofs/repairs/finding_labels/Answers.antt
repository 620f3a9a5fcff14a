use Rattle.toml_span_mistakes.proofs.Marks.{shows_push}
use Rattle.toml_span_mistakes.proofs.repairs.finding_labels.Goals as goal

pub returns : goal.returns
returns c =
    shows_push c.args.text.now c.in_ok-labels.labels.items c.push.new.self.items c.label_at.result c.in_ok-labels.ensures c.in_ok-push.ensures.items c.label_at.ensures.lies c.label_at.ensures.primary
