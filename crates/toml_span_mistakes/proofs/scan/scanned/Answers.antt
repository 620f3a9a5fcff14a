use Rattle.std.proofs.lemmas.Str.{IsCharBoundary-start}
use Rattle.toml_span_mistakes.proofs.scan.scanned.Goals as goal

pub pieces-init : goal.pieces-init
pieces-init c = IsCharBoundary-start c.args.text.now c.utf8.text
