use Rattle.std.proofs.Common.{codes}
use Rattle.std.proofs.lemmas.Str.Pattern.{ends_text}
use Rattle.toml_span_check.proofs.folder.is_toml.Goals as goal

pub returns : goal.returns
returns c = ends_text c.ends_with.result (codes ".toml") c.args.path.now c.ends_with.ensures.cases
