use Rattle.toml_span_lex.proofs.Common.{string_bytes, has_written_of_eq}
use Rattle.toml_span_tree.specs.Listed.{quoted}
use Rattle.toml_span_tree.proofs.ListedNames.{listed_map}
use Rattle.toml_span_tree.proofs.listed.NamesDisplay.fmt.Goals as goal

pub returns-clause-writes : goal.returns-clause-writes
returns-clause-writes g c = λ plain ok.
    has_written_of_eq _ _ _ _ _ (listed_map quoted string_bytes c.args.self.now.0.now) (c.write_listed.ensures plain ok)
