use Rattle.toml_span_lex.proofs.Common.{length}
use Rattle.toml_span_typed.proofs.de_helpers.table_helper.tags.+tag_among.Given as goal

abbrev pub decreases-tag_among : goal.decreases-tag_among
decreases-tag_among l = length l.tags.now
