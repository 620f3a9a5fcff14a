use Rattle.toml_span_lex.proofs.Common.{has_written_append, arith, nat_tests, common_steps}
use Rattle.toml_span_serde.proofs.KindLemmas.{more_kinds_split}
use Rattle.toml_span_serde.proofs.misfit.write_more_kinds.Goals as goal

pub returns-in_ok-write_parted-in-Some : goal.returns-in_ok-write_parted-in-Some
returns-in_ok-write_parted-in-Some g c = λ plain ok. grind (arith, nat_tests, common_steps, has_written_append, more_kinds_split)
