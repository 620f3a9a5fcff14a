use Rattle.toml_span_lex.proofs.Common.{subst}
use Rattle.toml_span_serde.specs.Ahead.{ahead}
use Rattle.toml_span_serde.specs.Reads.{BeginsAt}
use Rattle.toml_span_serde.proofs.Spans.{ok_map, stands_of}
use Rattle.toml_span_serde.proofs.laws.spanned_has_its_bytes.Goals as goal

pub returns : goal.returns
returns g c =
    ok_map c.deserialize.result _ _
    (λ read h. subst (λ r. BeginsAt read.span (ahead r)) c.new.ensures.format (stands_of c.new.result read.span h))
    c.deserialize.ensures
