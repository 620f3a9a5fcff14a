use Rattle.toml_span_lex.proofs.Common.{map}
use Rattle.toml_span_read.specs.Data.{parsed_section}
use Rattle.toml_span_read.proofs.ReadSound.{document_sound}
use Rattle.toml_span_laws.proofs.OneSpelled.{document_read}
use Rattle.toml_span_laws.proofs.WiderDocument.{document_wider}
use Rattle.toml_span_laws.proofs.limits.read_within_wider.Goals as goal

pub returns : goal.returns
returns c = λ text limit wider found result on narrow wide.
    document_read text wider result (map parsed_section found.items) wide (document_wider (map parsed_section found.items) text limit wider on (document_sound (map parsed_section found.items) text limit narrow))
