use Rattle.toml_span_lex.proofs.Common.{sym}
use Rattle.toml_span_lookup.proofs.Warned.{noted}
use Rattle.toml_span_lookup.proofs.lookup.Lookup.reports_of.Goals as goal

pub returns-in-Ok : goal.returns-in-Ok
returns-in-Ok c = noted c.with_notes.result _ c.in-Some.guide.now _ _ _ _ _ (sym c.in-Some.ensures) c.in-Ok.ensures c.with_notes.ensures
