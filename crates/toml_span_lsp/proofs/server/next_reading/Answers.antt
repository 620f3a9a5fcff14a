use Rattle.toml_span_lsp.proofs.Served.{ends_memory}
use Rattle.toml_span_lsp.proofs.server.next_reading.Goals as goal

pub returns-in_default : goal.returns-in_default
returns-in_default g c = ends_memory _ _ _ _ _ _ _ c.end_with.ensures

pub returns-in_default-text_of : goal.returns-in_default-text_of
returns-in_default-text_of g c = ends_memory _ _ _ _ _ _ _ c.end_with-in_default-text_of.ensures

pub returns-in_default-read : goal.returns-in_default-read
returns-in_default-read g c = ends_memory _ _ _ _ _ _ _ c.end_with-in_default-read.ensures

pub returns-in_default-kept_of : goal.returns-in_default-kept_of
returns-in_default-kept_of g c = ends_memory _ _ _ _ _ _ _ c.end_with-in_default-kept_of.ensures

pub returns-in_default-reading_of : goal.returns-in_default-reading_of
returns-in_default-reading_of g c = ends_memory _ _ _ _ _ _ _ c.end_with-in_default-reading_of.ensures
