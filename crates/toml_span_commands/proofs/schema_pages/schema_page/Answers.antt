use Rattle.toml_span_commands.specs.Explain.{schema_page}
use Rattle.toml_span_commands.proofs.schema_pages.schema_page.Goals as goal

pub returns : goal.returns
unfolding schema_page
returns c = c.text_in.ensures
