use Rattle.toml_span_lex.proofs.Common.{map, string_bytes, sym}
use Rattle.toml_span_report.specs.Report.{report_content}
use Rattle.toml_span_report.specs.declared.colours.Style.TheVariants as styles
use Rattle.toml_span_load.proofs.Loads.{are_told}
use Rattle.toml_span_load.proofs.TextFile.read.Goals as goal

pub returns-in-Ok-of-clause-refused : goal.returns-in-Ok-of-clause-refused
returns-in-Ok-of-clause-refused g c =
    let name = c.as_str-name.result.now in
    let text = c.as_str-text.result.now in
    let made = c.in-Ok-of.reported in
    rw (sym c.as_str-name.ensures.value, sym c.as_str-text.ensures.value)
    (are_told g.T.Deserialize.reads styles.Plain name text c.in-Err.stop (map report_content made.reports.items) (string_bytes made.text)
    c.in-Err.ensures.refused c.in-Ok-of.ensures)
