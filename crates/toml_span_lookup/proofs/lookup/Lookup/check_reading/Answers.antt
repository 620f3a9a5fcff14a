use Rattle.std.proofs.Common.{◌∙◌, ap, inr, map, string_bytes, subst, sym}
use Rattle.toml_span_lookup.specs.Choice.{choice_of}
use Rattle.toml_span_lookup.specs.Findings.{ReportsFor}
use Rattle.toml_span_report.specs.Report.{report_content}
use Rattle.toml_span_tree.specs.Value.{view}
use Rattle.toml_span_lookup.proofs.lookup.Lookup.check_reading.Goals as goal

pub returns-clause-chosen : goal.returns-clause-chosen
returns-clause-chosen g c =
    let name = c.args.name.now in
    let catalog = c.prepare.new.self.catalog in
    let used = c.load_choice.new.self.used.items in
    let choice = c.in_ok-choice.choice in
    let before = string_bytes c.load_choice.new.self.complaint in
    let reports = map report_content c.in_ok-reports.reports.items in
    let chosen = c.in_ok-choice.ensures ∙ ap (λ options. choice_of options catalog name c.args.text.now) c.prepare.ensures in
    let told = subst (ReportsFor used choice name (view c.args.root.now) reports before)
    (sym (ap string_bytes c.take_complaint-complaint.ensures)) c.in_ok-reports.ensures in
    inr (catalog, used, choice, before, chosen, c.in_ok-load_choice.ensures, told)
