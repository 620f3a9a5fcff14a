use Rattle.toml_span_tree.specs.Value.{view}
use Rattle.toml_span_lookup.proofs.Warned.{checks-with}
use Rattle.toml_span_lookup.proofs.findings.findings.Goals as goal

pub returns : goal.returns
returns c =
    checks-with c.args.schema.now (view c.args.root.now) c.in_ok-reports.reports.items c.push_warnings.new.reports.items c.in_ok-reports.ensures.verdict c.in_ok-reports.ensures.errors c.in_ok-push_warnings.ensures
