use Rattle.toml_span_lex.proofs.Common.{codes, string_bytes}
use Rattle.toml_span_report.specs.Visible.{visible}
use Rattle.toml_span_check.proofs.Pieces.{five}
use Rattle.toml_span_check.proofs.run.push_complaint.Goals as goal

pub returns : goal.returns
returns c =
    five (string_bytes c.args.out.now) (codes "error: cannot read `") (visible c.args.name.now) (codes "`: ") c.args.reason.now (codes "\n") _ _ _ _ _
    c.in_ok-push_str.ensures.bytes c.in_ok-push_visible.ensures c.in_ok-push_str-2.ensures.bytes c.in_ok-push_str-3.ensures.bytes c.in_ok-push_str-4.ensures.bytes
