use Rattle.toml_span_lex.proofs.Common.{◌≡◌, false, map, rules}
use Rattle.std.specs.List.{list_any}
use Rattle.std.specs.Str.{bytes_eq}
use Rattle.toml_span_report.specs.Report.{report_content}
use Rattle.toml_span_editor.specs.Labels.{main_span}
use Rattle.toml_span_editor.specs.Partial.{is_doubted}
use Rattle.toml_span_editor.proofs.PartialLemmas.{with-one}
use Rattle.toml_span_editor.proofs.partial.push_certain.Goals as goal

pub returns-in_ok-push : goal.returns-in_ok-push
returns-in_ok-push c =
    let sure = map (λ code. code.now) c.args.codes.now in
    let sound : is_doubted (main_span (report_content c.args.report).labels).start (list_any (bytes_eq (report_content c.args.report).code) sure) c.args.doubts.now ≡ false = search rules in
    with-one sure c.args.doubts.now c.args.kept.now.items c.push.new.self.items c.args.report sound c.in_ok-push.ensures.items
