use Rattle.toml_span_lex.proofs.Common.{ℕ, List, subst, string_bytes}
use Rattle.toml_span_mistakes.specs.Errors.{IsReport}
use Rattle.toml_span_report.specs.declared.colours.Style.TheVariants.{Plain}
use Rattle.toml_span_tree.specs.Error.{content_of}
use Rattle.toml_span_c.specs.Calls.{Fills}
use Rattle.toml_span_c.proofs.texts.toml_span_report.Goals as goal

pub returns-in-Ok-render_error-clause-faulty : goal.returns-in-Ok-render_error-clause-faulty
returns-in-Ok-render_error-clause-faulty c e =
    let error = c.in-Fault.error in
    let report = string_bytes c.in-Ok-render_error.report in
    let named = subst (λ n. IsReport Plain n c.in-Fault.text.now (content_of error) report) c.in-Ok.ensures.cases.0 c.in-Ok-render_error.ensures in
    let read = subst (λ t. IsReport Plain c.args.name.now t (content_of error) report) c.in-Fault.ensures.1 named in
    (error, c.in-Fault.ensures.2, (report, read, subst (λ (t : List ℕ). Fills c.args.out.now c.put_front.new.out c.put_front.new.length t) c.as_str.ensures.value c.put_front.ensures))
