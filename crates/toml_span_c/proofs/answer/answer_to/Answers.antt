use Rattle.toml_span_lex.proofs.Common.{◌≡◌, rules, subst}
use Rattle.toml_span.specs.Parsing.{IsRefusal}
use Rattle.toml_span_lex.specs.declared.stop.Stop.TheVariants as stops
use Rattle.toml_span_read.specs.Data.{depth_limit}
use Rattle.toml_span_c.proofs.answer.answer_to.Goals as goal

pub returns-in-Err-Fault : goal.returns-in-Err-Fault
returns-in-Err-Fault c =
    let is : c.in-Ok.text.now ≡ c.args.bytes.now = search rules in
    let stop : c.in-Err-Fault.field-0 ≡ stops.Fault c.in-Err-Fault.error = search rules in
    let told = subst (λ e. IsRefusal c.in-Ok.text.now depth_limit e) stop c.in-Err-Fault.ensures.answers in
    (search rules, is, subst (λ t. IsRefusal t depth_limit (stops.Fault c.in-Err-Fault.error)) is told)
