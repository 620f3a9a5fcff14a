use Rattle.toml_span_lex.proofs.Common.{inr, string_bytes}
use Rattle.toml_span_check.specs.Fixing.{no_fix}
use Rattle.toml_span_check.specs.declared.fixing.Step.TheVariants as steps
use Rattle.toml_span_check.proofs.Fixings.{leads_more, step_of}
use Rattle.toml_span_check.proofs.fixing.mended.Goals as goal

pub loop-count-init : goal.loop-count-init
loop-count-init c = no_fix (string_bytes c.in_ok-text.text) c.in_ok-text.ensures.ok

pub loop-count-preserved : goal.loop-count-preserved
loop-count-preserved c =
    leads_more c.args.statement.now c.as_str.result.now (string_bytes c.loop-count.text) c.args.way c.loop-count.count
    c.in_ok-next_fix.field-0 c.in-Fixed.new c.loop-count.invariant c.as_str.ensures.value c.in_ok-next_fix.ensures c.in-Fixed.is

pub returns-in-Stuck : goal.returns-in-Stuck
returns-in-Stuck c = (
  c.loop-count.count,
  string_bytes c.loop-count.text,
  c.loop-count.invariant,
  inr (step_of c.as_str.result.now (string_bytes c.loop-count.text) c.args.way c.in_ok-next_fix.field-0 steps.Stuck c.as_str.ensures.value
      c.in_ok-next_fix.ensures c.in-Stuck.is),
)
