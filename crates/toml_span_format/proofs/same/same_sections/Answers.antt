use Rattle.toml_span_lex.proofs.Common.{arith, sym}
use Rattle.toml_span_read.specs.Data.{parsed_section}
use Rattle.toml_span_format.specs.Same.{bare_section}
use Rattle.toml_span_format.proofs.Lists.{agrees, all_same, differs, other_found, same_length, same_more}
use Rattle.toml_span_format.proofs.same.same_sections.Goals as goal

pub returns-then-a-b : goal.returns-then-a-b
returns-then-a-b c = differs (λ e. c.if-a-b.true (same_length parsed_section bare_section c.args.a.now c.args.b.now e))

pub returns-then-not-same_section : goal.returns-then-not-same_section
returns-then-not-same_section c =
    other_found parsed_section bare_section c.args.a.now c.args.b.now c.loop-i.i c.index-a-i.result c.index-b-i.result c.same_section.result
    c.loop-i-test.true c.if-a-b.false c.index-a-i.is c.index-b-i.is c.same_section.ensures.1 c.if-not-same_section.true

pub loop-i-preserved : goal.loop-i-preserved
loop-i-preserved c =
    same_more parsed_section bare_section c.args.a.now c.args.b.now c.loop-i.i c.index-a-i.result c.index-b-i.result c.loop-i-test.true
    (rw (← c.if-a-b.false) c.loop-i-test.true) (sym c.index-a-i.is) (sym c.index-b-i.is) (c.same_section.ensures.0 c.if-not-same_section.false)
    c.loop-i.invariant

pub returns : goal.returns
returns c =
    agrees (all_same parsed_section bare_section c.args.a.now c.args.b.now c.loop-i.i (omega (arith, c.loop-i-test.false)) c.if-a-b.false
    c.loop-i.invariant)
