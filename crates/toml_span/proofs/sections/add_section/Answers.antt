use Rattle.toml_span_lex.proofs.Common.{◌≡◌, false, sym, ◌∙◌, is_some}
use Rattle.toml_span_read.specs.Data.{parsed_section}
use Rattle.toml_span.proofs.AssemblyLemmas.{assembles-clash, assembles-more, right-more}
use Rattle.toml_span.proofs.sections.add_section.Goals as goal

pub returns-in-Ok-clause-assembles : goal.returns-in-Ok-clause-assembles
returns-in-Ok-clause-assembles c = λ bs headed assembles.
    let none : is_some c.args.assembly.now.clash ≡ false = sym c.is_some.ensures ∙ c.if-is_some.false in
    assembles-more bs (parsed_section c.args.section) c.args.assembly.now.root c.place.new.root c.args.assembly.now.clash none headed assembles c.in-Ok.ensures.places

pub returns-in-Ok-clause-borrows : goal.returns-in-Ok-clause-borrows
returns-in-Ok-clause-borrows c = λ text from right.
    let none : is_some c.args.assembly.now.clash ≡ false = sym c.is_some.ensures ∙ c.if-is_some.false in
    right-more text c.args.assembly.now.root c.place.new.root c.args.assembly.now.clash none right (c.in-Ok.ensures.borrows text from)

pub returns-in-Err-Fault-clause-assembles : goal.returns-in-Err-Fault-clause-assembles
returns-in-Err-Fault-clause-assembles c = λ bs headed assembles.
    let none : is_some c.args.assembly.now.clash ≡ false = sym c.is_some.ensures ∙ c.if-is_some.false in
    assembles-clash bs (parsed_section c.args.section) c.args.assembly.now.root c.place.new.root c.args.assembly.now.clash _ c.in-Err-Fault.clash none c.in-Err-Fault.field-0-is headed assembles c.in-Err-Fault.ensures.places
