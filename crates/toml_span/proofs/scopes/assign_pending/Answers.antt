use Rattle.toml_span_lex.proofs.Common.{[], subst, sym, ◌∙◌, none-some, same_Some}
use Rattle.toml_span_read.specs.Borrowed.{key_written, IsWrittenRight}
use Rattle.toml_span_read.specs.Data.{simple_key}
use Rattle.toml_span.specs.code.Borrowed.{KeepsBorrows, ValueRight}
use Rattle.toml_span.specs.code.Placing.{Places, ValueGives}
use Rattle.toml_span.specs.code.Relative.{pair_at}
use Rattle.toml_span.specs.code.Tree.{counts}
use Rattle.toml_span.proofs.scopes.assign_pending.Goals as goal

pub returns-in-Some-clause-places : goal.returns-in-Some-clause-places
returns-in-Some-clause-places c = λ d v due value span.
    let same = same_Some c.in-Some.next d (sym c.in-Some.is ∙ c.take.ensures.value ∙ due) in
    subst (λ x. ValueGives x.value v → Places c.args.node.now c.assign.new.node c.assign.result (pair_at [] (simple_key x.last) v) (counts c.args.node.now)) same
    (λ given. c.assign.ensures.places v given span) value

pub returns-in-None-clause-places : goal.returns-in-None-clause-places
returns-in-None-clause-places c = λ d v due value span. absurd (none-some d (sym c.in-None.is ∙ c.take.ensures.value ∙ due))

pub returns-in-Some-clause-borrows : goal.returns-in-Some-clause-borrows
returns-in-Some-clause-borrows c = λ text d due last value.
    let same = same_Some c.in-Some.next d (sym c.in-Some.is ∙ c.take.ensures.value ∙ due) in
    subst (λ x. IsWrittenRight text (key_written x.last) → ValueRight text x.value → KeepsBorrows text c.args.node.now c.assign.new.node c.assign.result) same
    (c.assign.ensures.borrows text) last value

pub returns-in-None-clause-borrows : goal.returns-in-None-clause-borrows
returns-in-None-clause-borrows c = λ text d due last value. absurd (none-some d (sym c.in-None.is ∙ c.take.ensures.value ∙ due))
