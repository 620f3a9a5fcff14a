use Rattle.toml_span_lex.proofs.Common.{Ok, map}
use Rattle.toml_span_read.specs.Data.{parsed_section}
use Rattle.toml_span.proofs.AssemblyLemmas.{tree_borrows}
use Rattle.toml_span.proofs.FastFaults.{answers-refused, begun-refused}
use Rattle.toml_span.proofs.Memory.{begun-tree, keeps-on, keeps-placed}
use Rattle.toml_span.proofs.PlaceLemmas.{assembly_inside}
use Rattle.toml_span.proofs.Refusals.{answers-fault, whole-tree}
use Rattle.toml_span.proofs.de.parse_with_limit.Goals as goal

pub tree_of-requires : goal.tree_of-requires
tree_of-requires c = let g = c.in-Ok-assemble.ensures.assembly in record { inside = assembly_inside c.args.s.now c.args.limit g.sections c.in-Ok-assemble.assembly g.document g.assembles }

pub returns-in-Ok-clause-whole : goal.returns-in-Ok-clause-whole
returns-in-Ok-clause-whole c = whole-tree c.args.s.now c.args.limit (Ok c.in-Ok.root) c.in-Ok.ensures.tree

pub returns-in-Ok-clause-memory : goal.returns-in-Ok-clause-memory
returns-in-Ok-clause-memory c = begun-tree c.args.s.now c.args.limit c.in-Ok.root c.in-Ok.ensures.tree

pub returns-in-Err-Some-clause-answers : goal.returns-in-Err-Some-clause-answers
returns-in-Err-Some-clause-answers c = answers-refused c.args.s.now c.args.limit _ c.in-Err-Some.fault _ c.in-Err-Some.field-0-is c.in-Err-Some.ensures.fault c.error_of.ensures

pub returns-in-Err-Some-clause-memory : goal.returns-in-Err-Some-clause-memory
returns-in-Err-Some-clause-memory c = let b = begun-refused c.args.s.now c.args.limit _ c.in-Err-Some.fault c.in-Err-Some.field-0-is c.in-Err-Some.ensures.fault in (b.0, b.1, tt)

pub returns-in-Ok-assemble-clause-answers : goal.returns-in-Ok-assemble-clause-answers
returns-in-Ok-assemble-clause-answers c = let g = c.in-Ok-assemble.ensures.assembly in c.tree_of.ensures.answers (map parsed_section g.sections) c.args.limit g.document g.assembles

pub returns-in-Ok-assemble-clause-whole : goal.returns-in-Ok-assemble-clause-whole
returns-in-Ok-assemble-clause-whole c =
    let g = c.in-Ok-assemble.ensures.assembly in
    whole-tree c.args.s.now c.args.limit c.tree_of.result (c.tree_of.ensures.answers (map parsed_section g.sections) c.args.limit g.document g.assembles)

pub returns-in-Ok-assemble-clause-borrows : goal.returns-in-Ok-assemble-clause-borrows
returns-in-Ok-assemble-clause-borrows c =
    let g = c.in-Ok-assemble.ensures.assembly in
    tree_borrows (map parsed_section g.sections) c.args.s.now c.args.limit c.tree_of.result g.document (c.tree_of.ensures.borrows (map parsed_section g.sections) g.assembles g.borrows)

pub returns-in-Err-Fault-clause-answers : goal.returns-in-Err-Fault-clause-answers
returns-in-Err-Fault-clause-answers c = answers-fault c.args.s.now c.args.limit _ c.in-Err-Fault.fault _ c.in-Err-Fault.field-0-is c.in-Err-Fault.ensures.assembly c.in-Err-Fault.ensures.placed c.error_of-in-Err-Fault.ensures

pub returns-in-Ok-assemble-clause-memory : goal.returns-in-Ok-assemble-clause-memory
returns-in-Ok-assemble-clause-memory c =
    let g = c.in-Ok-assemble.ensures.assembly in
    keeps-placed g.sections c.args.s.now c.args.limit c.tree_of.result g.document (λ none. c.tree_of.ensures.bare (g.bare none))

pub returns-in-Err-Memory-clause-memory : goal.returns-in-Err-Memory-clause-memory
returns-in-Err-Memory-clause-memory c = keeps-on c.args.s.now _ c.in-Err-Memory.error c.in-Err-Memory.field-0-is c.in-Err-Memory.ensures.memory

pub returns-in-Err-Fault-clause-memory : goal.returns-in-Err-Fault-clause-memory
returns-in-Err-Fault-clause-memory c = let m = c.in-Err-Fault.ensures.memory in (m.0, m.1, tt)
