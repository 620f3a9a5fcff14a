use Rattle.toml_span_lex.proofs.Common.{map, [], refl}
use Rattle.toml_span_read.specs.Data.{parsed_assignment, simple_key}
use Rattle.toml_span.specs.declared.claims.ClaimKind.TheVariants.{TableElement}
use Rattle.toml_span.specs.Claims.{assignments_claims, part_info}
use Rattle.toml_span.specs.code.Relative.{opening}
use Rattle.toml_span.proofs.Placed.{err-of}
use Rattle.toml_span.proofs.Borrowing.{keeps_pushed}
use Rattle.toml_span.proofs.Entries.{reaches-added-err, reaches-pushed}
use Rattle.toml_span.proofs.sections.add_entry.Goals as goal

pub returns-in_err-open_table-clause-places : goal.returns-in_err-open_table-clause-places
returns-in_err-open_table-clause-places c =
    reaches-added-err (part_info c.args.head TableElement c.args.part.now.span) c.args.node.now _ c.new-entry.result c.open_table.new.node c.open_table.result c.from_residual.result c.in_err-open_table.field-0.0
    (opening c.args.head TableElement (simple_key c.args.part.now) (assignments_claims (map parsed_assignment c.args.pairs.items) [])) _ _ c.new-entry.ensures c.in_err-open_table.was
    (err-of c.from_residual.result c.in_err-open_table.field-0.0 _ c.from_residual.ensures.1 (λ y p. p)) c.open_table.ensures.places

pub returns-clause-places : goal.returns-clause-places
returns-clause-places c =
    reaches-pushed (part_info c.args.head TableElement c.args.part.now.span) c.args.node.now _ c.new-entry.result c.open_table.new.node
    (opening c.args.head TableElement (simple_key c.args.part.now) (assignments_claims (map parsed_assignment c.args.pairs.items) [])) refl c.new-entry.ensures refl refl refl c.in_ok-push.ensures.items c.in_ok-open_table.ensures.places

pub returns-clause-borrows : goal.returns-clause-borrows
returns-clause-borrows c = λ text pairs before.
    keeps_pushed text c.args.part.now.span c.args.node.now _ c.new-entry.result c.open_table.new.node c.new-entry.ensures refl refl refl c.in_ok-push.ensures.items (c.in_ok-open_table.ensures.borrows text pairs) before
