use Rattle.toml_span.proofs.Assignments.{table-gives, table-own}
use Rattle.toml_span.proofs.Borrowing.{fresh-bare}
use Rattle.toml_span.proofs.Nodes.{scope-fresh}
use Rattle.toml_span.proofs.lines.section_table.Goals as goal

pub returns-in-Err-clause-fault : goal.returns-in-Err-clause-fault
returns-in-Err-clause-fault c = c.in-Err.ensures.fault (scope-fresh c.new-scope.result c.new-scope.ensures)

pub returns-in-Ok-into_table-clause-lines : goal.returns-in-Ok-into_table-clause-lines
returns-in-Ok-into_table-clause-lines c =
    let p = c.in-Ok.ensures.lines in
    let t = c.in-Ok-into_table.table in
    let finishes = c.in-Ok-into_table.ensures.finishes in
    record {
      assignments = p.assignments;
      read = p.read (scope-fresh c.new-scope.result c.new-scope.ensures);
      last = p.last;
      scope = table-gives c.new-scope.result c.place_lines.new.node p.assignments t c.new-scope.ensures p.placed finishes;
      borrows = table-own c.args.text.now c.new-scope.result c.place_lines.new.node p.assignments t c.new-scope.ensures p.placed finishes
          (p.borrows (rw (fresh-bare c.new-scope.result c.new-scope.ensures) tt));
      forward = p.forward;
      boundary = p.boundary;
      header = p.header;
    }
