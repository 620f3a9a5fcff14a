use Rattle.std.proofs.Common.{arith}
use Rattle.toml_span_config.proofs.Entries.{one-more}
use Rattle.toml_span_config.proofs.config.entries_of.Goals as goal

pub loop-table-preserved : goal.loop-table-preserved
loop-table-preserved c =
    one-more c.loop-table.entries.items c.push.new.self.items c.loop-table.yielded c.in-Some-table.table c.in_ok-entry_of.field-0
    c.len-at.result c.loop-table.invariant (omega arith) c.in_ok-entry_of.ensures.content (c.in_ok-push.ensures).items
