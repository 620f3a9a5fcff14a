use Rattle.toml_span_lex.proofs.Common.{arith, sym, ◌∷◌, []}
use Rattle.toml_span_c.proofs.Arrays.{laid-set, laid-past}
use Rattle.toml_span_c.proofs.fill.put_record.Goals as goal

pub returns-then-at-room : goal.returns-then-at-room
returns-then-at-room c = laid-set c.args.at c.args.added c.args.nodes.now (omega (arith, c.room_of-room.ensures, c.if-at-room.true))

pub returns-else-at-room : goal.returns-else-at-room
returns-else-at-room c = sym (laid-past c.args.at (c.args.added ∷ []) c.args.nodes.now (omega (arith, c.room_of-room.ensures, c.if-at-room.false)))
