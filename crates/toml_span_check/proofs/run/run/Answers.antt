use Rattle.toml_span_check.proofs.Endings.{ends-quiet}
use Rattle.toml_span_check.proofs.run.run.Goals as goal

pub returns-then-request : goal.returns-then-request
returns-then-request g c =
    rw c.if-request.true (ends-quiet g.S.Schemas.says c.args.request.now.format c.args.request.now.task c.args.request.now.pointer.now _ _ _ _ _ _ _ _ _ _ c.run_quiet.ensures c.requires.out c.requires.errors)

pub returns-else-request : goal.returns-else-request
returns-else-request g c = rw c.if-request.false c.run_aloud.ensures
