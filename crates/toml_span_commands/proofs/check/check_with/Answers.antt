use Rattle.toml_span_commands.proofs.Configurations.{checks-configured}
use Rattle.toml_span_commands.proofs.check.check_with.Goals as goal

pub returns-in-Ok : goal.returns-in-Ok
returns-in-Ok g c =
    checks-configured c.in-Ok.listed.files.items c.args.options.request c.configure.new.options.request c.args.options.fixing
    c.configure.new.options.fixing (g.O.Sink.contents c.args.out.now) (g.O.Sink.contents c.check_listed.new.out)
    (g.O.Sink.failed c.check_listed.new.out) (g.E.Sink.contents c.args.errors.now)
    (g.E.Sink.contents c.check_listed.new.errors) (g.E.Sink.failed c.check_listed.new.errors) c.check_listed.result
    c.configure.ensures.task c.configure.ensures.fixing c.check_listed.ensures
