use Rattle.toml_span_typed.specs.TableHelper.{state_of}
use Rattle.toml_span_example.proofs.uses.Reading.{port-read, port-refused}
use Rattle.toml_span_example.proofs.uses.port_of.Goals as goal

pub returns-clause-port : goal.returns-clause-port
returns-clause-port c =
    let parsed = c.in_ok-root.ensures in
    port-read c.args.text.now c.in_ok-root.root (state_of c.in-Ok.helper) _ c.required.result parsed.answers parsed.root c.in-Ok.ensures.answer c.required.ensures.answer

pub returns-clause-refused : goal.returns-clause-refused
returns-clause-refused c =
    let parsed = c.in_ok-root.ensures in
    port-refused c.args.text.now c.in_ok-root.root (state_of c.in-Ok.helper) _ c.required.result parsed.answers parsed.root c.in-Ok.ensures.answer c.required.ensures.answer
