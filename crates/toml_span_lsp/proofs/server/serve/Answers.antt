use Rattle.toml_span_lsp.proofs.Served.{ends_front, ends_memory, ends_status, ends_then, goes_start, goes_then}
use Rattle.toml_span_lsp.proofs.server.serve.Goals as goal

pub messages-init : goal.messages-init
messages-init g c = goes_start _ _ _ c.new-server.ensures c.new-bytes.ensures.items c.requires

pub next_reading-requires-clause-phase : goal.next_reading-requires-clause-phase
next_reading-requires-clause-phase g c = c.messages.invariant.goes_on

pub next_reading-requires-clause-writer : goal.next_reading-requires-clause-writer
next_reading-requires-clause-writer g c = c.messages.invariant.good

pub messages-preserved : goal.messages-preserved
messages-preserved g c = goes_then _ _ _ _ _ _ _ _ _ c.messages.invariant c.in-None.ensures

pub returns-in-Some-clause-status : goal.returns-in-Some-clause-status
returns-in-Some-clause-status g c = ends_status _ _ _ _ _ c.in-Some.ensures

pub returns-in-Some-clause-frames : goal.returns-in-Some-clause-frames
returns-in-Some-clause-frames g c = ends_front _ _ _ _ _ (ends_then _ _ _ _ _ _ _ _ c.messages.invariant c.in-Some.ensures)

pub returns-in-Some-clause-served : goal.returns-in-Some-clause-served
returns-in-Some-clause-served g c = ends_then _ _ _ _ _ _ _ _ c.messages.invariant c.in-Some.ensures

pub returns-clause-frames : goal.returns-clause-frames
returns-clause-frames g c =
    ends_front _ _ _ _ _ (ends_then _ _ _ _ _ _ _ _ c.messages.invariant (ends_memory _ _ _ _ _ _ _ c.end_with.ensures))

pub returns-clause-served : goal.returns-clause-served
returns-clause-served g c = ends_then _ _ _ _ _ _ _ _ c.messages.invariant (ends_memory _ _ _ _ _ _ _ c.end_with.ensures)
