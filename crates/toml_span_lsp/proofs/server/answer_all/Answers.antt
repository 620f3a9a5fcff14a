use Rattle.toml_span_lsp.proofs.Served.{ends_then, goes_stay, goes_then}
use Rattle.toml_span_lsp.proofs.server.answer_all.Goals as goal

pub messages-init : goal.messages-init
messages-init g c = goes_stay _ _ _ c.requires.phase c.requires.writer

pub next-requires-clause-phase : goal.next-requires-clause-phase
next-requires-clause-phase g c = c.messages.invariant.goes_on

pub next-requires-clause-writer : goal.next-requires-clause-writer
next-requires-clause-writer g c = c.messages.invariant.good

pub messages-preserved : goal.messages-preserved
messages-preserved g c = goes_then _ _ _ _ _ _ _ _ _ c.messages.invariant c.in-None.ensures

pub returns-in-Some : goal.returns-in-Some
returns-in-Some g c = ends_then _ _ _ _ _ _ _ _ c.messages.invariant c.in-Some.ensures
