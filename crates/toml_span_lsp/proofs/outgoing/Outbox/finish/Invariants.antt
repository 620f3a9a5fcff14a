use Rattle.toml_span_lex.proofs.Common.{map, option_map}
use Rattle.toml_span_lsp.specs.Messages.{Sends}
use Rattle.toml_span_lsp.proofs.outgoing.Outbox.finish.Given as goal

abbrev pub invariant-loop-call : goal.invariant-loop-call
invariant-loop-call l = Sends (option_map (λ text. text.items) l.fn.response) (map (λ text. text.items) l.messages.items)
