use Rattle.toml_span_lex.proofs.Common.{◌∙◌, ℕ, List, Vec, Global, subst, sym, ap, map, map-append, option_map}
use Rattle.toml_span_lsp.specs.Messages.{Sends}
use Rattle.toml_span_lsp.proofs.Responses.{sends_first, sends_more}
use Rattle.toml_span_lsp.proofs.outgoing.Outbox.finish.Goals as goal

pub loop-call-init : goal.loop-call-init
loop-call-init c = sends_first _ _ c.in_ok-messages.ensures

pub loop-call-preserved : goal.loop-call-preserved
loop-call-preserved c =
    let items : Vec ℕ Global → List ℕ = λ text. text.items in
    let grown = ap (map items) c.in_ok-push.ensures.items ∙ map-append items c.loop-call.messages.items _ in
    subst (Sends (option_map items c.args.response)) (sym grown) (sends_more _ _ _ c.loop-call.invariant c.in_ok-message.ensures)
