use Rattle.toml_span_lex.proofs.Common.{[]}
use Rattle.toml_span_lsp.specs.Served.{Goes, streams}
use Rattle.toml_span_lsp.proofs.server.serve.Given as goal
use Rattle.toml_span_lsp.specs.declared.state.Phase.TheVariants.{New}

abbrev pub invariant-messages : goal.invariant-messages
invariant-messages g l = Goes New []
    (streams (g.R.Source.remaining l.fn.reader) (g.R.Source.failed l.fn.reader) (g.W.Sink.contents l.fn.writer) (g.W.Sink.failed l.fn.writer))
    l.server.phase l.bytes.items
    (streams (g.R.Source.remaining l.reader) (g.R.Source.failed l.reader) (g.W.Sink.contents l.writer) (g.W.Sink.failed l.writer))
