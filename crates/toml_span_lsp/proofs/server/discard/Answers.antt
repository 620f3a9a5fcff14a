use Rattle.toml_span_lex.proofs.Common.{◌++◌, arith, length-append, length-take, take, ℕ}
use Rattle.std.proofs.KnownBytes.{Consumes-trans}
use Rattle.toml_span_lsp.proofs.server.discard.Goals as goal

pub rest-preserved : goal.rest-preserved
rest-preserved g c =
    let before = c.rest.invariant in
    let more = take c.in-Ok.read c.read.new.buf in (
      before.0 ++ more,
      Consumes-trans _ _ _ before.0 more before.1 c.in-Ok.ensures.bytes.0,
      omega (arith, before.2, c.in-Ok.ensures.bound.0, c.in-Ok.ensures.bound.1, length-append before.0 more, c.read.auto.buf, length-take {A = ℕ}),
    )
