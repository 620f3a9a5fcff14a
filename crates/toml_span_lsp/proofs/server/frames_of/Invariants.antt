use Rattle.toml_span_lex.proofs.Common.{◌≡◌, take, flat_map}
use Rattle.toml_span_lsp.specs.Frames.{frame_of}
use Rattle.toml_span_lsp.proofs.server.frames_of.Given as goal

abbrev pub invariant-loop-content : goal.invariant-loop-content
invariant-loop-content l =
    l.out.items ≡ flat_map (λ content. frame_of content.items) (take l.content-index l.contents)
