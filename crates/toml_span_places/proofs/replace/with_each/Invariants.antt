use Rattle.toml_span_lex.proofs.Common.{◌≡◌, ◌++◌, drop, map}
use Rattle.toml_span_places.specs.Replace.{edit_of}
use Rattle.toml_span_places.proofs.replace.with_each.Given as goal

abbrev pub invariant-loop-span : goal.invariant-loop-span
invariant-loop-span l =
    map edit_of l.list.items ++ map (λ span. (span, l.fn.text)) (drop l.span-index l.spans)
    ≡ map (λ span. (span, l.fn.text)) l.spans
