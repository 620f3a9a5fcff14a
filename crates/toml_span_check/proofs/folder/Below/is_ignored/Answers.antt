use Rattle.std.proofs.Common.{◌∙◌, ◌+◌, ◌-◌, ap, arith, length, map, sym}
use Rattle.std.specs.Option.{unwrap_or}
use Rattle.toml_span_check.specs.Folders.{decided_at, ignore}
use Rattle.toml_span_check.proofs.Ignored.{at-next}
use Rattle.toml_span_check.proofs.folder.Below.is_ignored.Goals as goal

pub returns-in-Some-2 : goal.returns-in-Some-2
returns-in-Some-2 c =
    let items = c.args.self.now.ignores.items in
    let path = c.args.path.now in
    let one = c.in-Some-get.ignore.now in
    let h = (c.in-Some-get.ensures).lookup in
    let step = at-next (length items) c.loop.counter items c.deref.result.now path _ _ c.args.is_directory c.loop.next c.in-Some.at one _
    c.in_ok-found.field-0 (omega arith) c.in-Some.is c.deref.ensures.value h.3.0 h.1 c.as_slice-patterns.ensures.value
    c.as_str.ensures.value c.in_ok-inside.ensures c.in_ok-found.ensures in
    let rest = decided_at (length items - (c.loop.counter + 1)) (map ignore items) path c.args.is_directory one.above in
    ap (λ o. unwrap_or o rest) (sym c.in-Some-2.is) ∙ step ∙ c.loop.invariant

pub loop-preserved : goal.loop-preserved
loop-preserved c =
    let items = c.args.self.now.ignores.items in
    let path = c.args.path.now in
    let one = c.in-Some-get.ignore.now in
    let h = (c.in-Some-get.ensures).lookup in
    let step = at-next (length items) c.loop.counter items c.deref.result.now path _ _ c.args.is_directory c.loop.next c.in-Some.at one _
    c.in_ok-found.field-0 (omega arith) c.in-Some.is c.deref.ensures.value h.3.0 h.1 c.as_slice-patterns.ensures.value
    c.as_str.ensures.value c.in_ok-inside.ensures c.in_ok-found.ensures in
    let rest = decided_at (length items - (c.loop.counter + 1)) (map ignore items) path c.args.is_directory one.above in
    ap (λ o. unwrap_or o rest) (sym c.in_default-2.is) ∙ step ∙ c.loop.invariant
