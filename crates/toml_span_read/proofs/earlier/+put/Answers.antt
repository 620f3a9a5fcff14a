use Rattle.toml_span_lex.proofs.Common.{ap, refl, sym, ◌∙◌, cow_str_bytes, on_ok_weaker, option_copied_mut}
use Rattle.toml_span_read.specs.code.Earlier.{holds}
use Rattle.toml_span_read.proofs.EarlierTree.{puts-found, puts-missing, parts-front}
use Rattle.toml_span_read.proofs.earlier.+put.Goals as goal

pub returns-in-Some : goal.returns-in-Some
returns-in-Some t c =
    let k = cow_str_bytes c.part-item.result.name in
    let front = parts-front c.args.inner.now c.part-item.result _ c.args.last.now c.in-len1-up.len_at_least c.part-item.is in
    let found = sym c.get_mut.ensures.value ∙ ap option_copied_mut c.in-Some.is in
    let w = c.put.new.node in
    let written = (c.get_mut.follows.holds w).0 in
    rw front (on_ok_weaker c.put.result (puts-found c.args.node.now _ k _ c.args.last.now.span _ w found refl written) c.put.ensures)

pub returns-in_ok-put-in-None : goal.returns-in_ok-put-in-None
returns-in_ok-put-in-None t c =
    let k = cow_str_bytes c.part-item.result.name in
    let front = parts-front c.args.inner.now c.part-item.result _ c.args.last.now c.in-len1-up.len_at_least c.part-item.is in
    let missing = sym c.get_mut.ensures.value ∙ ap option_copied_mut c.in-None.is in
    let puts = puts-missing c.args.node.now _ k _ c.args.last.now.span (holds c.empty-child.result) _ (holds c.put_child.new.node) c.get_mut.follows.holds-at-none missing c.empty-child.ensures c.in_ok-put-in-None.ensures in
    rw front (on_ok_weaker c.put_child.result puts c.put_child.ensures)
