use Rattle.toml_span_lex.proofs.Common.{◌∙◌, get_or, ap, sym, Global}
use Rattle.std.specs.declared.borrow.CowStr.TheVariants as cow
use Rattle.toml_span_lex.proofs.MadeStrings.{no_string, no_ends, borrows_same, borrows_own, where_same, where_changed, is_string}
use Rattle.toml_span_lex.proofs.strings.string_at.Goals as goal
use Rattle.toml_span_lex.proofs.strings.string_at.Goals.{in-None, in-Some}

pub returns-in-Err-clause-string : goal.returns-in-Err-clause-string
returns-in-Err-clause-string c =
    no_string Global c.args.text.now c.args.at c.content_from-from.result _ _ c.in-Err.stop (ap (λ xs. get_or xs c.args.at 0) c.as_bytes.ensures.value)
    (rw c.as_bytes-2.ensures.value at c.opens_multi-multi.ensures) c.requires.quote c.content_from-from.ensures.begins c.in-Err.ensures.content

pub returns-in-Err-clause-ends : goal.returns-in-Err-clause-ends
returns-in-Err-clause-ends c = no_ends Global c.args.text.now c.content_from-from.result c.in-Err.stop c.in-Err.ensures.ends

pub returns-after-kept-clause-string : goal.returns-after-kept-clause-string
returns-after-kept-clause-string c =
    let text = c.args.text.now in
    let at = c.args.at in
    let from = c.content_from-from.result in
    let m = c.opens_multi-multi.result in
    let to = c.in-Ok.to in
    let end = c.in-Ok.end in
    let g = c.in-Ok.ensures.content in
    let qe = ap (λ xs. get_or xs at 0) c.as_bytes.ensures.value in
    let me = rw c.as_bytes-2.ensures.value at c.opens_multi-multi.ensures in
    let begins = c.content_from-from.ensures.begins in
    elim c.match-kept.branch [
      | in-None w ↦
          let k = rw w.in-None.is at g.2 in (
            rw w.val-is (is_string text _ at from to end m _ _ g.0 _ qe me c.requires.quote begins g.1 (w.range.ensures.value ∙ sym k) c.range-src.ensures.value c.content_span-span.ensures),
            rw (w.val-is, c.content_span-span.ensures) (borrows_same {Z = Global} text _ at from g.1.at to end m (cow.Borrowed w.range.result) begins g.1.closes g.1.to_is tt w.range.ensures.value),
          )
      | in-Some w ↦
          let k = rw w.in-Some.is at g.2 in (
            rw w.val-is (is_string text _ at from to end m _ _ g.0 _ qe me c.requires.quote begins g.1 k.0 c.range-src.ensures.value c.content_span-span.ensures),
            rw (w.val-is, c.content_span-span.ensures) (borrows_own {Z = Global} text at from to end m g.0 (cow.Owned w.in-Some.s) begins c.in-Ok.ensures.ends.on tt k.0 k.1 c.in-Ok.ensures.ends.to_boundary.0),
          )
    ]

pub returns-after-kept-clause-borrows : goal.returns-after-kept-clause-borrows
returns-after-kept-clause-borrows c =
    let text = c.args.text.now in
    let at = c.args.at in
    let from = c.content_from-from.result in
    let m = c.opens_multi-multi.result in
    let to = c.in-Ok.to in
    let g = c.in-Ok.ensures.content in
    elim c.match-kept.branch [
      | in-None w ↦ rw (w.val-is, c.content_span-span.ensures) (where_same {Z = Global} text at from to m (cow.Borrowed w.range.result) c.requires.quote tt w.range.ensures.value)
      | in-Some w ↦
          let k = rw w.in-Some.is at g.2 in
          rw (w.val-is, c.content_span-span.ensures) (where_changed {Z = Global} text _ at from to m g.0 (cow.Owned w.in-Some.s) tt k.0 k.1 c.in-Ok.ensures.ends.to_boundary.0 k.2)
    ]
