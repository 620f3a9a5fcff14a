use Rattle.toml_span_lex.proofs.Common.{◌≡◌, ◌∙◌, ap, arith, inr, rules, string_bytes, subst, sym}
use Rattle.std.specs.List.{All}
use Rattle.toml_span_editor.specs.Documents.{IsCut, joined, start}
use Rattle.toml_span_editor.proofs.PartLemmas.{cuts_left_out, leaves_more, readable_all}
use Rattle.toml_span_editor.proofs.document.read_parts.Goals as goal

pub loop-round-init : goal.loop-round-init
loop-round-init c = record {
  leaves = start c.in_ok-parts.parts.items c.in_ok-parts.ensures.parts;
  kept = c.in_ok-kept.ensures ∙ ap (joined c.args.text.now) c.as_slice.ensures.value;
  cuts = c.in_ok-parts.ensures.cuts;
}

pub joined-requires-in-loop-round : goal.joined-requires-in-loop-round
joined-requires-in-loop-round c =
    subst (All (IsCut c.args.text.now)) (sym c.as_slice-in-loop-round.ensures.value)
    (cuts_left_out c.args.text.now c.loop-round.parts.items c.leave_out.new.parts.items _ _ c.leave_out.ensures c.loop-round.invariant.cuts)

pub loop-round-preserved : goal.loop-round-preserved
loop-round-preserved c = record {
  leaves =
      leaves_more c.args.text.now c.loop-round.round c.in-Some.at c.as_str.result.now c.loop-round.parts.items c.leave_out.new.parts.items _ c.loop-round.invariant.leaves
      (c.as_str.ensures.value ∙ c.loop-round.invariant.kept) (search rules) (search rules) c.leave_out.ensures;
  kept = c.in_ok-kept-2.ensures ∙ ap (joined c.args.text.now) c.as_slice-in-loop-round.ensures.value;
  cuts = cuts_left_out c.args.text.now c.loop-round.parts.items c.leave_out.new.parts.items _ _ c.leave_out.ensures c.loop-round.invariant.cuts;
}

pub returns-in_default : goal.returns-in_default
returns-in_default c =
    readable_all c.args.text.now c.loop-round.round c.loop-round.parts.items (string_bytes c.loop-round.kept) c.as_str.result.now c.in_ok-at.field-0 c.loop-round.invariant.leaves c.loop-round.invariant.kept
    c.as_str.ensures.value c.in_ok-at.ensures c.in_default.is

pub returns : goal.returns
returns c =
    let last : c.loop-round.round ≡ c.most-most.result = omega arith in
    (c.loop-round.round, c.loop-round.invariant.leaves, c.loop-round.invariant.kept, inr (last ∙ c.most-most.ensures))
