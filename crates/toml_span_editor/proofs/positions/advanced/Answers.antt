use Rattle.toml_span_lex.proofs.Common.{◌<◌, ◌≤◌, ◌⊎◌, length, inl, inr, sym, refl, ◌∙◌, arith, cases_lt}
use Rattle.toml_span_editor.proofs.PositionLemmas.{position_from-next, position_from-done}
use Rattle.toml_span_editor.proofs.positions.advanced.Goals as goal

pub loop-at-preserved : goal.loop-at-preserved
loop-at-preserved c =
    position_from-next c.args.encoding c.loop-at.position c.stepped-position.result c.args.text.now c.loop-at.at c.args.to _ _ (omega arith) (omega arith) refl refl c.stepped-position.ensures
    ∙ c.loop-at.invariant

pub returns : goal.returns
returns c =
    let at_end : (c.args.to ≤ c.loop-at.at) ⊎ (length c.args.text.now ≤ c.loop-at.at) =
    elim (cases_lt c.loop-at.at c.args.to) [ inl lt ↦ inr (omega arith) | inr ge ↦ inl ge ] in
    sym (position_from-done c.args.encoding c.loop-at.position c.args.text.now c.loop-at.at c.args.to at_end)
    ∙ c.loop-at.invariant
