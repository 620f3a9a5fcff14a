use Rattle.toml_span_lex.proofs.Common.{rules, arith, ◌≡◌, length, inl, inr, IsCharBoundary, cases_lt}
use Rattle.toml_span_laws.proofs.judged.places_are_judged.Goals as goal
use Rattle.toml_span_laws.proofs.judged.places_are_judged.Goals.{then-is_char_boundary, else-is_char_boundary}

pub loop-at-preserved : goal.loop-at-preserved
loop-at-preserved c = λ i l b.
    elim (cases_lt i c.loop-at.at) [
      | inl before ↦ c.loop-at.invariant i before b
      | inr g ↦
          let e : i ≡ c.loop-at.at = omega (arith, l, g) in
          elim c.if-is_char_boundary.branch [
            | then-is_char_boundary w ↦ rw e w.place_is_judged.ensures
            | else-is_char_boundary w ↦ let t : IsCharBoundary c.args.text.now c.loop-at.at = rw e at b in search rules
          ]
    ]

pub returns : goal.returns
returns c = λ i b.
    elim (cases_lt i c.loop-at.at) [
      | inl before ↦ c.loop-at.invariant i before b
      | inr g ↦ let e : i ≡ length c.args.text.now = search (rules, g, b) in rw e c.place_is_judged-2.ensures
    ]
