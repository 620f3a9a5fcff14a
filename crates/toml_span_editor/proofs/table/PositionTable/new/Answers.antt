use Rattle.toml_span_lex.proofs.Common.{◌≡◌, ◌*◌, ◌-◌, ℕ, List, [], ◌∷◌, ◌++◌, ◌<◌, ◌+◌, ap, ◌∙◌, sym, drop, length, get_or, arith, inl, inr, cases_lt, length-append, get_or_append_left, get_or-append_seam}
use Rattle.toml_span_editor.specs.declared.positions.Position.{Position}
use Rattle.toml_span_editor.specs.Positions.{position_from, position_of, first}
use Rattle.toml_span_editor.proofs.PositionLemmas.{position_from-to, position_from-zero}
use Rattle.toml_span_editor.proofs.table.PositionTable.new.Goals as goal

-- one mark more
marked_push : (xs ys : List Position) (x : Position) (f : ℕ → Position) (n : ℕ) → ys ≡ xs ++ x ∷ [] → length xs ≡ n → ((k : ℕ) (d : Position) → k < length xs → get_or xs k d ≡ f k) → x ≡ f n → (k : ℕ) (d : Position) → k < length ys → get_or ys k d ≡ f k
marked_push xs ys x f n pushed count before here k d below =
    let total : length ys ≡ length xs + 1 = ap length pushed ∙ length-append xs (x ∷ []) in
    elim (cases_lt k (length xs)) [
      | inl lt ↦ ap (λ zs. get_or zs k d) pushed ∙ get_or_append_left xs (x ∷ []) d k lt ∙ before k d lt
      | inr ge ↦
          let last : k ≡ length xs = omega arith in
          let this : k ≡ n = omega arith in
          ap (λ zs. get_or zs k d) pushed ∙ ap (λ i. get_or (xs ++ x ∷ []) i d) last ∙ get_or-append_seam xs x [] d ∙ here ∙ ap f (sym this)
    ]

pub loop-k-init : goal.loop-k-init
loop-k-init c =
    let none : length c.new-marks.result.items ≡ 0 = ap length c.new-marks.ensures.items in
    record {
      before = omega arith;
      count = none;
      here = sym (position_from-zero c.args.encoding first c.args.text.now);
      marked = λ k d below. absurd (omega arith);
    }

pub loop-k-preserved : goal.loop-k-preserved
loop-k-preserved c =
    let e = c.args.encoding in
    let text = c.args.text.now in
    let to = c.loop-k.k * 16 in
    let from = c.loop-k.from in
    let here : c.advanced-position.result ≡ position_of c.args.encoding c.args.text.now (c.loop-k.k * 16) =
    c.advanced-position.ensures
    ∙ ap (λ p. position_from e p (to - from) (drop from text)) c.loop-k.invariant.here
    ∙ position_from-to e first text from to c.loop-k.invariant.before in
    let total : length c.push.new.self.items ≡ length c.loop-k.marks.items + 1 =
    ap length c.in_ok-push.ensures.items ∙ length-append c.loop-k.marks.items (c.advanced-position.result ∷ []) in
    record {
      before = omega arith;
      count = omega arith;
      here = here;
      marked = marked_push c.loop-k.marks.items c.push.new.self.items c.advanced-position.result (λ k. position_of e text (k * 16)) c.loop-k.k c.in_ok-push.ensures.items c.loop-k.invariant.count c.loop-k.invariant.marked here;
    }
