use Rattle.toml_span_lex.proofs.Common.{◌≡◌, arith, sym, ap, ◌∙◌, append_assoc, ◌++◌, ◌∷◌, [], ◌+◌, ◌/◌, ◌%◌, decimal, decimal_step, decimal_digit}
use Rattle.toml_span_lines.proofs.lines.+push_number.Goals as goal
use Rattle.toml_span_lines.proofs.lines.+push_number.Goals.{then-number-ge10+in_ok-push_number, else-number-ge10}

pub returns : goal.returns
returns t c =
    let n = c.args.number in
    let out = c.args.out.now.items in
    let digit = (48 + n % 10) ∷ [] in
    elim c.if-number-ge10.branch [
      | then-number-ge10+in_ok-push_number w ↦
          let step : decimal n ≡ decimal (n / 10) ++ digit =
          decimal_step n (omega (arith, w.if-number-ge10.true)) (omega (arith, c.ranges.number.fits)) in
          c.in_ok-push.ensures.items
          ∙ ap (λ o. o ++ digit) (ap (λ v. v.items) w.out-is ∙ w.in_ok-push_number.ensures)
          ∙ append_assoc out (decimal (n / 10)) digit
          ∙ ap (λ d. out ++ d) (sym step)
      | else-number-ge10 w ↦
          let small : n % 10 ≡ n = omega (arith, w.if-number-ge10.false) in
          c.in_ok-push.ensures.items
          ∙ ap (λ o. o ++ digit) (ap (λ v. v.items) w.out-is)
          ∙ ap (λ d. out ++ ((48 + d) ∷ [])) small
          ∙ ap (λ d. out ++ d) (sym (decimal_digit n w.if-number-ge10.false))
    ]
