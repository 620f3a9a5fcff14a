use Rattle.std.proofs.Common.{◌∙◌, ◌∷◌, [], ap, cond, drop, subst, sym, true, false}
use Rattle.std.proofs.lemmas.Str.Pattern.{starts_text}
use Rattle.std.specs.Str.{IsCharBoundary}
use Rattle.toml_span_check.proofs.patterns.without_bom.Goals as goal

pub returns-in-Some : goal.returns-in-Some
returns-in-Some c =
    let text = c.args.text.now in
    let h = (c.in-Some.ensures).cases in
    let starts = starts_text true (239 ∷ 187 ∷ 191 ∷ []) text (h.0, h.1, subst (IsCharBoundary text) (sym h.1.0) h.1.2) in
    h.2 ∙ ap (λ n. drop n text) h.1.0 ∙ ap (λ t. cond t (drop 3 text) text) starts

pub returns-in-None : goal.returns-in-None
returns-in-None c =
    let text = c.args.text.now in
    let starts = starts_text false (239 ∷ 187 ∷ 191 ∷ []) text (c.in-None.ensures).cases in
    ap (λ t. cond t (drop 3 text) text) starts
