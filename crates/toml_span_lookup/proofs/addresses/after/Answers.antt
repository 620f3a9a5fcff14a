use Rattle.std.proofs.Common.{◌∙◌, None, Some, ap, cond, drop, false, length, subst, sym, true}
use Rattle.std.proofs.lemmas.Str.Pattern.{starts_text}
use Rattle.std.specs.Str.{IsCharBoundary}
use Rattle.toml_span_lookup.proofs.addresses.after.Goals as goal

pub returns-in-Some : goal.returns-in-Some
returns-in-Some c =
    let front = c.args.front.now in
    let text = c.args.text.now in
    let h = (c.in-Some.ensures).cases in
    let starts = starts_text true front text (h.0, h.1, subst (IsCharBoundary text) (sym h.1.0) h.1.2) in
    ap Some (h.2 ∙ ap (λ n. drop n text) h.1.0) ∙ ap (λ t. cond t (Some (drop (length front) text)) None) starts

pub returns-in-None : goal.returns-in-None
returns-in-None c =
    let front = c.args.front.now in
    let text = c.args.text.now in
    ap (λ t. cond t (Some (drop (length front) text)) None) (starts_text false front text (c.in-None.ensures).cases)
