use Rattle.std.proofs.Common.{◌∙◌, ap, codes, cond, drop, false, subst, sym, true}
use Rattle.std.proofs.lemmas.Str.Pattern.{starts_text}
use Rattle.std.specs.Str.{IsCharBoundary}
use Rattle.toml_span_check.proofs.folder.without_dot.Goals as goal

pub returns-in-Some : goal.returns-in-Some
returns-in-Some c =
    let path = c.args.path.now in
    let h = (c.in-Some.ensures).cases in
    let starts = starts_text true (codes "./") path (h.0, h.1, subst (IsCharBoundary path) (sym h.1.0) h.1.2) in
    h.2 ∙ ap (λ n. drop n path) h.1.0 ∙ ap (λ t. cond t (drop 2 path) path) starts

pub returns-in-None : goal.returns-in-None
returns-in-None c =
    let path = c.args.path.now in
    let starts = starts_text false (codes "./") path (c.in-None.ensures).cases in
    ap (λ t. cond t (drop 2 path) path) starts
