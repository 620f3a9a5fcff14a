use Rattle.std.proofs.Common.{◌∙◌, None, ap, arith, cond, drop, false, length, subst, sym, true}
use Rattle.std.proofs.lemmas.Str.Pattern.{starts_text, strip_prefix_char}
use Rattle.std.specs.Str.{IsCharBoundary}
use Rattle.toml_span_config.specs.Sources.{after_slash}
use Rattle.toml_span_config.proofs.Below.{after}
use Rattle.toml_span_config.proofs.paths.below.Goals as goal

pub returns-in-Some : goal.returns-in-Some
returns-in-Some c =
    let folder = c.args.folder.now in
    let path = c.args.path.now in
    let rest = c.in-Some.rest.now in
    let h = (c.in-Some.ensures).cases in
    let starts = starts_text true folder path (h.0, h.1, subst (IsCharBoundary path) (sym h.1.0) h.1.2) in
    let slash = strip_prefix_char 47 rest c.strip_prefix-in-Some.result c.strip_prefix-in-Some.ensures.cases (omega arith) in
    after rest c.strip_prefix-in-Some.result slash
    ∙ ap after_slash (h.2 ∙ ap (λ n. drop n path) h.1.0)
    ∙ ap (λ t. cond t (after_slash (drop (length folder) path)) None) starts

pub returns-in-None : goal.returns-in-None
returns-in-None c =
    let folder = c.args.folder.now in
    let path = c.args.path.now in
    let starts = starts_text false folder path (c.in-None.ensures).cases in
    ap (λ t. cond t (after_slash (drop (length folder) path)) None) starts
