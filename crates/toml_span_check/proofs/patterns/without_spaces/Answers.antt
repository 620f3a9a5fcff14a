use Rattle.std.proofs.Common.{◌≡◌, ◌∙◌, ap, arith, subst, take}
use Rattle.std.proofs.lemmas.Str.{IsCharBoundary-start}
use Rattle.toml_span_check.proofs.Trimmed.{boundary-at-space}
use Rattle.toml_span_check.specs.Patterns.{without_spaces}
use Rattle.toml_span_check.proofs.patterns.without_spaces.Goals as goal

pub returns-in-Some : goal.returns-in-Some
returns-in-Some c =
    let line = c.args.line.now in
    let n = c.kept_length.result in
    (c.in-Some.ensures).cases.0
    ∙ ap (λ m. take m line) (omega arith)
    ∙ subst (λ l. take n l ≡ without_spaces l) c.as_bytes.ensures.value c.kept_length.ensures.kept

pub returns-in-None : goal.returns-in-None
returns-in-None c =
    let line = c.args.line.now in
    let e = c.kept_length.ensures in
    let space = boundary-at-space c.as_bytes.result.now c.kept_length.result e.within e.followed_by_space in
    absurd ((c.in-None.ensures).cases (omega arith) (IsCharBoundary-start line c.utf8.line) (rw c.as_bytes.ensures.value at space))
