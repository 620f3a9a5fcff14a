use Rattle.std.proofs.Common.{◌≡◌, ◌∙◌, ◌-◌, arith, drop, length, sym, take, ap, subst}
use Rattle.std.specs.Str.{IsCharBoundary}
use Rattle.toml_span_files.proofs.Paths.{folder_of-without, is_at-slash, name_of-without, no-slash}
use Rattle.toml_span_files.proofs.place.split.Goals as goal

pub split_at-requires : goal.split_at-requires
split_at-requires c =
    let path = c.args.name.now in
    let h = (c.in-Some.ensures).cases in
    let e : length path - length c.in-Some.rest.now ≡ h.1 = omega arith in
    let is = is_at-slash h.0 h.1 path h.2.0 h.2.1 (omega arith) (omega arith) in
    subst (λ n. IsCharBoundary path n) (sym e) is.boundary

pub returns-in-Some : goal.returns-in-Some
returns-in-Some c =
    let path = c.args.name.now in
    let h = (c.in-Some.ensures).cases in
    let e : length path - length c.in-Some.rest.now ≡ h.1 = omega arith in
    let is = is_at-slash h.0 h.1 path h.2.0 h.2.1 (omega arith) (omega arith) in (
      c.split_at.ensures.front ∙ ap (λ n. take n path) e ∙ is.folder,
      c.split_at.ensures.back ∙ ap (λ n. drop n path) e ∙ is.name,
    )

pub returns-in-None : goal.returns-in-None
returns-in-None c =
    let none = no-slash c.args.name.now (c.in-None.ensures).cases in
    (sym (folder_of-without c.args.name.now none), sym (name_of-without c.args.name.now none))
