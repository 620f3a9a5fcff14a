use Rattle.std.proofs.Common.{◌≡◌, ◌∙◌, ◌++◌, ◌∷◌, ap, arith, drop, sym, take}
use Rattle.std.proofs.lemmas.List.{take-append-drop}
use Rattle.std.proofs.lemmas.Str.Pattern.{drop_at_char}
use Rattle.toml_span_check.specs.Folders.{last_name}
use Rattle.toml_span_check.proofs.Names.{last_name-after, last_name-without, no-slash}
use Rattle.toml_span_check.proofs.folder.last_name.Goals as goal

pub returns-in-Some : goal.returns-in-Some
returns-in-Some c =
    let path = c.args.path.now in
    let h = (c.in-Some.ensures).cases in
    let front = take h.0 path in
    let back = drop h.1 path in
    let whole : path ≡ front ++ 47 ∷ back =
    sym (take-append-drop h.0 path) ∙ ap (λ l. front ++ l) (drop_at_char 47 path h.0 h.1 h.2.1 (omega arith)) in
    h.4 ∙ sym (last_name-after front back (no-slash back h.2.0)) ∙ ap last_name (sym whole)

pub returns-in-None : goal.returns-in-None
returns-in-None c = sym (last_name-without c.args.path.now (no-slash c.args.path.now (c.in-None.ensures).cases))
