use Rattle.std.proofs.Common.{◌≡◌, ◌∙◌, ◌++◌, [], ap, codes, cond, string_bytes, sym}
use Rattle.std.proofs.lemmas.Bool.{ne_eqb}
use Rattle.std.proofs.lemmas.List.{append_assoc}
use Rattle.toml_span_mistakes.specs.UnknownKeys.{in_place_of, named}
use Rattle.toml_span_mistakes.proofs.unknown_keys.push_in_place_of.Goals as goal

pub returns : goal.returns
returns c =
    let old = string_bytes c.args.out.now in
    let more = codes " in place of " in
    let name = named c.args.name.now in
    let other : old ++ (more ++ name) ≡ old ++ in_place_of c.args.count c.args.name.now =
    ap (λ one. old ++ cond one [] (more ++ name)) (sym (ne_eqb c.args.count 1 c.if-count-eq1.false)) in
    c.in_ok-push_named.ensures ∙ ap (λ t. t ++ name) c.in_ok-push_str.ensures.bytes ∙ append_assoc old more name ∙ other
