use Rattle.toml_span_lex.proofs.Common.{◌≡◌, List, ◌++◌, append_assoc, codes, rules, HasWritten, has_written_append, has_written_of_eq}
use Rattle.toml_span_tree.proofs.message.deprecated.Goals as goal

regrouped : {A : Type 0} (a b c d : List A) → a ++ (b ++ c ++ d) ≡ a ++ b ++ c ++ d
regrouped a b c d = search (rules, append_assoc)

pub returns : goal.returns
returns g c = λ plain ok.
    let writes = g.W.Write.write_str_gives in
    let old = codes "field '" ++ c.args.old.now in
    let new = codes "' is deprecated, '" ++ c.args.new.now ++ codes "' has replaced it" in
    let first : HasWritten writes c.args.f.now old c.write.new.self = search rules in
    let second : HasWritten writes c.write.new.self new c.write-2.new.self = search rules in
    has_written_of_eq _ _ _ _ _
    (regrouped old (codes "' is deprecated, '") c.args.new.now (codes "' has replaced it"))
    (has_written_append _ _ _ _ _ _ first second)
