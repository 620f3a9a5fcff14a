use Rattle.toml_span_lex.proofs.Common.{◌++◌, append_assoc, codes, map, rules, string_bytes, sym, HasWritten, has_written_append, has_written_of_eq}
use Rattle.toml_span_tree.specs.Error.{marked_keys}
use Rattle.toml_span_tree.specs.Listed.{listed, quoted, quoted_key}
use Rattle.toml_span_tree.proofs.message.unexpected_keys.Goals as goal

pub returns : goal.returns
returns g c = λ plain ok.
    let writes = g.W.Write.write_str_gives in
    let found = codes "unexpected keys in table: `" ++ listed quoted_key (marked_keys c.args.keys.now) in
    let names = listed quoted (map string_bytes c.args.expected.now) in
    let expected = codes "`\nexpected: " ++ names in
    let first : HasWritten writes c.args.f.now found c.write.new.self = search rules in
    let second : HasWritten writes c.write.new.self expected c.write-2.new.self = search rules in
    has_written_of_eq _ _ _ _ _
    (sym (append_assoc found (codes "`\nexpected: ") names))
    (has_written_append _ _ _ _ _ _ first second)
