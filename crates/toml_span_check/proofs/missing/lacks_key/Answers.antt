use Rattle.toml_span_lex.proofs.Common.{◌∙◌, ◌++◌, [], ap, codes, string_bytes}
use Rattle.toml_span_tree.specs.Value.{inner_of, kind_name, view}
use Rattle.toml_span_check.proofs.Pieces.{five}
use Rattle.toml_span_check.proofs.missing.lacks_key.Goals as goal

pub returns : goal.returns
returns c =
    five [] (codes "this ") (kind_name (inner_of (view c.args.value.now))) (codes " has no key `") c.args.name.now (codes "`") _ _ _ _ _ c.in_ok-out.ensures.ok
    (c.in_ok-push_str.ensures.bytes ∙ ap (λ k. string_bytes c.in_ok-out.out ++ k) c.type_str.ensures)
    c.in_ok-push_str-2.ensures.bytes c.in_ok-push_str-3.ensures.bytes c.in_ok-push_str-4.ensures.bytes
