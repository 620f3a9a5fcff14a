use Rattle.toml_span_lex.proofs.Common.{List, [], ◌++◌, ◌∙◌, ap, map, cow_str_bytes, Global, arith, strip_prefix_char}
use Rattle.std.specs.declared.borrow.CowStr.{CowStr}
use Rattle.toml_span_tree.specs.Pointer.{segments}
use Rattle.toml_span_tree.proofs.Pointers.{pointer-empty, pointer-slash, pointer-other}
use Rattle.toml_span_places.proofs.DottedLemmas.{dotted_read, pointed_path}
use Rattle.toml_span_places.proofs.dotted.path_segments.Goals as goal

pub returns-then-is_empty : goal.returns-then-is_empty
returns-then-is_empty c =
    pointed_path c.args.path.now [] _ (pointer-empty c.args.path.now (grind arith))
    (ap (map cow_str_bytes) c.new-parts.ensures.items)

pub returns-in-Some : goal.returns-in-Some
returns-in-Some c =
    let rest = c.in-Some.rest.now in
    let slash = rw c.in-Some.is at (strip_prefix_char 47 c.args.path.now c.strip_prefix.result c.strip_prefix.ensures.cases (omega arith)) in
    pointed_path c.args.path.now (segments rest) _ (pointer-slash c.args.path.now rest slash)
    (c.in_ok-push_segments-in-Some.ensures ∙ ap (λ (xs : List (CowStr Global)). map cow_str_bytes xs ++ segments rest) c.new-parts.ensures.items)

pub returns : goal.returns
returns c =
    let other = rw c.in-None.is at (strip_prefix_char 47 c.args.path.now c.strip_prefix.result c.strip_prefix.ensures.cases (omega arith)) in
    dotted_read Global c.dotted.result c.args.path.now (pointer-other c.args.path.now (grind arith) other) c.dotted.ensures
