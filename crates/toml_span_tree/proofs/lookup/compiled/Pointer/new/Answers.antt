use Rattle.toml_span_lex.proofs.Common.{List, ◌++◌, Some, map, sym, ap, ◌∙◌, arith, strip_prefix_char}
use Rattle.toml_span_lex.specs.declared.key.Key.{Key}
use Rattle.toml_span_tree.specs.Names.{name_in}
use Rattle.toml_span_tree.specs.Pointer.{segments}
use Rattle.toml_span_tree.proofs.Pointers.{pointer-empty, pointer-slash, pointer-other}
use Rattle.toml_span_tree.proofs.lookup.compiled.Pointer.new.Goals as goal

pub returns-then-is_empty : goal.returns-then-is_empty
returns-then-is_empty c =
    ap (λ (ks : List Key). Some (map name_in ks)) c.new-names.ensures.items
    ∙ sym (pointer-empty c.args.pointer.now (grind arith))

pub returns-in-Some : goal.returns-in-Some
returns-in-Some c =
    let path = c.in-Some.path.now in
    let slash = rw c.in-Some.is at (strip_prefix_char 47 c.args.pointer.now c.strip_prefix.result c.strip_prefix.ensures.cases (omega arith)) in
    ap Some (c.in_ok-push_segments-in-Some.ensures ∙ ap (λ (ks : List Key). map name_in ks ++ segments path) c.new-names.ensures.items)
    ∙ sym (pointer-slash c.args.pointer.now path slash)

pub returns : goal.returns
returns c =
    let other = rw c.in-None.is at (strip_prefix_char 47 c.args.pointer.now c.strip_prefix.result c.strip_prefix.ensures.cases (omega arith)) in
    sym (pointer-other c.args.pointer.now (grind arith) other)
