use Rattle.toml_span_lex.proofs.Common.{[], not, refl, ap, sym, ◌∙◌, cow_str_bytes, on_ok_weaker, option_copied_mut}
use Rattle.toml_span_read.specs.declared.earlier.Node.TheViews.{out-Node}
use Rattle.toml_span_read.specs.code.Earlier.{holds}
use Rattle.toml_span_read.proofs.EarlierTree.{puts-found, puts-missing, puts-here, puts-full, none_is, holds-value}
use Rattle.toml_span_read.proofs.earlier.put_last.Goals as goal

pub returns-then-is_none : goal.returns-then-is_none
returns-then-is_none c =
    let k = cow_str_bytes c.args.last.now.name in
    let x = c.in-Some.child.now in
    let found = sym c.get_mut.ensures.value ∙ ap option_copied_mut c.in-Some.is in
    puts-found c.args.node.now _ k [] c.args.last.now.span x _ found refl (c.get_mut.follows.holds _).0 (puts-here x _ c.args.last.now.span refl refl (holds-value x ∙ none_is (out-Node x).value (c.is_none.ensures ∙ ap not c.if-is_none.true)))

pub returns-else-is_none : goal.returns-else-is_none
returns-else-is_none c =
    let k = cow_str_bytes c.args.last.now.name in
    let x = c.in-Some.child.now in
    let found = sym c.get_mut.ensures.value ∙ ap option_copied_mut c.in-Some.is in
    puts-found c.args.node.now _ k [] c.args.last.now.span x x found refl (c.get_mut.follows.holds x).0 (puts-full x c.args.last.now.span (out-Node x).value refl (c.is_none.ensures ∙ ap not c.if-is_none.false))

pub returns-in-None : goal.returns-in-None
returns-in-None c =
    let k = cow_str_bytes c.args.last.now.name in
    let missing = sym c.get_mut.ensures.value ∙ ap option_copied_mut c.in-None.is in
    let x = c.empty-child.result in
    let none = ap (λ f. f []) c.empty-child.ensures in
    on_ok_weaker c.put_child.result
    (puts-missing c.args.node.now _ k [] c.args.last.now.span (holds x) _ (holds c.put_child.new.node) c.get_mut.follows.holds-at-none missing c.empty-child.ensures (puts-here x _ c.args.last.now.span refl refl none)) c.put_child.ensures
