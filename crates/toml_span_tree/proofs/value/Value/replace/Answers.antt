use Rattle.toml_span_lex.proofs.Common.{Some, refl, sym, ap, ◌∙◌, arith, strip_prefix_char}
use Rattle.toml_span_tree.specs.Value.{view}
use Rattle.toml_span_tree.specs.Pointer.{segments}
use Rattle.toml_span_tree.proofs.Pointers.{pointer-slash, pointed-empty, pointed-other}
use Rattle.toml_span_tree.proofs.Puts.{put-empty, exchanged-done, exchanged-refused}
use Rattle.toml_span_tree.proofs.value.Value.replace.Goals as goal

pub returns-then-is_empty-clause-done : goal.returns-then-is_empty-clause-done
returns-then-is_empty-clause-done c =
    let n = view c.args.self.now in
    let p = c.args.pointer.now in
    (pointed-empty p n (grind arith) ∙ ap (λ v. Some (view v)) (sym c.replace.ensures.value), ap view c.replace.ensures.after ∙ put-empty p n (view c.args.new) (grind arith))

pub returns-in-Some-clause-done : goal.returns-in-Some-clause-done
returns-in-Some-clause-done c =
    let p = c.args.pointer.now in
    let rest = c.in-Some.path.now in
    let slash = rw c.in-Some.is at (strip_prefix_char 47 p c.strip_prefix.result c.strip_prefix.ensures.cases (omega arith)) in
    exchanged-done c.replace_found.result c.args.new p (segments rest) (view c.args.self.now) _ (pointer-slash p rest slash) c.replace_found.ensures

pub returns-in-Some-clause-refused : goal.returns-in-Some-clause-refused
returns-in-Some-clause-refused c =
    let p = c.args.pointer.now in
    let rest = c.in-Some.path.now in
    let slash = rw c.in-Some.is at (strip_prefix_char 47 p c.strip_prefix.result c.strip_prefix.ensures.cases (omega arith)) in
    exchanged-refused c.replace_found.result c.args.new p (segments rest) (view c.args.self.now) _ (pointer-slash p rest slash) c.replace_found.ensures

pub returns-in-None-clause-refused : goal.returns-in-None-clause-refused
returns-in-None-clause-refused c =
    let n = view c.args.self.now in
    let p = c.args.pointer.now in
    let other = rw c.in-None.is at (strip_prefix_char 47 p c.strip_prefix.result c.strip_prefix.ensures.cases (omega arith)) in
    (refl, pointed-other p n (grind arith) other, refl)
