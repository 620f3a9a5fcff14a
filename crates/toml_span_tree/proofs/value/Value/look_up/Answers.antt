use Rattle.toml_span_lex.proofs.Common.{sym, ◌∙◌, arith, strip_prefix_char}
use Rattle.toml_span_tree.specs.Value.{view}
use Rattle.toml_span_tree.proofs.Pointers.{pointed-empty, pointed-slash, pointed-other, mapped-none}
use Rattle.toml_span_tree.proofs.value.Value.look_up.Goals as goal

pub returns-then-is_empty : goal.returns-then-is_empty
returns-then-is_empty c = sym (pointed-empty c.args.pointer.now (view c.args.self.now) (grind arith))

pub returns-in_err-strip_prefix : goal.returns-in_err-strip_prefix
returns-in_err-strip_prefix c =
    let other = rw c.in_err-strip_prefix.was at (strip_prefix_char 47 c.args.pointer.now c.strip_prefix.result c.strip_prefix.ensures.cases (omega arith)) in
    mapped-none _ _ c.from_residual.ensures (sym (pointed-other c.args.pointer.now (view c.args.self.now) (grind arith) other))

pub returns : goal.returns
returns c =
    let slash = rw c.in_ok-strip_prefix.was at (strip_prefix_char 47 c.args.pointer.now c.strip_prefix.result c.strip_prefix.ensures.cases (omega arith)) in
    c.found_by.ensures ∙ sym (pointed-slash c.args.pointer.now c.in_ok-strip_prefix.field-0.now (view c.args.self.now) slash)
