use Rattle.toml_span_lex.proofs.Common.{◌+◌, refl, ◌∙◌, take_rest}
use Rattle.toml_span_edit.proofs.Elements.{parts_but, both_parts, first_part}
use Rattle.toml_span_edit.proofs.made.items_but.Goals as goal

pub returns-then-same_items : goal.returns-then-same_items
returns-then-same_items c =
    both_parts _ _ _ _ _
    (parts_but c.args.at (c.args.at + 1) c.args.items.now c.args.others.now refl c.if-at-items.false c.if-at-others.false)
    c.if-same_items.true c.same_items.ensures
    (c.same_items-then-same_items.ensures
    ∙ rw (take_rest c.args.items.now (c.args.at + 1), take_rest c.args.others.now (c.args.at + 1)) refl)

pub returns-else-same_items : goal.returns-else-same_items
returns-else-same_items c =
    first_part _ _ _ _
    (parts_but c.args.at (c.args.at + 1) c.args.items.now c.args.others.now refl c.if-at-items.false c.if-at-others.false)
    c.if-same_items.false c.same_items.ensures
