use Rattle.toml_span_lex.proofs.Common.{◌≡◌, List, ◌∷◌, drop, map, option_and_then, ap, ◌∙◌, sym, drop_more, take_rest}
use Rattle.toml_span_lex.specs.declared.key.Key.{Key}
use Rattle.toml_span_tree.specs.Names.{name_in}
use Rattle.toml_span_tree.specs.code.Pointer.{value_named}
use Rattle.toml_span_tree.specs.Value.{view}
use Rattle.toml_span_tree.proofs.Pointers.{found-more}
use Rattle.toml_span_tree.proofs.value.Value.+found_at.Goals as goal

pub returns-in_ok-entry_at-in-len1-up : goal.returns-in_ok-entry_at-in-len1-up
returns-in_ok-entry_at-in-len1-up t c =
    let names : List Key = c.args.names.now in
    let name = c.name-item.result in
    let n = view c.args.self.now in
    let split : names ≡ name ∷ drop 1 names = drop_more names 0 name c.in-len1-up.len_at_least ∙ ap (λ x. x ∷ drop 1 names) (sym c.name-item.is) in
    c.found_at.ensures
    ∙ ap (λ (ks : List Key). value_named (map name_in ks) (view c.in_ok-entry_at-in-len1-up.field-0.now)) (take_rest names 1)
    ∙ ap (option_and_then (value_named (map name_in (drop 1 names)))) c.in_ok-entry_at-in-len1-up.ensures
    ∙ sym (found-more (name_in name) (map name_in (drop 1 names)) n)
    ∙ ap (λ (ks : List Key). value_named (map name_in ks) n) (sym split)
