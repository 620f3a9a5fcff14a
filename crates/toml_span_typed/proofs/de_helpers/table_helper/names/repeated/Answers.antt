use Rattle.toml_span_lex.proofs.Common.{◌≡◌, append_assoc, ◌+◌, ◌∷◌, ◌++◌, [], List, ℕ, Option, Some, map, drop, drop_more, get_or, cond, ap, sym, ◌∙◌, btree_map_updates_str, lookup, bytes_eq}
use Rattle.std.specs.Borrow.{Bor}
use Rattle.toml_span_lex.specs.declared.span.Span.{Span}
use Rattle.toml_span_tree.specs.Error.{content_of}
use Rattle.toml_span_typed.specs.Names as spec
use Rattle.toml_span_typed.specs.Names.{Name, named}
use Rattle.toml_span_typed.proofs.de_helpers.table_helper.names.repeated.Goals as goal

pub loop-name-preserved : goal.loop-name-preserved
loop-name-preserved c =
    let none : Bor (List ℕ) × Span = (record { ref_ptr = (0, 0); now = [] }, record { start = 0; end = 0 }) in
    let n : Name = named (get_or c.args.names.now c.loop-name.name-index none) in
    let before = c.loop-name.invariant.0 in
    let rest = map named (drop (c.loop-name.name-index + 1) c.args.names.now) in
    let step = drop_more c.args.names.now c.loop-name.name-index none c.loop-name-test.true in
    let held : c.in_ok-before.before ≡ lookup (λ name. bytes_eq name n.0) before =
    c.in_ok-before.ensures.old ∙ c.loop-name.invariant.1 n.0 in
    let said : map content_of c.push_repeated.new.errors.items ≡ map content_of c.loop-name.errors.items ++ spec.duplicate_errors n (lookup (λ name. bytes_eq name n.0) before) =
    c.in_ok-push_repeated.ensures ∙ ap (λ at. map content_of c.loop-name.errors.items ++ spec.duplicate_errors n at) held in
    let left = ap (λ names. map content_of c.loop-name.errors.items ++ spec.repeated_after before (map named names)) (sym step) ∙ c.loop-name.invariant.2 in (
      n ∷ before,
      (λ q. btree_map_updates_str n.0 c.loop-name.places c.insert.new.self _ c.in_ok-before.ensures.updates q
          ∙ ap (λ (at : Option Span). cond (bytes_eq n.0 q) (Some n.1) at) (c.loop-name.invariant.1 q)),
      ap (λ faults. faults ++ spec.repeated_after (n ∷ before) rest) said
          ∙ append_assoc (map content_of c.loop-name.errors.items) (spec.duplicate_errors n (lookup (λ name. bytes_eq name n.0) before)) (spec.repeated_after (n ∷ before) rest)
          ∙ left,
    )
