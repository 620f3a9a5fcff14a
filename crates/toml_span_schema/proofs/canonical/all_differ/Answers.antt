use Rattle.std.proofs.Common.{◌≡◌, ℕ, List, true, false, cond, string_bytes, sym, ap, ◌∙◌}
use Rattle.std.proofs.lemmas.Map.Text.{btree_set_updates_text}
use Rattle.std.specs.BTreeSet.{contains_text}
use Rattle.std.specs.Str.{bytes_eq}
use Rattle.toml_span_tree.specs.Value.{view}
use Rattle.toml_span_schema.specs.Canonical.{canonical}
use Rattle.toml_span_schema.proofs.Differ.{differ_step, not_twice}
use Rattle.toml_span_schema.proofs.canonical.all_differ.Goals as goal

pub loop-value-preserved : goal.loop-value-preserved
loop-value-preserved c =
    let e : string_bytes c.in_ok-canonical.field-0 ≡ canonical (view c.value-item.result) = c.in_ok-canonical.ensures in
    let absent : contains_text c.loop-value.seen (string_bytes c.in_ok-canonical.field-0) ≡ false =
    not_twice _ _ c.in_ok-insert.ensures.added c.if-not-branch.false in
    let more : (q : List ℕ) → contains_text c.insert.new.self q
    ≡ cond (bytes_eq (string_bytes c.in_ok-canonical.field-0) q) true (contains_text c.loop-value.seen q) =
    λ q. btree_set_updates_text (string_bytes c.in_ok-canonical.field-0) c.loop-value.seen c.insert.new.self true c.in_ok-insert.ensures.updates q in
    differ_step (λ v. canonical (view v)) c.args.values.now c.loop-value.value-index c.value-item.result
    (contains_text c.loop-value.seen) (contains_text c.insert.new.self) c.loop-value-test.true c.value-item.is
    c.loop-value.invariant.1 (ap (contains_text c.loop-value.seen) (sym e) ∙ absent)
    (λ q. more q ∙ ap (λ b. cond (bytes_eq b q) true (contains_text c.loop-value.seen q)) e) c.loop-value.invariant.0
