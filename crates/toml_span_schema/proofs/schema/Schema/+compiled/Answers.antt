use Rattle.std.proofs.Common.{◌≡◌, ◌-◌, ◌∙◌, Bool, IfOk, ap, arith, subst}
use Rattle.json.specs.Value.{value_view}
use Rattle.toml_span_schema.specs.Compiled.{below, step}
use Rattle.toml_span_schema.proofs.Compiles.{compiled_more, compiled_none}
use Rattle.toml_span_schema.proofs.schema.Schema.+compiled.Goals as goal

pub is_compiled-returns-then-left-eq0 : goal.is_compiled-returns-then-left-eq0
is_compiled-returns-then-left-eq0 t c =
    compiled_none c.args.self.now c.args.draft c.args.left (value_view c.args.value.now) c.args.node (omega arith)

pub is_compiled-returns : goal.is_compiled-returns
is_compiled-returns t c =
    let P : Bool → Type 0 = λ b. IfOk c.keeps.result (λ r. r ≡ b) in
    subst P (ap (step (below c.args.self.now c.args.draft (c.args.left - 1)) c.args.self.now c.args.draft
    (value_view c.args.value.now)) c.keywords.ensures
    ∙ compiled_more c.args.self.now c.args.draft c.args.left (value_view c.args.value.now) c.args.node (omega arith))
    c.keeps.ensures
