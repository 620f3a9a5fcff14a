use Rattle.std.specs.Prelude.{Option, Some, Err, String, string_bytes}
use Rattle.std.specs.Global.{Global}
use Rattle.toml_span_lex.proofs.Common.{◌≡◌, List, ℕ, inl, inr, refl, subst, ◌∙◌, Keeps-refl}
use Rattle.toml_span_report.specs.Visible.{visible_lines}
use Rattle.toml_span_places.specs.Dotted.{IsPath}
use Rattle.toml_span_places.specs.declared.dotted.PathError.{PathError}
use Rattle.toml_span_commands.specs.Say.{Prints}
use Rattle.toml_span_commands.specs.Start.{SaysOfPath}
use Rattle.toml_span_commands.proofs.start.run_with.Goals as goal

-- the message says that the path is wrong
wrong-path : (path : List ℕ) (o : Option (String Global)) (text : String Global) → o ≡ Some text → SaysOfPath path o
    → (e : PathError) × IsPath path (Err e) × ((message : List ℕ) × (string_bytes text ≡ visible_lines message))
wrong-path path o text is h = subst (λ (x : Option (String Global)). SaysOfPath path x) is h

pub returns-in-Ok-Some : goal.returns-in-Ok-Some
returns-in-Ok-Some g c =
    let (e, wrong, (message, is)) = wrong-path _ _ _ c.in-Ok-Some.field-0-is c.in-Ok-Some.ensures in
    let says = subst (λ (text : List ℕ). Prints (g.E.Sink.contents c.args.errors.now) (g.E.Sink.contents c.say.new.writer) (g.E.Sink.failed c.say.new.writer) text 2 c.say.result) (c.as_str.ensures.value ∙ is) c.say.ensures in
    inr (inl ((e, wrong), refl, Keeps-refl _, (message, says)))
