use Rattle.std.proofs.Common.{◌∙◌, ℕ, string_bytes, sym}
use Rattle.std.proofs.lemmas.Result.{IfOk-weaker}
use Rattle.std.proofs.KnownBytes.{Keeps-refl}
use Rattle.toml_span_cli.specs.declared.dispatch.Request.TheVariants.{Files, Help, Unknown, Version}
use Rattle.toml_span_cli.proofs.Answered.{dispatches, dispatches-ok}
use Rattle.toml_span_cli.proofs.dispatch.dispatch.Goals as goal

pub returns-in-Help : goal.returns-in-Help
returns-in-Help g c =
    dispatches (λ w. string_bytes w) c.args.words.now c.word-item.result _ c.is_ok.result Help _ _ _ _ _ _ _ _
    c.in-len2-up.len_at_least c.word-item.is c.as_str-word.ensures.value (sym c.in-Help.is ∙ c.request_of.ensures)
    (c.say-in-Help.ensures, Keeps-refl _)

pub returns-in-Version : goal.returns-in-Version
returns-in-Version g c =
    dispatches (λ w. string_bytes w) c.args.words.now c.word-item.result _ c.is_ok.result Version _ _ _ _ _ _ _ _
    c.in-len2-up.len_at_least c.word-item.is c.as_str-word.ensures.value
    (sym c.in-Version.is ∙ c.request_of.ensures) (c.say-in-Version.ensures, Keeps-refl _)

pub returns-in-Unknown : goal.returns-in-Unknown
returns-in-Unknown g c =
    IfOk-weaker _ _ _ (λ (status : ℕ) warns. dispatches (λ w. string_bytes w) c.args.words.now c.word-item.result _
    c.is_ok.result Unknown _ _ _ _ _ _ _ status c.in-len2-up.len_at_least c.word-item.is
    c.as_str-word.ensures.value (sym c.in-Unknown.is ∙ c.request_of.ensures) (Keeps-refl _, warns))
    c.say_unknown.ensures

pub returns-in-Files : goal.returns-in-Files
returns-in-Files g c =
    dispatches-ok (λ w. string_bytes w) c.args.words.now c.word-item.result _ c.is_ok.result Files c.args.screen
    (g.O.Sink.contents c.args.out.now) (g.O.Sink.contents c.perform-in-Files.new.out)
    (g.O.Sink.failed c.perform-in-Files.new.out) (g.E.Sink.contents c.args.errors.now)
    (g.E.Sink.contents c.perform-in-Files.new.errors) (g.E.Sink.failed c.perform-in-Files.new.errors)
    c.perform-in-Files.result c.in-len2-up.len_at_least c.word-item.is c.as_str-word.ensures.value
    (sym c.in-Files.is ∙ c.request_of.ensures) c.perform-in-Files.ensures
