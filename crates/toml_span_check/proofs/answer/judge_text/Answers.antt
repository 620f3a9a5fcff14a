use Rattle.toml_span_lex.proofs.Common.{refl}
use Rattle.toml_span_check.specs.declared.answer.Document.{Document as ToPrint}
use Rattle.toml_span_check.proofs.Errors.{refused}
use Rattle.toml_span_check.proofs.Judged.{shows-text}
use Rattle.toml_span_check.proofs.answer.judge_text.Goals as goal

pub errors_text-found-requires : goal.errors_text-found-requires
errors_text-found-requires g c = refused c.args.text.now c.in-Err.stop c.in_ok-error-in-Err.error c.in-Err.ensures.answers c.in_ok-error-in-Err.ensures

pub returns-in-Ok : goal.returns-in-Ok
returns-in-Ok g c =
    let document : ToPrint = record { printing = c.in-Show.printing; text = c.args.text; root = c.in-Ok.root } in
    λ pointer. shows-text g.S.Schemas.says c.args.format c.args.task pointer c.args.name.now c.args.text.now document c.in-Show.is refl c.in-Ok.ensures.answers
