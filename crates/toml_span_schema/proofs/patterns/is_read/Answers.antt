use Rattle.std.proofs.Common.{sym}
use Rattle.toml_span_schema.proofs.Expressions.{read_known, refused_known}
use Rattle.toml_span_schema.proofs.patterns.is_read.Goals as goal

pub returns-in-Ok : goal.returns-in-Ok
returns-in-Ok c = sym (read_known c.in-Ok.regex c.args.text.now c.in-Ok.ensures.source c.in-Ok.ensures.config c.in-Ok.ensures.read)

pub returns-in_default : goal.returns-in_default
returns-in_default c =
    refused_known c.args.text.now _ c.in-Err-Syntax.error c.in-Err-Syntax.field-0-is c.in-Err-Syntax.ensures.by_grammar
    c.in-Err-Syntax.ensures.kind c.in_default.not-NestLimitExceeded
