use Rattle.toml_span_lex.proofs.Common.{arith, refl, rules}
use Rattle.toml_span_lex.proofs.Runs.{after_ascii, after_line}
use Rattle.toml_span_lex.proofs.text.line_end.Goals as goal

pub returns-then-bytes-at-eq10-clause-boundary : goal.returns-then-bytes-at-eq10-clause-boundary
returns-then-bytes-at-eq10-clause-boundary c = after_ascii c.args.text.now c.args.at _ refl c.utf8.text (omega arith) (search rules)

pub returns-then-is_crlf-clause-boundary : goal.returns-then-is_crlf-clause-boundary
returns-then-is_crlf-clause-boundary c = after_line c.args.text.now c.args.at c.utf8.text (search rules)
