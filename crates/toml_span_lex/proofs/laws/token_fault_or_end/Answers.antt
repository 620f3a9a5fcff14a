use Rattle.toml_span_lex.proofs.Common.{arith, inl}
use Rattle.toml_span_lex.proofs.Standing.{found_stands, scanned_stands}
use Rattle.toml_span_lex.proofs.laws.token_fault_or_end.Goals as goal

pub returns-then-at-text : goal.returns-then-at-text
returns-then-at-text c = inl (omega arith)

pub returns-then-byte-eq39 : goal.returns-then-byte-eq39
returns-then-byte-eq39 c = scanned_stands c.args.text.now c.args.at c.scan_string.result c.scan_string.ensures

pub returns-else-byte-eq39 : goal.returns-else-byte-eq39
returns-else-byte-eq39 c = found_stands c.args.text.now c.args.at c.token_at.result c.token_at.ensures.finds
