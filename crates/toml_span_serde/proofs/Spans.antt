-- What a reader answers when `Spanned` asks for the span of the next value.
use Rattle.toml_span_lex.proofs.Common.{ℕ, Result, IfOk, arith, nat_tests, common_steps}
use Rattle.serde.specs.Steps.{format_of}
use Rattle.serde.specs.declared.deserializer.Deserializer.{Deserializer}
use Rattle.toml_span_lex.specs.declared.span.Span.{Span}
use Rattle.toml_span_lex.specs.declared.stop.Stop.{Stop}
use Rattle.toml_span_serde.specs.Ahead.{ahead}
use Rattle.toml_span_serde.specs.Asks.{HasSpan}
use Rattle.toml_span_serde.specs.Reads.{Picks, BeginsAt}
use Rattle.toml_span_serde.specs.declared.reader.Misread.{Misread}
use Rattle.toml_span_serde.specs.declared.reader.Reader.{Reader}

pub ok_map : {T E : Type 0} (r : Result T E) (P Q : T → Type 0) → ((x : T) → P x → Q x) → IfOk r P → IfOk r Q
ok_map r P Q f h = grind (arith, nat_tests, common_steps)

-- the answers of a reader
pub stands_of : (d : Deserializer Reader (Stop Misread) ℕ) (span : Span) →
    HasSpan (λ old _ is_key names at new. Picks (ahead old) is_key names at (ahead new)) d span → BeginsAt span (ahead (format_of d))
stands_of d span h = grind (arith, nat_tests, common_steps)
