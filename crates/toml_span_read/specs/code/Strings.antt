-- What the functions that read strings return.
use Rattle.std.specs.Prelude.{ℕ, List, Result, Ok, Err}
use Rattle.std.specs.Cow.{cow_str_bytes}
use Rattle.toml_span_lex.specs.declared.stop.Stop.{Stop}
use Rattle.toml_span_lex.specs.declared.stop.Stop.TheVariants as stops
use Rattle.toml_span_lex.specs.Strings.{IsString, Borrows}
use Rattle.toml_span_read.specs.declared.fault.Fault.{Fault}
use Rattle.toml_span_read.specs.declared.strings.StringToken.{StringToken}
use Rattle.toml_span_read.specs.code.Faults.{IsTokenFault}
use Rattle.toml_span_read.specs.code.Gaps.{Further}

-- The result of reading the string at i is this string, fault or failed allocation.
abbrev pub StringReads : List ℕ → ℕ → Result StringToken (Stop Fault) → Type 0
StringReads text i (Ok token) =
    (source : List ℕ) × IsString text i token.end token.span source (cow_str_bytes token.content) token.is_multiline
    × Borrows text i token.end token.span token.content × Further text i token.end
StringReads text i (Err (stops.Memory e)) = Unit {0}
StringReads text i (Err (stops.Fault fault)) = IsTokenFault text i fault
