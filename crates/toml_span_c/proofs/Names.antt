-- The numbers of kinds have the names of the kinds, and each error of a document has a number.
use Rattle.toml_span_lex.proofs.Common.{◌≡◌, ◌≢◌, ◌∙◌, ap, arith, inl, inr, List, refl, sym, ℕ}
use Rattle.toml_span.specs.Clashes.{kind_of_clash}
use Rattle.toml_span.specs.Parsing.{IsRefusal}
use Rattle.toml_span.specs.declared.claims.ClashKind.{ClashKind}
use Rattle.toml_span.specs.declared.claims.ClashKind.TheVariants.{DuplicateTable, DuplicateKey, RedefineAsArray}
use Rattle.toml_span.specs.declared.claims.ClashInfo.{ClashInfo}
use Rattle.toml_span_lex.specs.declared.stop.Stop.TheVariants as stops
use Rattle.toml_span_read.specs.Faults.{error_kind}
use Rattle.toml_span_read.specs.declared.fault.FaultKind.{FaultKind}
use Rattle.toml_span_read.specs.declared.fault.FaultKind.TheVariants as faults
use Rattle.toml_span_tree.specs.declared.error.Error.{Error}
use Rattle.toml_span_tree.specs.Error.{content_of}
use Rattle.toml_span_tree.specs.Error.{Kind, unexpected_eof, exceeded_depth_limit, invalid_char_in_string, invalid_escape, invalid_hex_escape, invalid_escape_value, unexpected, unterminated_string, invalid_number, invalid_datetime, wanted, duplicate_table, duplicate_key, redefine_as_array, multiline_string_key, dotted_key_invalid_type, unquoted_string, out_of_range, custom, unexpected_keys, missing_field, deprecated, unexpected_value, marked}
use Rattle.toml_span_tree.specs.Message.{code_of}
use Rattle.toml_span_c.specs.Faults.{code_name, code_number}

pub code-named : (kind : Kind) → code_number kind ≢ 0 → code_name (code_number kind) ≡ code_of kind
code-named unexpected_eof h = refl
code-named exceeded_depth_limit h = refl
code-named (invalid_char_in_string c) h = refl
code-named (invalid_escape c) h = refl
code-named (invalid_hex_escape c) h = refl
code-named (invalid_escape_value v) h = refl
code-named (unexpected c) h = refl
code-named unterminated_string h = refl
code-named invalid_number h = refl
code-named invalid_datetime h = refl
code-named (wanted a b) h = refl
code-named (duplicate_table a b) h = refl
code-named (duplicate_key a b) h = refl
code-named redefine_as_array h = refl
code-named multiline_string_key h = refl
code-named (dotted_key_invalid_type a) h = refl
code-named unquoted_string h = refl
code-named (out_of_range a) h = absurd (h refl)
code-named (custom a) h = absurd (h refl)
code-named (unexpected_keys a b) h = absurd (h refl)
code-named (missing_field a) h = absurd (h refl)
code-named (deprecated a b) h = absurd (h refl)
code-named (unexpected_value a b) h = absurd (h refl)
code-named (marked a b c) h = absurd (h refl)

fault-numbered : (kind : FaultKind) → code_number (error_kind kind) ≢ 0
fault-numbered faults.UnexpectedEof h = omega (arith, h)
fault-numbered faults.ExceededDepthLimit h = omega (arith, h)
fault-numbered (faults.InvalidCharInString c) h = omega (arith, h)
fault-numbered (faults.InvalidEscape c) h = omega (arith, h)
fault-numbered (faults.InvalidHexEscape c) h = omega (arith, h)
fault-numbered (faults.InvalidEscapeValue v) h = omega (arith, h)
fault-numbered (faults.Unexpected c) h = omega (arith, h)
fault-numbered faults.UnterminatedString h = omega (arith, h)
fault-numbered faults.InvalidNumber h = omega (arith, h)
fault-numbered faults.InvalidDatetime h = omega (arith, h)
fault-numbered faults.UnquotedString h = omega (arith, h)
fault-numbered (faults.Wanted expected found) h = omega (arith, h)
fault-numbered faults.MultilineStringKey h = omega (arith, h)
fault-numbered (faults.DottedKeyInvalidType first) h = omega (arith, h)

clash-numbered : (b : ClashKind) (name : List ℕ) (m : ClashInfo) → code_number (kind_of_clash b name m) ≢ 0
clash-numbered DuplicateTable name m h = omega (arith, h)
clash-numbered DuplicateKey name m h = omega (arith, h)
clash-numbered RedefineAsArray name m h = omega (arith, h)

pub refusal-numbered : (bytes : List ℕ) (limit : ℕ) (error : Error) → IsRefusal bytes limit (stops.Fault error)
    → code_number (content_of error).kind ≢ 0
refusal-numbered bytes limit error (inl (fault, has, answer)) h =
    fault-numbered fault.kind (sym (ap (λ e. code_number e.kind) answer.1) ∙ h)
refusal-numbered bytes limit error (inr (sections, clash, has, answer)) h =
    clash-numbered clash.info.kind clash.name clash.info (sym (ap (λ e. code_number e.kind) answer.1) ∙ h)
