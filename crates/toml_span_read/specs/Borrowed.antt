-- Which strings and keys are borrowed from the text.
use Rattle.std.specs.Global.{Global}
use Rattle.std.specs.declared.borrow.CowStr.{CowStr}
use Rattle.std.specs.Prelude.{ℕ, List, [], ◌∷◌, ◌++◌, map}
use Rattle.std.specs.List.{AllByRecursion}
use Rattle.toml_span_lex.specs.declared.span.Span.{Span}
use Rattle.toml_span_lex.specs.Strings.{BorrowsWhereSame}
use Rattle.toml_span_lex.specs.declared.key.Key.{Key}
use Rattle.toml_span_read.specs.declared.value.DottedKey.{DottedKey}
use Rattle.toml_span_read.specs.declared.value.ValKind.TheOpen.{ValKind-F, Val-F, Assignment-F}
use Rattle.toml_span_read.specs.declared.value.Val.{Val}
use Rattle.toml_span_read.specs.declared.value.ValKind.TheFolds.{fold-Val, fold-ValKind, fold-Assignment}
use Rattle.toml_span_read.specs.declared.value.ValKind.{ValKind}
use Rattle.toml_span_read.specs.declared.value.Assignment.{Assignment}
use Rattle.toml_span_read.specs.declared.section.Section.{Section}

-- a string value or a key, with its span
pub data Written : Type 0 where
  string : CowStr Global → Span → Written
  name : CowStr Global → Span → Written

-- The string or key is borrowed if and only if it equals the text at its span, or is empty and its span is one quote.
abbrev pub IsWrittenRight : List ℕ → Written → Type 0
IsWrittenRight text (string s span) = BorrowsWhereSame text span s
IsWrittenRight text (name s span) = BorrowsWhereSame text span s

abbrev pub AreWrittenRight : List ℕ → List Written → Type 0
AreWrittenRight text ws = AllByRecursion (IsWrittenRight text) ws

-- the lists, concatenated
abbrev pub joined : {A : Type 0} → List (List A) → List A
joined [] = []
joined (xs ∷ rest) = xs ++ joined rest

abbrev pub key_written : Key → Written
key_written key = name key.name key.span

abbrev pub keys_written : List Key → List Written
keys_written keys = map key_written keys

abbrev pub dotted_written : DottedKey → List Written
dotted_written key = keys_written key.inner.items ++ (key_written key.last ∷ [])

-- The strings and keys in a `ValKind`, a `Val` and an `Assignment`. Those in the values inside are given. A string has
-- the span of its value.
abbrev pub kind_written_step : ValKind-F (Span → List Written) (List Written) (List Written) → Span → List Written
kind_written_step (ValKind-F.String s) span = string s span ∷ []
kind_written_step (ValKind-F.Array v) span = joined v.items
kind_written_step (ValKind-F.Inline v) span = joined v.items
kind_written_step _ span = []

abbrev pub val_written_step : Val-F (Span → List Written) (List Written) (List Written) → List Written
val_written_step v = v.kind v.span

abbrev pub assignment_written_step : Assignment-F (Span → List Written) (List Written) (List Written) → List Written
assignment_written_step a = dotted_written a.parts ++ a.value

-- the strings and keys in a value and in an assignment, in the order of the text
abbrev pub written : Val → List Written
written =
    fold-Val (Span → List Written) (List Written) (List Written) kind_written_step assignment_written_step
    val_written_step

abbrev pub kind_written : ValKind → Span → List Written
kind_written =
    fold-ValKind (Span → List Written) (List Written) (List Written) kind_written_step assignment_written_step
    val_written_step

abbrev pub assignment_written : Assignment → List Written
assignment_written =
    fold-Assignment (Span → List Written) (List Written) (List Written) kind_written_step assignment_written_step
    val_written_step

abbrev pub assignments_written : List Assignment → List Written
assignments_written found = joined (map assignment_written found)

-- the strings and keys in a section, beginning with the parts of its header, and those in all sections
abbrev pub section_written : Section → List Written
section_written s = keys_written s.header.items ++ assignments_written s.assignments.items

abbrev pub sections_written : List Section → List Written
sections_written found = joined (map section_written found)
