-- What the report of a recognized mistake says.
use Rattle.std.specs.Prelude.{◌≡◌, ℕ, Bool, ◌==◌, ◌&&◌, ◌||◌, List, [], ◌∷◌, ◌++◌, codes, length, if◌then◌else◌}
use Rattle.std.specs.Prelude.{Option, None, Some}
use Rattle.std.specs.Fmt.{decimal}
use Rattle.toml_span_lex.specs.declared.span.Span.{Span}
use Rattle.toml_span_tree.specs.Error.{Kind}
use Rattle.toml_span_report.specs.Places.{LiesIn}
use Rattle.toml_span_report.specs.Report.{Repair, ReportContent}
use Rattle.toml_span_report.specs.Visible.{visible}
use Rattle.toml_span_mistakes.specs.Errors.{message}
use Rattle.toml_span_mistakes.specs.declared.finding.Code.{Code}
use Rattle.toml_span_mistakes.specs.declared.finding.Finding.{Finding}

abbrev pub is_empty : List ℕ → Bool
is_empty text = length text == 0

abbrev pub number_text : Option ℕ → List ℕ
number_text None = []
number_text (Some number) = decimal number

-- the pieces of some code, and then its number, if there is one
abbrev pub code_text : Code → List ℕ
code_text c =
    c.first.now ++ c.second.now ++ c.third.now ++ c.fourth.now ++ c.fifth.now ++ c.sixth.now ++ number_text c.number

-- `joint`, and code in backticks; nothing if either is empty
abbrev pub joined_code : List ℕ → List ℕ → List ℕ
joined_code joint code =
    if is_empty joint || is_empty code then [] else joint ++ codes "`" ++ visible code ++ codes "`"

-- the line of help: what to do, the code to write, and other code that may have been meant
abbrev pub help : Finding → List (List ℕ)
help f =
    if is_empty f.words.help.now then []
    else (f.words.help.now ++ joined_code f.words.joint.now (code_text f.code)
    ++ joined_code (codes " or ") (code_text f.other)) ∷ []

-- the headline of the mistake or, if it has none, the message of the error
abbrev pub headline : Kind → Finding → List ℕ
headline kind f = if is_empty f.words.headline.now then message kind else f.words.headline.now

-- The replacement of a finding: what it replaces is in the text, between characters; what it writes, and whether it is
-- safe, are as the finding says. There is none if there is nothing to replace, or nothing in the text.
abbrev pub Repairs : List ℕ → Finding → List Repair → Type 0
Repairs text f [] = (span : Span) → f.edit ≡ Some span → ¬ LiesIn text span
Repairs text f (repair ∷ []) =
    (f.edit ≡ Some repair.span) × LiesIn text repair.span × (repair.text ≡ code_text f.code)
    × (repair.is_safe ≡ f.words.is_safe)
Repairs text f (one ∷ other ∷ more) = ⊥

-- The report says what the finding says.
pub record TellsFinding (text : List ℕ) (kind : Kind) (f : Finding) (report : ReportContent) : Type 0 where
  pub message : report.message ≡ headline kind f
  pub notes : report.notes ≡ []
  pub help : report.help ≡ help f
  pub replacements : Repairs text f report.replacements
