-- The result for a file, a `Judged`: its verdict and the text for standard output, or a document to print.
use Rattle.std.specs.Prelude.{◌≡◌, ℕ, List, map, Option, option_map, string_bytes, String}
use Rattle.std.specs.Borrow.{Bor}
use Rattle.std.specs.Cow.{cow_str_bytes}
use Rattle.std.specs.Global.{Global}
use Rattle.std.specs.declared.borrow.CowStr.{CowStr}
use Rattle.toml_span_tree.specs.Value.{view}
use Rattle.toml_span_check.specs.Answer.{Answer, IsAnswer, IsNames, IsRead, found}
use Rattle.toml_span_check.specs.Schemas.{Says}
use Rattle.toml_span_check.specs.declared.answer.Document.{Document as ToPrint}
use Rattle.toml_span_check.specs.declared.answer.Judged.{Judged}
use Rattle.toml_span_check.specs.declared.answer.Judged.TheVariants.{Text, Document}
use Rattle.toml_span_check.specs.declared.answer.Task.{Task}
use Rattle.toml_span_check.specs.declared.answer.Task.TheVariants.{Show}
use Rattle.toml_span_check.specs.declared.answer.Verdict.{Verdict}
use Rattle.toml_span_check.specs.declared.fixable.Count.{Count}
use Rattle.toml_span_check.specs.declared.formats.Format.{Format}

-- a verdict: the numbers of errors, and the text for standard error
abbrev pub told : Verdict → Count × List ℕ
told verdict = (verdict.count, string_bytes verdict.stderr)

-- a verdict and the text for standard output, as an answer
abbrev pub answer_of : Verdict × String Global → Answer
answer_of result = (result.0.count, string_bytes result.1, string_bytes result.0.stderr)

-- the segments of a path
abbrev pub names_of : {Z : Type 0} → Option (Bor (List (CowStr Z))) → Option (List (List ℕ))
names_of segments = option_map (λ names. map cow_str_bytes names.now) segments

-- the answer for a document to print whose value at the path `pointer` is wanted
abbrev pub IsFound : Format → List ℕ → List ℕ → ToPrint → Answer → Type 0
IsFound format pointer name document answer =
    (segments : Option (List (List ℕ))) × IsNames pointer segments
    × (answer ≡ found format document.printing pointer name document.text.now segments (view document.root))

-- The result is the answer for `text` or, if `text` is a document to print, its tree.
abbrev pub JudgesText : Says → Format → Task → List ℕ → List ℕ → List ℕ → Judged → Type 0
JudgesText says format task pointer name text (Text verdict out) =
    IsRead says format task pointer name text (answer_of (verdict, out))
JudgesText says format task pointer name text (Document document) =
    (task ≡ Show document.printing)
    × ((answer : Answer) → IsFound format pointer name document answer → IsRead says format task pointer name text answer)

-- The result is the answer to the bytes of a file or, if they are a document to print, its tree.
abbrev pub Judges : Says → Format → Task → List ℕ → List ℕ → List ℕ → Judged → Type 0
Judges says format task pointer name bytes (Text verdict out) =
    IsAnswer says format task pointer name bytes (answer_of (verdict, out))
Judges says format task pointer name bytes (Document document) =
    (task ≡ Show document.printing)
    × ((answer : Answer) → IsFound format pointer name document answer
    → IsAnswer says format task pointer name bytes answer)
