-- Reports of violations, which are all errors.
use Rattle.toml_span_lex.proofs.Common.{◌≡◌, List, [], ◌∷◌, ◌++◌}
use Rattle.std.specs.Prelude.{All}
use Rattle.std.specs.List.Sorted.{IsPermutation}
use Rattle.std.proofs.lemmas.List.Elements.{All-push, All-same}
use Rattle.std.proofs.lemmas.List.Sorted.{All-permutation}
use Rattle.toml_span_report.specs.declared.report.Report.{Report}
use Rattle.toml_span_schema.specs.Reports.{IsError}

pub errors_push : (old new : List Report) (report : Report) → new ≡ old ++ report ∷ [] → All IsError old → IsError report → All IsError new
errors_push old new report is before wrong = All-same IsError new (old ++ report ∷ []) is (All-push IsError old report before wrong)

pub errors_sorted : (old new : List Report) → IsPermutation old new → All IsError old → All IsError new
errors_sorted old new same before = All-permutation IsError old new same before
