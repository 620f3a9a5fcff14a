-- The outcome of a text, and the possible results of `parse` for an outcome. `IsParseResult` states that the text has
-- an outcome, and that the result is possible for it.
use Rattle.std.specs.Prelude.{◌≡◌, ⊤, ℕ, List, Some, Result, Ok, Err, length}
use Rattle.toml_span_lex.specs.declared.stop.Stop.{Stop}
use Rattle.toml_span_lex.specs.declared.stop.Stop.TheVariants as stops
use Rattle.toml_span_lex.specs.Lines.{line_info}
use Rattle.toml_span_tree.specs.declared.value.Value.{Value}
use Rattle.toml_span_tree.specs.Value.{view}
use Rattle.toml_span_tree.specs.declared.error.Error.{Error}
use Rattle.toml_span_tree.specs.Error.{content_of}
use Rattle.toml_span_read.specs.Data.{ParsedSection}
use Rattle.toml_span_read.specs.declared.fault.Fault.{Fault}
use Rattle.toml_span_read.specs.Faults.{StartsInside, fault_content}
use Rattle.toml_span_read.specs.Read.{document}
use Rattle.toml_span.specs.Claims.{claims}
use Rattle.toml_span.specs.Clashes.{Resolves, NamedClash, first_clash, content_of_clash}
use Rattle.toml_span.specs.Parsing.{IsTreeOf}

-- the sections of a text, which do not clash; its sections and their first clash; or its first fault
pub data Outcome : Type 0 where
  resolved : List ParsedSection → Outcome
  clashed : List ParsedSection → NamedClash → Outcome
  refused_at : Fault → Outcome

-- The text is read within the limit as these sections, which do not clash; or as these sections, and this is their
-- first clash; or it has this fault.
abbrev pub HasOutcome : List ℕ → ℕ → Outcome → Type 0
HasOutcome text limit (resolved sections) = document text limit (Ok sections) × Resolves (claims sections)
HasOutcome text limit (clashed sections clash) =
    document text limit (Ok sections) × (first_clash (claims sections) ≡ Some clash)
HasOutcome text limit (refused_at fault) = document text limit (Err fault)

-- The result of `parse` for an outcome: the tree of these sections, or the error that reports this clash or this fault,
-- with a span that starts inside the text or at its end. A failed allocation is possible for any outcome.
abbrev pub IsAnswerOf : List ℕ → Outcome → Result Value (Stop Error) → Type 0
IsAnswerOf text (resolved sections) (Ok root) = IsTreeOf sections (length text) root
IsAnswerOf text (clashed sections clash) (Err (stops.Fault error)) =
    StartsInside text clash.info.span
    × (content_of error ≡ content_of_clash clash.info clash.name (line_info text clash.info.span.start))
IsAnswerOf text (refused_at fault) (Err (stops.Fault error)) =
    StartsInside text fault.span × (content_of error ≡ fault_content text fault)
IsAnswerOf text outcome (Err (stops.Memory e)) = ⊤
IsAnswerOf text outcome result = ⊥

-- ---- results that agree

-- Both are trees that are equal as data, or both are errors with the same contents. A failed allocation agrees with any
-- result.
abbrev pub IsAlike : Result Value (Stop Error) → Result Value (Stop Error) → Type 0
IsAlike (Ok root) (Ok other) = view root ≡ view other
IsAlike (Ok root) (Err (stops.Memory f)) = ⊤
IsAlike (Ok root) (Err (stops.Fault f)) = ⊥
IsAlike (Err (stops.Memory e)) (Ok other) = ⊤
IsAlike (Err (stops.Memory e)) (Err (stops.Memory f)) = ⊤
IsAlike (Err (stops.Memory e)) (Err (stops.Fault f)) = ⊤
IsAlike (Err (stops.Fault e)) (Ok other) = ⊥
IsAlike (Err (stops.Fault e)) (Err (stops.Memory f)) = ⊤
IsAlike (Err (stops.Fault e)) (Err (stops.Fault f)) = content_of e ≡ content_of f
