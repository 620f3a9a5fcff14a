-- The result of reading a text.
use Rattle.std.specs.Prelude.{◌≡◌, ℕ, ◌<◌, List, map, length, Vec, Result, Ok, Err}
use Rattle.std.specs.Global.{Global}
use Rattle.toml_span_lex.specs.declared.stop.Stop.{Stop}
use Rattle.toml_span_lex.specs.declared.stop.Stop.TheVariants as stops
use Rattle.toml_span_tree.specs.Error.{content_of}
use Rattle.toml_span_tree.specs.declared.error.Error.{Error}
use Rattle.toml_span_read.specs.Data.{ParsedSection, parsed_section}
use Rattle.toml_span_read.specs.Read.{document}
use Rattle.toml_span_read.specs.Faults.{StartsInside, fault_content}
use Rattle.toml_span_read.specs.Gaps.{MaximalGap}
use Rattle.toml_span_read.specs.declared.fault.Fault.{Fault}
use Rattle.toml_span_read.specs.declared.section.Section.{Section}

-- The text is read as these sections, or has the fault that the error reports. A failed allocation is possible for any
-- text.
abbrev pub ReadsDocument : List ℕ → ℕ → Result (Vec Section Global) (Stop Error) → Type 0
ReadsDocument text limit (Ok found) = document text limit (Ok (map parsed_section found.items))
ReadsDocument text limit (Err (stops.Memory e)) = Unit {0}
ReadsDocument text limit (Err (stops.Fault error)) =
    (fault : Fault) × document text limit (Err fault) × (content_of error ≡ fault_content text fault)

-- The error, if it reports a fault, has a span that starts inside the text or at its end, and is not reversed.
abbrev pub RefusedInside : List ℕ → Result (Vec Section Global) (Stop Error) → Type 0
RefusedInside text (Ok found) = Unit {0}
RefusedInside text (Err (stops.Memory e)) = Unit {0}
RefusedInside text (Err (stops.Fault error)) =
    (fault : Fault) × StartsInside text fault.span × (content_of error ≡ fault_content text fault)

-- The result is these sections, unless an allocation failed.
abbrev pub AreRead : List ParsedSection → Result (Vec Section Global) (Stop Error) → Type 0
AreRead bs (Ok found) = map parsed_section found.items ≡ bs
AreRead bs (Err (stops.Memory e)) = Unit {0}
AreRead bs (Err (stops.Fault error)) = ⊥

-- An allocation can fail only if the text from i on has more than white space, comments and line ends.
abbrev pub AllocatesOnlyAfterGap : {A E : Type 0} → List ℕ → ℕ → Result A (Stop E) → Type 0
AllocatesOnlyAfterGap text i (Err (stops.Memory e)) = (k : ℕ) × MaximalGap text i k × (k < length text)
AllocatesOnlyAfterGap text i (Err (stops.Fault fault)) = Unit {0}
AllocatesOnlyAfterGap text i (Ok found) = Unit {0}
