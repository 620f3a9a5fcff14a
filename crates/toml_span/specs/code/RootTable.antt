-- The root table of the sections that have been read and placed so far.
use Rattle.std.specs.Prelude.{◌≡◌, ℕ, ◌<◌, ◌⊎◌, List, [], ◌∷◌, ◌++◌, Ok, None, length, slice_index}
use Rattle.std.specs.Str.{IsCharBoundary}
use Rattle.toml_span_lex.specs.Bytes.{left_bracket}
use Rattle.toml_span_read.specs.Data.{ParsedSection}
use Rattle.toml_span_read.specs.Read as read
use Rattle.toml_span.specs.Claims.{claims}
use Rattle.toml_span_read.specs.Paths.{elements_added, opened_by}
use Rattle.toml_span.specs.code.Built.{IsBuilt}
use Rattle.toml_span.specs.code.Machine.{no_cells, put_all, clash_found}
use Rattle.toml_span.specs.code.Placing.{Table}

-- the sections in reverse order, followed by the list `earlier`
unfoldable pub latest_first : List ParsedSection → List ParsedSection → List ParsedSection
latest_first [] earlier = earlier
latest_first (b ∷ bs) earlier = latest_first bs (b ∷ earlier)

-- The sections do not clash, and the table is built from them. Its strings and keys are borrowed correctly.
pub record IsRootOf (text : List ℕ) (bs : List ParsedSection) (t : Table) : Type 0 where
  pub free : clash_found no_cells (claims bs) ≡ None
  pub built : IsBuilt text t (put_all no_cells (claims bs)) (elements_added (opened_by (latest_first bs [])))

-- A section at `at` has been read and placed in the table. The next one, or the end of the text, is at `next`.
pub record AddsSection (text : List ℕ) (limit at : ℕ) (old new : Table) (next : ℕ) : Type 0 where
  pub section : ParsedSection
  pub read : read.section text limit at (Ok (section, next))
  pub placed : (bs : List ParsedSection) → IsRootOf text bs old → IsRootOf text (bs ++ (section ∷ [])) new
  pub forward : at < next
  pub boundary : IsCharBoundary text next
  pub header : (next ≡ length text) ⊎ (slice_index text next ≡ left_bracket)
