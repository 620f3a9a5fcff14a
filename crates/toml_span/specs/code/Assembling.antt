-- The tree of the sections read so far, whatever sections follow.
use Rattle.std.specs.Box.{box_value}
use Rattle.std.specs.Global.{Box}
use Rattle.std.specs.Prelude.{◌≡◌, ℕ, List, [], ◌++◌, map, Result, Ok, Err, Option, Some, None, IfNone, IfSome}
use Rattle.toml_span_lex.specs.declared.stop.Stop.{Stop}
use Rattle.toml_span_lex.specs.declared.stop.Stop.TheVariants as stops
use Rattle.toml_span_read.specs.Data.{ParsedSection, parsed_section}
use Rattle.toml_span_read.specs.Places.{IsInside}
use Rattle.toml_span_read.specs.declared.section.Section.{Section}
use Rattle.toml_span_read.specs.Read.{document}
use Rattle.toml_span_read.specs.declared.fault.Fault.{Fault}
use Rattle.toml_span.specs.code.ClaimInfos.{PlaceError}
use Rattle.toml_span.specs.declared.branch.Branch.{Branch}
use Rattle.toml_span.specs.Claims.{assignments_claims, header_info, claims_after, claims}
use Rattle.toml_span.specs.code.Placing.{Places, AreSections}
use Rattle.toml_span.specs.code.Relative.{section_at, counts_after}
use Rattle.toml_span.specs.code.Tree.{counts, cells, IsScope}
use Rattle.toml_span.specs.code.Machine.{no_cells, clash_found, put_all, named_clash}
use Rattle.toml_span_read.specs.Paths.{elements_added, opened_by}
use Rattle.toml_span.specs.declared.claims.Clash.{Clash}
use Rattle.toml_span.specs.Clashes.{first_clash}
use Rattle.toml_span.specs.Borrowed.{AreBorrowedRight}
use Rattle.toml_span.specs.code.Borrowed.{branch_strings}
use Rattle.toml_span.specs.declared.branch.Branch.TheViews.{out-Branch}
use Rattle.toml_span.specs.declared.sections.Assembly.{Assembly}

-- The section has been placed below the root, or the result is the first clash or a failed allocation.
abbrev pub PlacesAtRoot : ParsedSection → Branch → Branch → Result (Unit {0}) PlaceError → Type 0
PlacesAtRoot b root new r =
    Places root new r (section_at (counts root) (header_info b) b.header (assignments_claims b.assignments []))
    (counts_after (counts root) (header_info b) b.header)

-- The last sections of `all` are `rest`, which have not been placed yet. The root has the claims of the others.
pub record Remaining (all rest : List ParsedSection) (root : Branch) : Type 0 where
  pub earlier : List ParsedSection
  pub headers : AreSections rest
  pub clash : clash_found (cells root) (claims_after earlier rest) ≡ clash_found no_cells (claims all)
  pub putting : put_all (cells root) (claims_after earlier rest) ≡ put_all no_cells (claims all)
  pub counting : counts root ≡ elements_added (opened_by earlier)
  pub scope : IsScope root

-- Without a clash, the tree `root` has the claims of the sections `bs`, and later sections can still be placed. A clash
-- is the first clash of these sections.
abbrev pub AssemblesTo : List ParsedSection → Branch → Option (Box Clash) → Type 0
AssemblesTo bs root None = (rest : List ParsedSection) → AreSections rest → Remaining (bs ++ rest) rest root
AssemblesTo bs root (Some c) =
    (rest : List ParsedSection) → AreSections rest → first_clash (claims (bs ++ rest)) ≡ Some (named_clash c)

abbrev pub IsAssemblyOf : List ParsedSection → Assembly → Type 0
IsAssemblyOf bs g = AssemblesTo bs g.root g.clash

-- The clash, if there is one, has a span inside the first n bytes.
abbrev pub IsAssemblyInside : ℕ → Assembly → Type 0
IsAssemblyInside n g = IfSome g.clash (λ c. IsInside n (box_value c).info.span)

-- Unless the assembly has a clash, the strings and keys in the tree are borrowed correctly.
abbrev pub AssemblyBorrows : List ℕ → Assembly → Type 0
AssemblyBorrows text g = IfNone g.clash (AreBorrowedRight text (branch_strings g.root))

-- The assembly has no clash, and no table is left to finish.
abbrev pub IsBare : Assembly → Type 0
IsBare g = (g.clash ≡ None) × ((out-Branch g.root).tables.entries ≡ [])

-- The text is read as these sections, and this is their assembly.
pub record IsAssembledFrom (text : List ℕ) (limit : ℕ) (g : Assembly) : Type 0 where
  pub sections : List Section
  pub document : document text limit (Ok (map parsed_section sections))
  pub assembles : IsAssemblyOf (map parsed_section sections) g
  pub bare : sections ≡ [] → IsBare g
  pub borrows : AssemblyBorrows text g

abbrev pub AssembleReturns : List ℕ → ℕ → Result Assembly (Stop Fault) → Type 0
AssembleReturns text limit (Ok g) = IsAssembledFrom text limit g
AssembleReturns text limit (Err (stops.Memory e)) = Unit {0}
AssembleReturns text limit (Err (stops.Fault e)) = document text limit (Err e)
