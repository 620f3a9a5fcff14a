-- The map that counts the elements that headers have added to each array of tables.
use Rattle.std.specs.Prelude.{ℕ, suc, Bool, if◌then◌else◌, List, [], map, unwrap_or, Vec}
use Rattle.std.specs.Global.{Global}
use Rattle.std.specs.Map.{lookup}
use Rattle.toml_span_tree.specs.Path.{Path, Step, key, position}
use Rattle.toml_span_read.specs.Data.{ParsedSection}
use Rattle.toml_span_read.specs.Paths.{same_path, target, with_position}
use Rattle.toml_span_places.specs.declared.opened.ElementCounts.{ElementCounts}
use Rattle.toml_span_places.specs.declared.opened.SortedStep.{SortedStep}
use Rattle.toml_span_places.specs.declared.opened.SortedStep.TheVariants as sorted

abbrev pub sorted_step : SortedStep → Step
sorted_step (sorted.Key name) = key name.now
sorted_step (sorted.Position i) = position i

abbrev pub sorted_steps : Vec SortedStep Global → Path
sorted_steps v = map sorted_step v.items

-- the number that the map with the entries `es` has for the array at the path `p`, or 0 if it has none for this array
abbrev pub counts_in : List (Vec SortedStep Global × ℕ) → Path → ℕ
counts_in es p = unwrap_or (lookup (λ k. same_path p (sorted_steps k)) es) 0

abbrev pub counts_of : ElementCounts → Path → ℕ
counts_of o = counts_in o.elements.entries

abbrev pub no_counts : Path → ℕ
no_counts p = 0

-- the counts with one more element of the array at the path `q`
abbrev pub one_more : (Path → ℕ) → Path → (Path → ℕ)
one_more counts q p = if same_path q p then suc (counts p) else counts p

-- the counts after a header that names the path `p`; `doubled` is true if the header has double brackets
abbrev pub with_counted : (Path → ℕ) → Bool → Path → (Path → ℕ)
with_counted counts doubled p = if doubled then one_more counts p else counts

-- the path of the table that a section fills, given the path `p` of its header and the counts before the header
abbrev pub assigned_below : (Path → ℕ) → Bool → Path → Path
assigned_below counts doubled p = if doubled then with_position p (counts p) else p

-- the counts after the section `b`, given the counts before it
abbrev pub counts_after : (Path → ℕ) → ParsedSection → (Path → ℕ)
counts_after counts b = with_counted counts b.array (target counts [] b.header)
