-- Finished tables to which headers still add tables.
use Rattle.std.specs.Prelude.{◌≡◌, ℕ, ◌<◌, ◌≤◌, Bool, true, false, List, [], ◌∷◌, ◌++◌, length, Option, Some, None}
use Rattle.std.specs.Prelude.{option_map, IsSomeAnd}
use Rattle.std.specs.Cow.{cow_str_bytes}
use Rattle.std.specs.List.{AllByRecursion}
use Rattle.std.specs.Map.{lookup_entry}
use Rattle.toml_span_lex.specs.declared.key.Key.{Key}
use Rattle.toml_span_tree.specs.Path.{Path, Step, key, position, reached, place_of as tree_place}
use Rattle.toml_span_tree.specs.Value.{view}
use Rattle.toml_span_tree.specs.declared.value.Value.{Value}
use Rattle.toml_span_tree.specs.declared.value.ValueInner.TheVariants.{Table as table_inner, Array as array_inner}
use Rattle.toml_span_read.specs.Borrowed.{keys_written, AreWrittenRight}
use Rattle.toml_span.specs.Borrowed.{KeySpans, strings_and_keys, IsBorrowedRight, AreBorrowedRight}
use Rattle.toml_span.specs.Claims.{Claims}
use Rattle.toml_span.specs.Ordered.{IsOrdered}
use Rattle.toml_span.specs.code.Machine.{Cell, CellMap, no_cell, no_cells, key_spans, put_all, clash_found}
use Rattle.toml_span.specs.code.Placing.{Array, NamesAscend, Table, place_shown}
use Rattle.toml_span.specs.code.Relative.{counts_after, section_at}
use Rattle.toml_span_read.specs.Data.{SimpleKey}
use Rattle.toml_span_lex.specs.Key.{is_named}
use Rattle.toml_span.specs.declared.claims.ClaimInfo.{ClaimInfo}
use Rattle.toml_span.specs.declared.claims.HeaderInfo.{HeaderInfo}
use Rattle.toml_span.specs.declared.claims.ClaimKind.{ClaimKind}
use Rattle.toml_span.specs.declared.claims.ClaimKind.TheVariants.{Assigned}

-- ---- entries

-- A header made the entry: its value begins at the header's first bracket, before the key. A value that an assignment
-- makes begins after its key.
abbrev pub IsByHeader : Key × Value → Type 0
IsByHeader e = e.1.span.start < e.0.span.start

-- The strings and keys in the entry are borrowed correctly, where the keys are written at these spans.
abbrev pub EntryRight : List ℕ → KeySpans → Key × Value → Type 0
EntryRight text spans e = IsBorrowedRight text (e.0.name, spans []) × AreBorrowedRight text (strings_and_keys e.1 spans)

-- The entry has the places in the cells `st`, at its path and below. The names in its tables ascend, and its strings
-- and keys are borrowed correctly.
pub record EntryShows (text : List ℕ) (e : Key × Value) (st : CellMap) : Type 0 where
  pub places : (p : Path) → option_map tree_place (reached p (Some e.0.span, view e.1)) ≡ place_shown (st p)
  pub ordered : IsOrdered (view e.1)
  pub right : EntryRight text (key_spans st) e

abbrev pub is_assigned : ClaimKind → Bool
is_assigned Assigned = true
is_assigned _ = false

-- No value has been assigned to the path of the cell, and a header determines the place there.
pub record IsTableCell (x : Cell) : Type 0 where
  pub free : AllByRecursion (λ (m : ClaimInfo). is_assigned m.kind ≡ false) x.infos
  pub header : IsSomeAnd x.shown (λ d. d.header ≡ true)

-- The list has the elements of an array of tables, at least one. The last one is a table that headers made. Nothing has
-- been claimed at positions after it.
pub record HasElements (vs : List Value) (st : CellMap) (e : Path → ℕ) : Type 0 where
  pub count : e [] ≡ length vs
  pub some : vs ≡ [] → ⊥
  pub latest : (before : List Value) (v : Value) → vs ≡ before ++ (v ∷ [])
      → IsTableCell (st (position (length before) ∷ [])) × (e (position (length before) ∷ []) ≡ 0)
  pub free : (i : ℕ) (p : Path) → length vs ≤ i → (st (position i ∷ p) ≡ no_cell) × (e (position i ∷ p) ≡ 0)

-- The cells `st` and the numbers of elements `e` are those of v, a table or an array of tables that a header made.
pub record IsMade (v : Value) (st : CellMap) (e : Path → ℕ) : Type 0 where
  pub table : (t : Table) → v.value ≡ Some (table_inner t) → (e [] ≡ 0) × IsTableCell (st [])
  pub array : (a : Array) → v.value ≡ Some (array_inner a) → HasElements a.items st e

abbrev pub EntryAt : List ℕ → Option (Key × Value) → CellMap → (Path → ℕ) → Type 0
EntryAt text None st e = (st ≡ no_cells) × (e ≡ (λ p. 0))
EntryAt text (Some x) st e = EntryShows text x st × (IsByHeader x → IsMade x.1 st e)

-- At the path p, v has the table t, to which headers still add tables: v itself or, in an array of tables, the last
-- element.
abbrev pub IsOpenTable : Value → Path → Table → Type 0
IsOpenTable v [] t = v.value ≡ Some (table_inner t)
IsOpenTable v (position i ∷ []) t =
    (a : Array) × (before : List Value) × (w : Value)
    × (v.value ≡ Some (array_inner a)) × (a.items ≡ before ++ (w ∷ [])) × (i ≡ length before)
    × (w.value ≡ Some (table_inner t))
IsOpenTable v _ t = ⊥

-- ---- tables

-- The table has the places in the cells `st`, and its arrays of tables have the numbers of elements `e`. Its strings
-- and keys are borrowed correctly.
pub data IsBuilt (text : List ℕ) : Table → CellMap → (Path → ℕ) → Type 0 where
  built : (t : Table) (st : CellMap) (e : Path → ℕ)
      → ((i : ℕ) (p : Path) → st (position i ∷ p) ≡ no_cell)
      → ((name : List ℕ) → EntryAt text (lookup_entry (is_named name) t.entries)
      (λ p. st (key name ∷ p)) (λ p. e (key name ∷ p)))
      → ((name : List ℕ) (x : Key × Value) (q : Path) (u : Table) → lookup_entry (is_named name) t.entries ≡ Some x
      → IsByHeader x → IsOpenTable x.1 q u
      → IsBuilt text u (λ p. st (key name ∷ (q ++ p))) (λ p. e (key name ∷ (q ++ p))))
      → IsBuilt text t st e

-- The entry x, which a header made or passed through, has the places in the cells `st`, and its arrays of tables have
-- the numbers of elements `e`.
pub record EntryBuilt (text : List ℕ) (x : Key × Value) (st : CellMap) (e : Path → ℕ) : Type 0 where
  pub shows : EntryShows text x st
  pub made : IsMade x.1 st e
  pub inside : (q : Path) (u : Table) → IsOpenTable x.1 q u → IsBuilt text u (λ p. st (q ++ p)) (λ p. e (q ++ p))

-- The claims `cs` do not clash with the claims from which the table `old` was built, and the table `new` is built from
-- both.
abbrev pub BuildsOn : List ℕ → Table → Table → ((Path → ℕ) → Claims) → ((Path → ℕ) → Path → ℕ) → Type 0
BuildsOn text old new cs after =
    (st : CellMap) (e : Path → ℕ) → IsBuilt text old st e
    → (clash_found st (cs e) ≡ None) × IsBuilt text new (put_all st (cs e)) (after e)

-- The table `new` is built from the table `old` and the claims of a section with the header h, whose remaining parts,
-- at least one, lead on from the table. The names in it ascend.
pub record PassesOn (text : List ℕ) (h : HeaderInfo) (tail : Claims) (parts : List SimpleKey) (old new : Table)
    : Type 0 where
  pub some : parts ≡ [] → ⊥
  pub ascend : NamesAscend new
  pub builds : BuildsOn text old new (λ e. section_at e h parts tail) (λ e. counts_after e h parts)

-- The value `new` is a table, built from the table `old` in the same way. Its span is the same.
pub record PassesElement (text : List ℕ) (h : HeaderInfo) (tail : Claims) (parts : List SimpleKey) (old new : Value)
    : Type 0 where
  pub before : Table
  pub after : Table
  pub was : old.value ≡ Some (table_inner before)
  pub held : new.value ≡ Some (table_inner after)
  pub span : new.span ≡ old.span
  pub passes : PassesOn text h tail parts before after

-- The claims `cs` do not clash with the claims from which the entry's value `old` was built, and the value `new` is
-- built from both.
abbrev pub EntryBuildsOn : List ℕ → Key → Value → Value → ((Path → ℕ) → Claims) → ((Path → ℕ) → Path → ℕ) → Type 0
EntryBuildsOn text k old new cs after =
    (st : CellMap) (e : Path → ℕ) → EntryBuilt text (k, old) st e
    → (clash_found st (cs e) ≡ None) × EntryBuilt text (k, new) (put_all st (cs e)) (after e)

-- An entry whose value is the array a is built on by these claims if the array becomes b.
abbrev pub ArrayBuildsOn : List ℕ → Key → Array → Array → ((Path → ℕ) → Claims) → ((Path → ℕ) → Path → ℕ) → Type 0
ArrayBuildsOn text k a b cs after =
    (old new : Value) → old.value ≡ Some (array_inner a) → new.value ≡ Some (array_inner b) → new.span ≡ old.span
    → EntryBuildsOn text k old new cs after

-- ---- sections

abbrev pub IsEmptyBelow : CellMap → Type 0
IsEmptyBelow st = (s : Step) (p : Path) → st (s ∷ p) ≡ no_cell

-- The claims `tail` are those of the assignments of a section, with paths that begin at the section's table. If nothing
-- is claimed below the table yet, they do not clash, and t is the table that is built from them.
pub record IsSection (text : List ℕ) (tail : Claims) (t : Table) : Type 0 where
  pub free : (st : CellMap) → IsEmptyBelow st → clash_found st tail ≡ None
  pub here : (st : CellMap) → put_all st tail [] ≡ st []
  pub built : (st : CellMap) → IsEmptyBelow st → IsBuilt text t (put_all st tail) (λ p. 0)

-- The value v is the table of a section with the header h, and `tail` are the claims of the section's assignments.
-- `parts`, the remaining parts of the header, are borrowed correctly.
pub record Placed (text : List ℕ) (h : HeaderInfo) (tail : Claims) (parts : List Key) (array : Bool) (v : Value)
    : Type 0 where
  pub brackets : h.array ≡ array
  pub extent : h.extent ≡ v.span
  pub keys : AreWrittenRight text (keys_written parts)
  pub table : Table
  pub held : v.value ≡ Some (table_inner table)
  pub ascend : NamesAscend table
  pub section : IsSection text tail table

-- The key has the name and the span of the part, and is borrowed correctly.
abbrev pub IsKeyFor : List ℕ → Key → Key → Type 0
IsKeyFor text k part =
    (cow_str_bytes k.name ≡ cow_str_bytes part.name) × (k.span ≡ part.span) × IsBorrowedRight text (k.name, Some k.span)

-- The claims `cs` do not clash, and the entry x is built from them.
abbrev pub MakesEntry : List ℕ → Key × Value → Claims → (Path → ℕ) → Type 0
MakesEntry text x cs e = (clash_found no_cells cs ≡ None) × EntryBuilt text x (put_all no_cells cs) e

-- An assignment made the entry: its value begins after its key.
abbrev pub IsLate : Key × Value → Type 0
IsLate x = x.0.span.start ≤ x.1.span.start
