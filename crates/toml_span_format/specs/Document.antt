-- The results of `format` and `format_sorted`, and what they keep.
use Rattle.std.specs.Prelude.{◌≡◌, ℕ, Bool, List, length, map, Vec, Result, Ok, Err, String, string_bytes}
use Rattle.std.specs.Global.{Global}
use Rattle.std.specs.List.{filter}
use Rattle.std.specs.List.Sorted.{IsPermutation, IsSortedBy}
use Rattle.toml_span_lex.specs.declared.stop.Stop.{Stop}
use Rattle.toml_span_lex.specs.declared.stop.Stop.TheVariants as stops
use Rattle.toml_span_tree.specs.Error.{content_of}
use Rattle.toml_span_read.specs.Data.{ParsedSection, parsed_section, depth_limit}
use Rattle.toml_span_read.specs.Faults.{fault_content}
use Rattle.toml_span_read.specs.Read.{document}
use Rattle.toml_span_read.specs.declared.fault.Fault.{Fault}
use Rattle.toml_span_read.specs.declared.section.Section.{Section}
use Rattle.toml_span_syntax.specs.Pieces.{Covers}
use Rattle.toml_span_syntax.specs.Statements.{Splits}
use Rattle.toml_span_syntax.specs.declared.pieces.Piece.{Piece}
use Rattle.toml_span_syntax.specs.declared.statements.Statement.{Statement}
use Rattle.toml_span_format.specs.Entries.{Content, begins_with_comment, content, entries, is_before, rank}
use Rattle.toml_span_format.specs.Keys.{keys}
use Rattle.toml_span_format.specs.Permuted.{PermutedSections}
use Rattle.toml_span_format.specs.Same.{bare_section}
use Rattle.toml_span_format.specs.Tokens.{is_comment, tokens}
use Rattle.toml_span_format.specs.declared.entries.Entry.{Entry}
use Rattle.toml_span_format.specs.declared.errors.FormatError.{FormatError}
use Rattle.toml_span_format.specs.declared.errors.FormatError.TheVariants as errors
use Rattle.toml_span_format.specs.declared.read.Document.{Document}

-- ---- what is read

-- The result has the sections of a text, or its first fault. An allocation may fail.
abbrev pub ReadsSections : List ℕ → Result (Vec Section Global) (Stop FormatError) → Type 0
ReadsSections text (Ok found) = document text depth_limit (Ok (map parsed_section found.items))
ReadsSections text (Err (stops.Memory e)) = Unit {0}
ReadsSections text (Err (stops.Fault (errors.Invalid error))) =
    (fault : Fault) × document text depth_limit (Err fault) × (content_of error ≡ fault_content text fault)
ReadsSections text (Err (stops.Fault errors.WouldDiffer)) = ⊥

-- The document has the sections and pieces of its text.
pub record IsRead (read : Document) : Type 0 where
  pub is_document : document read.text.now depth_limit (Ok (map parsed_section read.sections.items))
  pub covers : Covers read.text.now 0 read.pieces.items (length read.text.now)

-- The result is the document of a text, or the text's first fault. An allocation may fail.
abbrev pub ReadsDocument : List ℕ → Result Document (Stop FormatError) → Type 0
ReadsDocument text (Ok found) = (found.text.now ≡ text) × IsRead found
ReadsDocument text (Err (stops.Memory e)) = Unit {0}
ReadsDocument text (Err (stops.Fault (errors.Invalid error))) =
    (fault : Fault) × document text depth_limit (Err fault) × (content_of error ≡ fault_content text fault)
ReadsDocument text (Err (stops.Fault errors.WouldDiffer)) = ⊥

-- ---- what is kept

-- Both texts have the same sections in the same order: the same headers, and the same keys in the same order with the
-- same values.
abbrev pub SameSections : List ℕ → List ℕ → Type 0
SameSections old new = (bs : List ParsedSection) × (cs : List ParsedSection) × document old depth_limit (Ok bs)
    × document new depth_limit (Ok cs) × (map bare_section bs ≡ map bare_section cs)

-- These are the tokens and comments of a text, in order: all of the text but blanks, line ends and commas.
abbrev pub HasTokens : List ℕ → List (List ℕ) → Type 0
HasTokens text ts = (ps : List Piece) × Covers text 0 ps (length text) × (ts ≡ tokens text ps)

-- Both texts have the same tokens and comments, in one order.
abbrev pub SameTokens : List ℕ → List ℕ → Type 0
SameTokens old new = (ts : List (List ℕ)) × HasTokens old ts × HasTokens new ts

abbrev pub SameDocument : List ℕ → List ℕ → Type 0
SameDocument old new = SameSections old new × SameTokens old new

-- ---- what is kept in another order

-- These are the comments of a text, in any order.
abbrev pub CommentsPermuted : List ℕ → List (List ℕ) → Type 0
CommentsPermuted text us = (ts : List (List ℕ)) × HasTokens text ts × IsPermutation (filter is_comment ts) us

-- Both texts have the same comments, except for their order.
abbrev pub PermutedComments : List ℕ → List ℕ → Type 0
PermutedComments old new = (us : List (List ℕ)) × CommentsPermuted old us × CommentsPermuted new us

-- These are the entries of a text with these pieces.
abbrev pub HasEntries : List ℕ → List Piece → Bool → List Entry → Type 0
HasEntries text ps headed es = (ss : List Statement) × Splits ps 0 ss (length ps) × (es ≡ entries text ps headed ss)

-- These are the contents of the entries of a text, in order.
abbrev pub HasContents : List ℕ → Bool → List Content → Type 0
HasContents text headed cs = (bs : List ParsedSection) × (ps : List Piece) × (es : List Entry)
    × document text depth_limit (Ok bs) × Covers text 0 ps (length text) × HasEntries text ps headed es
    × (cs ≡ map (content text ps (keys bs)) es)

-- whether the text begins with a comment, apart from blanks and line ends
abbrev pub IsHeaded : List ℕ → Bool → Type 0
IsHeaded text headed = (ps : List Piece) × Covers text 0 ps (length text) × (headed ≡ begins_with_comment ps)

-- The new text has the entries of the old one. In each group, they are sorted by their keys. Since an entry's content
-- names its group, the entry stays in it. If the old text begins with a comment, the comments at its top are on the
-- whole document.
abbrev pub SortedEntries : List ℕ → List ℕ → Type 0
SortedEntries old new = (headed : Bool) × (cs : List Content) × (ds : List Content) × IsHeaded old headed
    × HasContents old headed cs × HasContents new headed ds × IsPermutation cs ds
    × IsSortedBy is_before (map (λ d. d.rank) ds)

-- Both texts have the same sections, except for the order of the assignments in each.
abbrev pub SamePermutedSections : List ℕ → List ℕ → Type 0
SamePermutedSections old new = (bs : List ParsedSection) × (cs : List ParsedSection) × document old depth_limit (Ok bs)
    × document new depth_limit (Ok cs) × PermutedSections bs cs

abbrev pub SortedDocument : List ℕ → List ℕ → Type 0
SortedDocument old new = SamePermutedSections old new × SortedEntries old new

-- These entries of a document are those of the new text, and sorted by their keys, which are `ks`. The sections of the new
-- text are those of the document, except for the order of the assignments in each.
abbrev pub SortsEntries : Document → List (List (List ℕ)) → Bool → List Entry → List ℕ → Type 0
SortsEntries old ks headed es new = SamePermutedSections old.text.now new
    × HasContents new headed (map (content old.text.now old.pieces.items ks) es) × IsSortedBy is_before (map (rank ks) es)

-- ---- results

-- The result is a new text to which P relates `text`, or the first fault of `text`. `WouldDiffer` is returned only if
-- `text` has no fault. An allocation may fail.
abbrev pub Keeps : (List ℕ → List ℕ → Type 0) → List ℕ → Result (String Global) (Stop FormatError) → Type 0
Keeps P text (Ok new) = P text (string_bytes new)
Keeps P text (Err (stops.Memory e)) = Unit {0}
Keeps P text (Err (stops.Fault (errors.Invalid error))) =
    (fault : Fault) × document text depth_limit (Err fault) × (content_of error ≡ fault_content text fault)
Keeps P text (Err (stops.Fault errors.WouldDiffer)) = (bs : List ParsedSection) × document text depth_limit (Ok bs)

-- The result of `format`: a new text has the same sections, tokens and comments as `text` (see `Keeps`).
abbrev pub Formats : List ℕ → Result (String Global) (Stop FormatError) → Type 0
Formats text result = Keeps SameDocument text result

abbrev pub FormatsSorted : List ℕ → Result (String Global) (Stop FormatError) → Type 0
FormatsSorted text result = Keeps SortedDocument text result
