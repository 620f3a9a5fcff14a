-- The entries that `format_sorted` sorts.
use Rattle.std.specs.Prelude.{ℕ, ◌+◌, ◌%◌, ◌^◌, Bool, true, false, not, ◌&&◌, ◌||◌, ◌==◌, nat_lt, if◌then◌else◌, List, [], ◌∷◌, ◌++◌}
use Rattle.std.specs.Prelude.{length, map, slice_index, slice_index_or, Vec}
use Rattle.std.specs.List.{slice_range, list_any}
use Rattle.std.specs.Cmp.Lexicographic.{slice_cmp}
use Rattle.std.specs.Ordering.{is_lt, nat_cmp}
use Rattle.std.specs.Global.{Global}
use Rattle.toml_span_syntax.specs.declared.pieces.Kind.{Kind}
use Rattle.toml_span_syntax.specs.declared.pieces.Kind.TheVariants as kinds
use Rattle.toml_span_syntax.specs.declared.pieces.Piece.{Piece}
use Rattle.toml_span_syntax.specs.declared.heads.StatementKind.TheVariants as is
use Rattle.toml_span_syntax.specs.declared.statements.Statement.{Statement}
use Rattle.toml_span_format.specs.declared.entries.Entry.{Entry}
use Rattle.toml_span_format.specs.declared.entries.Grouping.{Grouping}
use Rattle.toml_span_format.specs.Tokens.{is_layout, tokens}
use denote.Ref.{Bor}

-- What is known after some statements: their entries; the group and the number of the next assignment; the position
-- after the last entry or blank line; and whether a comment in the next line is on the whole document.
pub record State : Type 0 where
  pub entries : List Entry
  pub group : ℕ
  pub key : ℕ
  pub first : ℕ
  pub is_head : Bool

abbrev pub has_tokens : List Piece → ℕ → ℕ → Bool
has_tokens ps first end = list_any (λ p. not (is_layout p.kind)) (slice_range ps first end)

abbrev pub is_comment_kind : Kind → Bool
is_comment_kind kinds.Comment = true
is_comment_kind _ = false

-- whether the first of these pieces is a comment, apart from blanks, line ends and commas
abbrev pub begins_with_comment : List Piece → Bool
begins_with_comment [] = false
begins_with_comment (p ∷ ps) = if is_layout p.kind then begins_with_comment ps else is_comment_kind p.kind

-- whether a piece is a directive: a comment that begins with `#:`
abbrev pub is_directive : List ℕ → Piece → Bool
is_directive text p = is_comment_kind p.kind && slice_index text (p.start + 1) == 58

abbrev pub has_directive : List ℕ → List Piece → ℕ → ℕ → Bool
has_directive text ps first end = list_any (is_directive text) (slice_range ps first end)

-- The group ends. Comments since the last entry become an entry.
abbrev pub with_comments : List Piece → State → ℕ → List Entry
with_comments ps s end =
    if has_tokens ps s.first end
    then s.entries ++ record { group = length s.entries; key = 0; first = s.first; end = end } ∷ []
    else s.entries

abbrev pub close : List Piece → State → ℕ → State
close ps s end =
    record s { entries = with_comments ps s end; group = length (with_comments ps s end); first = end }

-- after a blank line; after a line with a comment, which ends an entry if it is on the whole document or a directive;
-- after an assignment; and after a header
abbrev pub blank : List Piece → State → Statement → State
blank ps s line =
    record (close ps s line.first) {
      first = line.end;
      is_head = s.is_head && (length (with_comments ps s line.first) == 0);
    }

abbrev pub comment : List ℕ → List Piece → State → Statement → State
comment text ps s line =
    if s.is_head || has_directive text ps line.first line.end then close ps s line.end else s

abbrev pub assignment : State → ℕ → State
assignment s end =
    record s {
      entries = s.entries ++ record { group = s.group; key = s.key; first = s.first; end = end } ∷ [];
      key = (s.key + 1) % (2 ^ 64);
      first = end;
      is_head = false;
    }

abbrev pub header : List Piece → State → ℕ → State
header ps s end = record (close ps s end) { is_head = false }

-- after a statement
abbrev pub step : List ℕ → List Piece → State → Statement → State
step text ps s next = elim (next.kind) [
  | is.Blank ↦ if has_tokens ps next.first next.end then comment text ps s next else blank ps s next
  | is.Header ↦ header ps s next.end
  | is.Assignment ↦ assignment s next.end
  | is.Unreadable ↦ header ps s next.end
]

-- the entries of a text with these statements, after which this is known; and those of all its statements
unfoldable pub entries_from : List ℕ → List Piece → State → List Statement → List Entry
entries_from text ps s [] = (close ps s (length ps)).entries
entries_from text ps s (next ∷ rest) = entries_from text ps (step text ps s next) rest

abbrev pub entries : List ℕ → List Piece → Bool → List Statement → List Entry
entries text ps headed statements =
    entries_from text ps record { entries = []; group = 0; key = 1; first = 0; is_head = headed } statements

abbrev pub state : Grouping → State
state g =
    record { entries = g.entries.items; group = g.group; key = g.key; first = g.first; is_head = g.is_head }

-- ---- entries of two texts

abbrev pub key_names : Vec (Bor (List ℕ)) Global → List (List ℕ)
key_names v = map (λ t. t.now) v.items

-- The rank of an entry: its group, and the names of the parts of its key. `ks` are the names of all keys, by number.
abbrev pub rank : List (List (List ℕ)) → Entry → ℕ × List (List ℕ)
rank ks e = (e.group, slice_index_or ks e.key [])

-- whether a list of names is less than another one: name by name, by their bytes
abbrev pub is_less : List (List ℕ) → List (List ℕ) → Bool
is_less xs ys = is_lt (slice_cmp (slice_cmp nat_cmp) xs ys)

-- whether one rank is before another: by their groups, and then by their names
abbrev pub is_before : ℕ × List (List ℕ) → ℕ × List (List ℕ) → Bool
is_before a b = nat_lt a.0 b.0 || ((a.0 == b.0) && is_less a.1 b.1)

abbrev pub tokens_in : List ℕ → List Piece → Entry → List (List ℕ)
tokens_in text ps e = tokens text (slice_range ps e.first e.end)

-- What an entry is in any layout: its rank, and its tokens and comments.
pub record Content : Type 0 where
  pub rank : ℕ × List (List ℕ)
  pub tokens : List (List ℕ)

abbrev pub content : List ℕ → List Piece → List (List (List ℕ)) → Entry → Content
content text ps ks e = record { rank = rank ks e; tokens = tokens_in text ps e }
