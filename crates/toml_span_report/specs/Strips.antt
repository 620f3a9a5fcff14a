-- Strips: the parts of source lines that labels mark. Windows: the parts of source lines that a report prints.
use Rattle.std.specs.Prelude.{ℕ, ◌+◌, ◌-◌, min, Bool, false, ◌==◌, ◌&&◌, ◌||◌, nat_lt, nat_le, List, [], ◌∷◌, length}
use Rattle.std.specs.Prelude.{take, drop, slice_range, Option, Some, None, if◌then◌else◌}
use Rattle.std.specs.List.{fold, insert, position_or_len}
use Rattle.toml_span_tree.specs.Diagnostic.{LabelContent}
use Rattle.toml_span_report.specs.declared.strips.Strip.{Strip}
use Rattle.toml_span_report.specs.declared.strips.Window.{Window}
use Rattle.toml_span_report.specs.Places.{floor_boundary, line_start, line_end, line_number, column, span_start}
use Rattle.toml_span_report.specs.Places.{span_end}

-- a marked part of a line, with the text before and after it on the line, which may be cut
pub record StripContent : Type 0 where
  pub at : ℕ
  pub number : ℕ
  pub column : ℕ
  pub is_cut_before : Bool
  pub before : List ℕ
  pub marked : List ℕ
  pub after : List ℕ
  pub is_cut_after : Bool
  pub is_primary : Bool
  pub message : List ℕ

-- a strip as plain data
abbrev pub strip_content : Strip → StripContent
strip_content s = record {
  at = s.at;
  number = s.number;
  column = s.column;
  is_cut_before = s.is_cut_before;
  before = s.before.now;
  marked = s.marked.now;
  after = s.after.now;
  is_cut_after = s.is_cut_after;
  is_primary = s.is_primary;
  message = s.message.now;
}

-- the strip from the offset `from` to the offset `to`, or to the end of the line of `from` if that comes first
unfoldable pub strip_at : List ℕ → ℕ → ℕ → Bool → List ℕ → StripContent
strip_at text from to is_primary message =
    let end = line_end text from in
    record {
      at = from;
      number = line_number text from;
      column = column text from;
      is_cut_before = false;
      before = slice_range text (line_start text from) from;
      marked = slice_range text from (min to end);
      after = slice_range text (min to end) end;
      is_cut_after = false;
      is_primary = is_primary;
      message = message;
    }

-- The strips of the span `from..to`: one on its first line and, if it ends on another line, one there. The line of `to`
-- starts at `again`. Only the last strip has the message.
abbrev pub strips_between : List ℕ → ℕ → ℕ → ℕ → Bool → List ℕ → List StripContent
strips_between text from again to is_primary message =
    if nat_le again from then strip_at text from to is_primary message ∷ []
    else strip_at text from to is_primary [] ∷ strip_at text again to is_primary message ∷ []

unfoldable pub strips_of : {F : Type 0} → List ℕ → LabelContent F → List StripContent
strips_of text mark =
    let to = span_end text mark.span in
    strips_between text (span_start text mark.span) (line_start text to) to mark.primary mark.message

-- the position of the first strip that begins after the offset, or the number of strips if all begin at or before it
abbrev pub earlier : List StripContent → ℕ → ℕ
earlier parts at = position_or_len (λ p. nat_lt at p.at) parts

-- the strips `parts` with `p` inserted, after those that begin at the same offset
abbrev pub placed : List StripContent → StripContent → List StripContent
placed parts p = insert parts (earlier parts p.at) p

-- the strips of all labels, sorted by their offsets
unfoldable pub all_strips : {F : Type 0} → List ℕ → List (LabelContent F) → List StripContent
all_strips text marks = fold (λ parts mark. fold placed parts (strips_of text mark)) [] marks

-- ---- what is printed of a long line

-- A window shows the strips of one line that begin at most 240 bytes after the start of its first strip.
abbrev pub is_near : Window → StripContent → Bool
is_near window p = p.number == window.number && nat_le (p.at - window.first) 240

-- the start of the last strip in the window, after the window is widened to show the strips of the list before the
-- first one that is not near
abbrev pub last_near : Window → List StripContent → ℕ
last_near window [] = window.last
last_near window (p ∷ ps) =
    if is_near window p then last_near (record { number = window.number; first = window.first; last = p.at }) ps
    else window.last

abbrev pub window_from : Window → List StripContent → Window
window_from window ps =
    record { number = window.number; first = window.first; last = last_near window ps }

-- the window that shows `p`: the given one if `p` is near, otherwise a new one for `p` and, of the next strips `ps`,
-- those before the first one that is not near
abbrev pub window_of : Option Window → StripContent → List StripContent → Window
window_of None p ps = window_from (record { number = p.number; first = p.at; last = p.at }) ps
window_of (Some window) p ps =
    if is_near window p then window
    else window_from (record { number = p.number; first = p.at; last = p.at }) ps

-- A window shows its line from 80 bytes before its first strip to 160 bytes after the start of its last strip: `hidden`
-- is the number of bytes before `p` that are cut, and `room` the number of bytes from the start of `p` on that can be
-- shown.
abbrev pub hidden : Window → StripContent → ℕ
hidden window p = length p.before - (p.at - window.first) - 80

abbrev pub room : Window → StripContent → ℕ
room window p = min (window.last - p.at) 240 + 160

unfoldable pub seen_in : Window → StripContent → StripContent
seen_in window p =
    let left = floor_boundary p.before (hidden window p) in
    let marked = floor_boundary p.marked (room window p) in
    let after = floor_boundary p.after (room window p - length p.marked) in
    record {
      at = p.at;
      number = p.number;
      column = p.column;
      is_cut_before = nat_lt 0 left;
      before = drop left p.before;
      marked = take marked p.marked;
      after = take after p.after;
      is_cut_after = nat_lt marked (length p.marked) || nat_lt after (length p.after);
      is_primary = p.is_primary;
      message = p.message;
    }
