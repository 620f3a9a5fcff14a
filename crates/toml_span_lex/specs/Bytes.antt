-- Named bytes and characters, classes of bytes, and runs of bytes of a class.
use Rattle.std.specs.Prelude.{◌≡◌, ℕ, ◌<◌, ◌≤◌, Bool, true, false, not, ◌&&◌, ◌||◌, ◌==◌, nat_le, List, length}
use Rattle.std.specs.Prelude.{slice_index}
use Rattle.std.specs.Char.{is_ascii_alphanumeric}

-- ---- named bytes and characters

abbrev pub backspace : ℕ
backspace = 8

abbrev pub tab : ℕ
tab = 9

abbrev pub line_feed : ℕ
line_feed = 10

abbrev pub form_feed : ℕ
form_feed = 12

abbrev pub carriage_return : ℕ
carriage_return = 13

abbrev pub escape_character : ℕ
escape_character = 27

abbrev pub space : ℕ
space = 32

abbrev pub quotation_mark : ℕ
quotation_mark = 34

abbrev pub hash : ℕ
hash = 35

abbrev pub apostrophe : ℕ
apostrophe = 39

abbrev pub backslash : ℕ
backslash = 92

abbrev pub plus : ℕ
plus = 43

abbrev pub comma : ℕ
comma = 44

abbrev pub dash : ℕ
dash = 45

abbrev pub period : ℕ
period = 46

abbrev pub slash : ℕ
slash = 47

abbrev pub digit_zero : ℕ
digit_zero = 48

abbrev pub colon : ℕ
colon = 58

abbrev pub equals : ℕ
equals = 61

abbrev pub left_bracket : ℕ
left_bracket = 91

abbrev pub right_bracket : ℕ
right_bracket = 93

abbrev pub underscore : ℕ
underscore = 95

abbrev pub small_e : ℕ
small_e = 101

abbrev pub small_x : ℕ
small_x = 120

abbrev pub left_brace : ℕ
left_brace = 123

abbrev pub right_brace : ℕ
right_brace = 125

abbrev pub delete : ℕ
delete = 127

abbrev pub byte_order_mark : ℕ
byte_order_mark = 0xFEFF

-- ---- classes

-- `wschar = %x20 / %x09`: a space or a tab
abbrev pub is_blank : ℕ → Bool
is_blank c = c == space || c == tab

-- `ALPHA / DIGIT / %x2D / %x5F`, a character of an `unquoted-key`: an ASCII letter or digit, a dash or an underscore
abbrev pub is_keylike : ℕ → Bool
is_keylike c = (is_ascii_alphanumeric c || c == dash) || c == underscore

-- `non-eol = %x09 / %x20-7E / non-ascii`: a tab, or any byte except ASCII control characters. Bytes from 128 on are
-- part of a non-ASCII character.
abbrev pub is_printed : ℕ → Bool
is_printed c = c == tab || (nat_le space c && not (c == delete))

-- ---- runs

-- The bytes from i to j (exclusive) pass the test p, and the byte at j, if there is one, does not.
pub record MaximalRun (p : ℕ → Bool) (text : List ℕ) (i j : ℕ) : Type 0 where
  pub forward : i ≤ j
  pub within : j ≤ length text
  pub passes : (k : ℕ) → i ≤ k → k < j → p (slice_index text k) ≡ true
  pub stops : j < length text → p (slice_index text j) ≡ false
