-- How a text is read: for each construct of the grammar, what is at an offset and where it ends, or the fault there
-- (TOML 1.1, "Overall Structure", "Keys", "Key/Value Pair", "String" to "Local Time", "Array", "Inline Table", "Table",
-- "Array of Tables").
--
-- The standard does not define faults: these definitions say which one a text has, and where. `document`, the last one,
-- reads a whole text; each definition uses only earlier ones. Keys that clash, such as `a = 1` on two lines, are not
-- faults: see `Clashes` of toml_span. `Grammar` says how each construct is spelled, without faults. A law says that the
-- two agree: a text is read as sections if and only if it spells them.
use Rattle.std.specs.Prelude.{◌≡◌, ℕ, zero, suc, ◌+◌, ◌⊎◌, Bool, true, false, ◌||◌, ◌==◌, List, [], ◌∷◌, ◌++◌, length}
use Rattle.std.specs.Prelude.{if◌then◌else◌, slice_index, slice_range, codes, is_some, Result, Ok, Err}
use Rattle.std.specs.Option.{option_map_or}
use Rattle.std.specs.Str.{bytes_eq}
use Rattle.toml_span_lex.specs.Bytes.{is_blank, MaximalRun, comma, equals, left_bracket, right_bracket, left_brace}
use Rattle.toml_span_lex.specs.Bytes.{right_brace}
use Rattle.toml_span_lex.specs.declared.span.Span.{Span}
use Rattle.toml_span_lex.specs.declared.tokens.Error.{Error}
use Rattle.toml_span_lex.specs.Text.{FirstPlace}
use Rattle.toml_span_lex.specs.Tokens.{Lexeme, keylike, string, IsLexeme, IsNoToken}
use Rattle.toml_span_tree.specs.Date.{is_date_text}
use Rattle.toml_span_tree.specs.Node.{Scalar, boolean, datetime, text as text_scalar}
use Rattle.toml_span_read.specs.Data.{ParsedValue, parsed, ParsedInner, scalar, array as array_node, no_items, onto}
use Rattle.toml_span_read.specs.Data.{headerless_section, from_to, last_end, inline as inline_node, no_pairs}
use Rattle.toml_span_read.specs.Data.{pairs_onto, ParsedAssignment, ParsedSection, SimpleKey}
use Rattle.toml_span_read.specs.Dates.{begins_date, IsCandidate}
use Rattle.toml_span_read.specs.declared.fault.ExpectedToken.{ExpectedToken}
use Rattle.toml_span_read.specs.declared.fault.ExpectedToken.TheVariants as expected_tokens
use Rattle.toml_span_read.specs.declared.fault.Fault.{Fault}
use Rattle.toml_span_read.specs.declared.fault.FaultKind.TheVariants as kinds
use Rattle.toml_span_read.specs.declared.fault.FoundToken.TheVariants as found_tokens
use Rattle.toml_span_read.specs.Earlier.{crossing}
use Rattle.toml_span_read.specs.Faults.{fault_at, found_of, token_fault, wanted_fault, opens_nested, begins_bare}
use Rattle.toml_span_read.specs.Faults.{begins_number}
use Rattle.toml_span_read.specs.Gaps.{MaximalGap, Dot, NoDot, Tail, NoTail}
use Rattle.toml_span_read.specs.Numerals.{run_end, special, number}

-- ---- reading

-- The possible results of reading a construct, such as a key: `Ok` with a value, or `Err` with a fault. Laws say that
-- reading a key, a value or a document has exactly one result.
abbrev pub Reading : Type 0 → Type 1
Reading A = Result A Fault → Type 0

-- the reading whose only result is x
abbrev pub gives : {A : Type 0} → Result A Fault → Reading A
gives x r = r ≡ x

-- Reads m and then f a, where a is the value that m has read. If m has a fault, that fault is the result.
abbrev pub after : {A B : Type 0} → Reading A → (A → Reading B) → Reading B
after {A = A} m f r = ((a : A) × m (Ok a) × f a r) ⊎ ((e : Fault) × m (Err e) × (r ≡ Err e))

-- `skipped` holds from i to some k, and `next` is read at k.
abbrev pub skipping : {A : Type 0} → (ℕ → ℕ → Type 0) → ℕ → (ℕ → Reading A) → Reading A
skipping skipped i next r = (k : ℕ) × skipped i k × next k r

-- the first reading if the test is true, otherwise the second
abbrev pub choice : {A : Type 0} → Bool → Reading A → Reading A → Reading A
choice test this that r = ((test ≡ true) × this r) ⊎ ((test ≡ false) × that r)

-- the result of one step of a loop: the state for the next step, or the result of the loop
pub data LoopStep (S A : Type 0) : Type 0 where
  on : S → LoopStep S A
  done : A → LoopStep S A

-- Repeats a step, each time with the state that the previous step returned, until one returns the result or has a
-- fault.
pub data Loop {S A : Type 0} (step : S → Result (LoopStep S A) Fault → Type 0) : S → Result A Fault → Type 0 where
  ends : (s : S) (a : A) → step s (Ok (done a)) → Loop step s (Ok a)
  stops : (s : S) (e : Fault) → step s (Err e) → Loop step s (Err e)
  goes_on : (s t : S) (r : Result A Fault) → step s (Ok (on t)) → Loop step t r → Loop step s r

-- ---- tokens

-- What is at an offset: a token, with its span (for a string, `content_span`), its content and its end; the end of the
-- text; or a fault of the tokenizer.
pub data NextToken : Type 0 where
  token : Span → Lexeme → ℕ → NextToken
  text_end : NextToken
  no_token : Error → NextToken

-- This token, the end of the text or this fault is at i.
abbrev pub IsNextToken : List ℕ → ℕ → NextToken → Type 0
IsNextToken text i (token span l j) = IsLexeme text i j span l
IsNextToken text i text_end = i ≡ length text
IsNextToken text i (no_token e) = (j : ℕ) × IsNoToken text i j e

-- The fault for something other than the expected token at i. It names what was expected and what was found. Its span
-- begins at i and is as long as the name of what was found. If the tokenizer has a fault at i, the result is that
-- fault.
abbrev pub wanted : ExpectedToken → ℕ → NextToken → Fault
wanted expected i (token span l j) = wanted_fault expected (found_of l) i
wanted expected i text_end = wanted_fault expected found_tokens.EndOfText i
wanted expected i (no_token e) = token_fault e

-- The fault that the expected token is missing at i. Only used where something else is there.
abbrev pub missing : {A : Type 0} → ExpectedToken → List ℕ → ℕ → Reading A
missing expected text i r =
    (next_token : NextToken) × IsNextToken text i next_token × (r ≡ Err (wanted expected i next_token))

-- ---- keys

-- `simple-key = quoted-key / unquoted-key`, `unquoted-key = 1*( ALPHA / DIGIT / %x2D / %x5F )`,
-- `quoted-key = basic-string / literal-string`
-- The simple key that the token at i spells, with the offset after it; a fault if anything else is at i. The fault of a
-- multi-line string begins at the string's first quote and is as long as the string's value.
abbrev pub key_result : ℕ → NextToken → Result (SimpleKey × ℕ) Fault
key_result i (token span (keylike name) j) = Ok (record { name = name; span = span }, j)
key_result i (token span (string source name false) j) = Ok (record { name = name; span = span }, j)
key_result i (token span (string source name true) j) =
    Err (record { kind = kinds.MultilineStringKey; span = from_to i (i + length name) })
key_result i next_token = Err (wanted expected_tokens.TableKey i next_token)

abbrev pub simple_key_at : List ℕ → ℕ → Reading (SimpleKey × ℕ)
simple_key_at text i r = (next_token : NextToken) × IsNextToken text i next_token × (r ≡ key_result i next_token)

-- the fault of a part beyond the limit, which begins at i: in a header the fault has the span of the part, elsewhere it
-- spans the byte at i
abbrev pub one_too_many : Bool → ℕ → SimpleKey → Fault
one_too_many in_header i s =
    record { kind = kinds.ExceededDepthLimit; span = if in_header then s.span else from_to i (i + 1) }

-- the parts of a key read so far, and the offset after them
abbrev pub Parts : Type 0
Parts = List SimpleKey × ℕ

-- `*( dot-sep simple-key )`, `dot-sep = ws %x2E ws`: if a dot follows these parts, `next` is read after it; otherwise
-- the key ends at m
abbrev pub onward : List ℕ → List SimpleKey → ℕ → (ℕ → Reading Parts) → Reading Parts
onward text ps m next r = (NoDot text m × (r ≡ Ok (ps, m))) ⊎ ((p : ℕ) × Dot text m p × next p r)

-- `key = simple-key / dotted-key`, `dotted-key = simple-key 1*( dot-sep simple-key )`: the parts ps have been read, and
-- at most `left` more are allowed. A part beyond the limit is read before it is reported, so that its own fault comes
-- first.
unfoldable pub key : Bool → List ℕ → ℕ → List SimpleKey → ℕ → Reading Parts
key in_header text zero ps i = after (simple_key_at text i) (λ (s, m). gives (Err (one_too_many in_header i s)))
key in_header text (suc left) ps i =
    after (simple_key_at text i) (λ (s, m). onward text (ps ++ (s ∷ [])) m (key in_header text left (ps ++ (s ∷ []))))

-- ---- values without brackets

-- `date-time = offset-date-time / local-date-time / local-date / local-time`. If the text that is read as a date or
-- time is not valid, the fault spans all of it.
abbrev pub date : List ℕ → ℕ → Reading (Scalar × ℕ)
date text i r =
    (j : ℕ) × IsCandidate text i j
    × choice (is_date_text (slice_range text i j)) (gives (Ok (datetime (slice_range text i j), j)))
    (gives (Err (record { kind = kinds.InvalidDatetime; span = from_to i j }))) r

-- the letters, digits, dashes and underscores from i on
abbrev pub run_at : List ℕ → ℕ → List ℕ
run_at text i = slice_range text i (run_end text i)

-- `boolean = true / false`. Any other run is an unquoted string, and the fault spans all of it.
abbrev pub word : List ℕ → ℕ → Result (Scalar × ℕ) Fault
word text i =
    if bytes_eq (run_at text i) (codes "true") then Ok (boolean true, run_end text i)
    else if bytes_eq (run_at text i) (codes "false") then Ok (boolean false, run_end text i)
    else Err (record { kind = kinds.UnquotedString; span = from_to i (run_end text i) })

-- `integer = dec-int / hex-int / oct-int / bin-int`, `float = float-int-part ( exp / frac [ exp ] )`,
-- `float =/ special-float`: a value that begins with a digit or a sign, or whose run is `inf` or `nan`, is read as a
-- number, any other value as a word
abbrev pub number_or_word : List ℕ → ℕ → Result (Scalar × ℕ) Fault
number_or_word text i =
    if begins_number (slice_index text i) || is_some (special false (run_at text i)) then number text i
    else word text i

-- a value without brackets, braces or quotes: the `boolean / date-time / float / integer` of `val`
abbrev pub bare : List ℕ → ℕ → Reading (Scalar × ℕ)
bare text i = choice (begins_date text i) (date text i) (gives (number_or_word text i))

-- a value and the offset after it
abbrev pub ValueEnd : Type 0
ValueEnd = ParsedValue × ℕ

-- `string = ml-basic-string / basic-string / ml-literal-string / literal-string`. If there is another token, the fault
-- spans that token, whereas a fault of `wanted` is as long as the token's name.
abbrev pub string_of : ℕ → NextToken → Result ValueEnd Fault
string_of i (token span (string source value multi) j) = Ok (parsed (scalar (text_scalar value)) span, j)
string_of i (token span l j) =
    Err (record { kind = kinds.Wanted expected_tokens.Value (found_of l); span = from_to i j })
string_of i text_end = Err (fault_at kinds.UnexpectedEof i)
string_of i (no_token e) = Err (token_fault e)

abbrev pub string_value : List ℕ → ℕ → Reading ValueEnd
string_value text i r = (next_token : NextToken) × IsNextToken text i next_token × (r ≡ string_of i next_token)

-- Beyond the limit, a bracket, a brace or an unquoted value is reported where it begins, and is not read. A string is
-- read first, so that its own fault, or that of a token with which no value begins, comes first.
abbrev pub too_deep : List ℕ → ℕ → Reading ValueEnd
too_deep text i =
    choice (opens_nested (slice_index text i) || begins_bare (slice_index text i))
    (gives (Err (fault_at kinds.ExceededDepthLimit i)))
    (after (string_value text i) (λ found. gives (Err (fault_at kinds.ExceededDepthLimit i))))

-- ---- arrays, inline tables and values

-- `array = array-open [ array-values ] ws-comment-newline array-close`, `array-open = %x5B`, `inline-table =
-- inline-table-open [ inline-table-keyvals ] ws-comment-newline inline-table-close`, `inline-table-open = %x7B`:
-- `inner` is read after the bracket or brace at i and a gap
abbrev pub nested : List ℕ → ℕ → (ℕ → Reading (ParsedInner × ℕ)) → Reading ValueEnd
nested text i inner =
    skipping (MaximalGap text) (i + 1) (λ k. after (inner k) (λ (v, j). gives (Ok (parsed v (from_to i j), j))))

-- `array-sep = %x2C`, `inline-table-sep = %x2C`, `array-close = %x5D`, `inline-table-close = %x7D`: an element or pair
-- ends at m, and a gap may follow. After a comma and another gap, which ends at p, the loop continues with the state
-- `next p`. After the byte `close`, the result of the loop is `end k`, where k is the offset after that byte. At
-- anything else, the fault is that the expected token is missing.
abbrev pub separator : {S A : Type 0} → ℕ → ExpectedToken → List ℕ → ℕ → (ℕ → S) → (ℕ → A) → Reading (LoopStep S A)
separator close expected text m next end =
    skipping (MaximalGap text) m (λ k.
    choice (slice_index text k == comma) (skipping (MaximalGap text) (k + 1) (λ p. gives (Ok (on (next p)))))
    (choice (slice_index text k == close) (gives (Ok (done (end (k + 1))))) (missing expected text k)))

-- the elements read so far, and the offset at which another one or the closing bracket is expected
abbrev pub Elements : Type 0
Elements = List ParsedValue × ℕ

-- the array of these elements, and the offset after it
abbrev pub array_end : List ParsedValue → ℕ → ParsedInner × ℕ
array_end vs j = (array_node (onto vs no_items), j)

-- `array-values = ws-comment-newline val ws-comment-newline array-sep array-values`, `array-values =/
-- ws-comment-newline val ws-comment-newline [ array-sep ]`: after the opening bracket or a comma, there is the closing
-- bracket or another element
abbrev pub next_element : List ℕ → (ℕ → Reading ValueEnd) → Elements → Reading (LoopStep Elements (ParsedInner × ℕ))
next_element text element (vs, i) =
    choice (slice_index text i == right_bracket) (gives (Ok (done (array_end vs (i + 1)))))
    (after (element i) (λ (v, m).
    separator right_bracket expected_tokens.RightBracket text m (λ p. (vs ++ (v ∷ []), p))
    (array_end (vs ++ (v ∷ [])))))

-- `keyval = key keyval-sep val`, `keyval-sep = ws %x3D ws`: `skipped` says what may be around the equals sign, and
-- `value n b` reads the value at b, whose key has n parts
abbrev pub keyval : List ℕ → ℕ → (ℕ → ℕ → Type 0) → (ℕ → ℕ → Reading ValueEnd) → ℕ → Reading (ParsedAssignment × ℕ)
keyval text limit skipped value i =
    after (key false text limit [] i) (λ (ps, a). skipping skipped a (λ n.
    choice (slice_index text n == equals)
    (skipping skipped (n + 1) (λ b. after (value (length ps) b) (λ (v, j).
    gives (Ok (record { parts = ps; value = v; extent = from_to i j }, j)))))
    (missing expected_tokens.Equals text n)))

-- the pairs or assignments es, followed by e, or the fault if the key of e goes through the value of one of them
abbrev pub added : List ParsedAssignment → ParsedAssignment → Reading (List ParsedAssignment)
added es e = gives (option_map_or (λ fault. Err fault) (crossing es e) (Ok (es ++ (e ∷ []))))

-- the pairs or assignments read so far, and the offset at which another one or their end is expected
abbrev pub Pairs : Type 0
Pairs = List ParsedAssignment × ℕ

-- the inline table of these pairs, and the offset after it
abbrev pub table_end : List ParsedAssignment → ℕ → ParsedInner × ℕ
table_end es j = (inline_node (pairs_onto es no_pairs), j)

-- `inline-table-keyvals = ws-comment-newline keyval ws-comment-newline inline-table-sep inline-table-keyvals`,
-- `inline-table-keyvals =/ ws-comment-newline keyval ws-comment-newline [ inline-table-sep ]`: after the opening brace
-- or a comma, there is the closing brace or another pair. Unlike in the standard's `keyval-sep`, line ends and comments
-- are allowed around the equals sign. The fault of a key that goes through an earlier value comes before faults after
-- the pair.
abbrev pub next_pair : List ℕ → ℕ → (ℕ → ℕ → Reading ValueEnd) → Pairs → Reading (LoopStep Pairs (ParsedInner × ℕ))
next_pair text limit value (es, i) =
    choice (slice_index text i == right_brace) (gives (Ok (done (table_end es (i + 1)))))
    (after (keyval text limit (MaximalGap text) value i) (λ (e, m).
    after (added es e) (λ fs. separator right_brace expected_tokens.Comma text m (λ p. (fs, p)) (table_end fs))))

-- `val = string / boolean / array / inline-table / date-time / float / integer`: the value at i. The third argument,
-- `left`, is the number of levels of nesting that are left. A line begins with limit + 1 levels. Each bracket and brace
-- around the value, and each part of its own key and of the keys around it, takes one; n parts of its own key have not
-- taken theirs yet. If no level is left for the value itself, the value is beyond the limit.
unfoldable pub value : List ℕ → ℕ → ℕ → ℕ → ℕ → Reading ValueEnd
value text limit zero n i = too_deep text i
value text limit (suc left) (suc n) i = value text limit left n i
value text limit (suc left) zero i =
    choice (slice_index text i == left_bracket)
    (nested text i (λ k. Loop (next_element text (value text limit left zero)) ([], k)))
    (choice (slice_index text i == left_brace)
    (nested text i (λ k. Loop (next_pair text limit (value text limit left)) ([], k)))
    (choice (begins_bare (slice_index text i))
    (after (bare text i) (λ (s, j). gives (Ok (parsed (scalar s) (from_to i j), j))))
    (string_value text i)))

-- ---- lines

-- `ws [ comment ]`, and then a line end or the end of the text; otherwise the fault is that a line end is missing
abbrev pub tail : List ℕ → ℕ → Reading ℕ
tail text i r =
    ((j : ℕ) × Tail text i j × (r ≡ Ok j)) ⊎ ((k : ℕ) × NoTail text i k × missing expected_tokens.Newline text k r)

-- whether the text ends at i, or a header begins there
abbrev pub ends_lines : List ℕ → ℕ → Bool
ends_lines text i = i == length text || slice_index text i == left_bracket

-- `expression =/ ws keyval ws [ comment ]`: the loop ends at a header or at the end of the text; otherwise it reads
-- another assignment, the rest of its line and the gap after that line. If the key goes through an earlier value of its
-- section, that is a fault, but a fault on the rest of the line comes first.
abbrev pub next_assignment : List ℕ → ℕ → Pairs → Reading (LoopStep Pairs Pairs)
next_assignment text limit (es, i) =
    choice (ends_lines text i) (gives (Ok (done (es, i))))
    (after (keyval text limit (MaximalRun is_blank text) (value text limit (limit + 1)) i) (λ (e, m).
    after (tail text m) (λ n. after (added es e) (λ fs.
    skipping (MaximalGap text) n (λ k. gives (Ok (on (fs, k))))))))

-- The assignments from i up to a header or the end of the text. The gaps around them may have blank lines
-- (`expression = ws [ comment ]`).
abbrev pub assignment_lines : List ℕ → ℕ → ℕ → Reading Pairs
assignment_lines text limit i = skipping (MaximalGap text) i (λ k. Loop (next_assignment text limit) ([], k))

-- ---- headers, sections and the document

-- `%x5D`, the closing bracket of a header, or the fault that it is missing
abbrev pub bracket : List ℕ → ℕ → Reading ℕ
bracket text i =
    choice (slice_index text i == right_bracket) (gives (Ok (i + 1))) (missing expected_tokens.RightBracket text i)

-- the closing brackets of a header, two if the first argument is true, otherwise one: `std-table-close = ws %x5D`,
-- `array-table-close = ws %x5D.5D`, without the white space
abbrev pub closing : Bool → List ℕ → ℕ → Reading ℕ
closing false text i = bracket text i
closing true text i = after (bracket text i) (bracket text)

-- the parts of a header, whether it has double brackets, and the end of its line
pub record HeaderEnd : Type 0 where
  pub parts : List SimpleKey
  pub array : Bool
  pub end : ℕ

-- `std-table = std-table-open key std-table-close` or `array-table = array-table-open key array-table-close`, after the
-- opening brackets, with the rest of its line
abbrev pub heading : Bool → List ℕ → ℕ → ℕ → Reading HeaderEnd
heading array text limit i =
    skipping (MaximalRun is_blank text) i (λ k. after (key true text limit [] k) (λ (ps, a).
    skipping (MaximalRun is_blank text) a (λ c. after (closing array text c) (λ m. after (tail text m) (λ j.
    gives (Ok (record { parts = ps; array = array; end = j })))))))

-- `expression =/ ws table ws [ comment ]`, where `table = std-table / array-table`, `std-table-open = %x5B ws` and
-- `array-table-open = %x5B.5B ws`. The bracket at i need not be tested, since `assignment_lines` ends only at a bracket
-- or at the end of the text.
abbrev pub header : List ℕ → ℕ → ℕ → Reading HeaderEnd
header text limit i =
    choice (slice_index text (i + 1) == left_bracket) (heading true text limit (i + 2))
    (heading false text limit (i + 1))

-- the section with this header at i and these assignments
abbrev pub headed_section : ℕ → HeaderEnd → List ParsedAssignment → ParsedSection
headed_section i h es = record {
  header = h.parts;
  array = h.array;
  header_span = from_to i h.end;
  extent = from_to i (last_end h.end es);
  assignments = es;
}

-- a header and the assignments after it
abbrev pub section : List ℕ → ℕ → ℕ → Reading (ParsedSection × ℕ)
section text limit i =
    after (header text limit i)
    (λ h. after (assignment_lines text limit h.end) (λ (es, j). gives (Ok (headed_section i h es, j))))

-- the sections read so far, and the offset after them
abbrev pub ParsedSections : Type 0
ParsedSections = List ParsedSection × ℕ

-- After these sections, the text ends or another section follows.
abbrev pub next_section : List ℕ → ℕ → ParsedSections → Reading (LoopStep ParsedSections (List ParsedSection))
next_section text limit (bs, i) =
    choice (i == length text) (gives (Ok (done bs)))
    (after (section text limit i) (λ (b, j). gives (Ok (on (bs ++ (b ∷ []), j)))))

-- The section of the assignments before the first header, as a list (see `headerless_section`), and the offset after
-- them. A byte order mark, for which the grammar has no production, may come before them.
abbrev pub before_headers : List ℕ → ℕ → Reading ParsedSections
before_headers text limit r =
    (i : ℕ) × FirstPlace text i
    × after (assignment_lines text limit i) (λ (es, j). gives (Ok (headerless_section es, j))) r

-- `toml = expression *( newline expression )`: all sections of the text, or its first fault in the order of reading
unfoldable pub document : List ℕ → ℕ → Reading (List ParsedSection)
document text limit = after (before_headers text limit) (λ read. Loop (next_section text limit) read)
