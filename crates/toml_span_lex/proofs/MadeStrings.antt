-- Strings as they are made.
use Rattle.toml_span_lex.proofs.Common.{common_steps, ◌≡◌, ℕ, ◌+◌, ◌-◌, ◌<◌, ◌≤◌, ◌⊎◌, Bool, true, false, Ok, Err, List, [], ◌++◌, length, get_or, arith, refl, slice_range, nat_tests, cow_str_bytes, IsBorrowedStr, IsOwnedStr, CowStr}
use Rattle.toml_span_lex.specs.declared.stop.Stop.{Stop}
use Rattle.toml_span_lex.specs.declared.tokens.Error.{Error}
use Rattle.toml_span_lex.specs.declared.span.Span.{Span}
use Rattle.toml_span_lex.specs.declared.pieces.Piece.{Piece}
use Rattle.toml_span_lex.specs.declared.tokens.Token.{Token}
use Rattle.toml_span_lex.specs.Strings.{opens_multi, ContentFrom, IsContent, Cut, content, content_end, content_span, IsString, Borrows, BorrowsWhereSame, HasChange}
use Rattle.toml_span_lex.specs.code.Strings.{ContentGives, EndsWell}
use Rattle.toml_span_lex.specs.Pieces.{IsClose}
use Rattle.toml_span_lex.specs.code.Strings.{StringGives, StringEnds}
use Rattle.toml_span_lex.specs.Tokens.{lexeme, IsLexeme}

pub third_quote : (text : List ℕ) (i : ℕ) → opens_multi text i ≡ true → get_or text (i + 2) 0 ≡ get_or text i 0
third_quote text i h = grind (arith, nat_tests)

pub no_string : (Z : Type 0) (text : List ℕ) (i from q : ℕ) (m : Bool) (stop : Stop (Error × ℕ)) → q ≡ get_or text i 0 → m ≡ opens_multi text i → (get_or text i 0 ≡ 34) ⊎ (get_or text i 0 ≡ 39) → ContentFrom m text i from
    → ContentGives {Z = Z} q m i text from (Err stop) → StringGives text i (Err stop)
no_string Z text i from q m stop qe me h b g = grind (arith, nat_tests, common_steps)

empty_range : (text : List ℕ) (a b : ℕ) → b ≤ a → slice_range text a b ≡ []
empty_range text a b h = let e : b - a ≡ 0 = omega arith in rw e refl

one_line : (text : List ℕ) (q i from at to j : ℕ) (m : Bool) → m ≡ false → ContentFrom m text i from → IsClose q m text at j → to ≡ content_end m j → from ≡ to → j ≡ i + 2
one_line text q i from at to j m e b c t f = grind (arith, nat_tests, common_steps)

-- the content of an empty string on one line, or of no other
pub content_from_after : (m : Bool) (text : List ℕ) (i from : ℕ) → ContentFrom m text i from → i < from
content_from_after m text i from e = grind (arith, nat_tests, common_steps)

pub borrows_same : {Z : Type 0} (text : List ℕ) (q i from at to j : ℕ) (m : Bool) (val : CowStr Z) → ContentFrom m text i from → IsClose q m text at j → to ≡ content_end m j
    → IsBorrowedStr val → cow_str_bytes val ≡ slice_range text from to → Borrows text i j (content_span m i from to) val
borrows_same text q i from at to j m val begins closes t b e = grind (arith, nat_tests, common_steps)

pub borrows_own : {Z : Type 0} (text : List ℕ) (i from to j : ℕ) (m : Bool) (v : List ℕ) (val : CowStr Z) → ContentFrom m text i from → to < j → IsOwnedStr val → cow_str_bytes val ≡ v → length v + from < to → to ≤ length text
    → Borrows text i j (content_span m i from to) val
borrows_own text i from to j m v val begins on b e l w = grind (arith, nat_tests, common_steps)

-- ---- the same by the span alone

pub where_same : {Z : Type 0} (text : List ℕ) (i from to : ℕ) (m : Bool) (val : CowStr Z) → (get_or text i 0 ≡ 34) ⊎ (get_or text i 0 ≡ 39)
    → IsBorrowedStr val → cow_str_bytes val ≡ slice_range text from to → BorrowsWhereSame text (content_span m i from to) val
where_same text i from to m val quote b e = grind (arith, nat_tests, common_steps)

-- a byte that differs from its value is not a quote
no_quote : (text : List ℕ) (q from k : ℕ) → k ≡ from → ((q ≡ 34) × (get_or text k 0 ≡ 92)) ⊎ (get_or text k 0 ≡ 13) → (get_or text from 0 ≡ 34) ⊎ (get_or text from 0 ≡ 39) → ⊥
no_quote text q from k e c h = grind arith

pub where_changed : {Z : Type 0} (text : List ℕ) (q i from to : ℕ) (m : Bool) (v : List ℕ) (val : CowStr Z) → IsOwnedStr val → cow_str_bytes val ≡ v → length v + from < to → to ≤ length text
    → HasChange q text from to → BorrowsWhereSame text (content_span m i from to) val
where_changed text q i from to m v val own b l w change = grind (arith, nat_tests, common_steps)

pub is_string : (text : List ℕ) (q i from to j : ℕ) (m : Bool) (span : Span) (src v w : List ℕ) → q ≡ get_or text i 0 → m ≡ opens_multi text i → (get_or text i 0 ≡ 34) ⊎ (get_or text i 0 ≡ 39) → ContentFrom m text i from
    → IsContent q m text from v to j → w ≡ v → src ≡ slice_range text i j → span ≡ content_span m i from to → IsString text i j span src w m
is_string text q i from to j m span src v w qe me h b is e s p = grind (arith, nat_tests, common_steps)

pub no_ends : (Z : Type 0) (text : List ℕ) (from : ℕ) (stop : Stop (Error × ℕ)) → EndsWell {Z = Z} text from (Err stop) → StringEnds text (Err stop)
no_ends Z text from stop h = grind (arith, nat_tests, common_steps)

-- a string that was walked over
pub scanned : (text : List ℕ) (q i from at j : ℕ) (m : Bool) (ps : List (Piece × ℕ)) → q ≡ get_or text i 0 → m ≡ opens_multi text i → (get_or text i 0 ≡ 34) ⊎ (get_or text i 0 ≡ 39) → ContentFrom m text i from
    → Cut q m text from ps at → IsClose q m text at j → (span : Span) × (source : List ℕ) × (value : List ℕ) × IsString text i j span source value (opens_multi text i)
scanned text q i from at j m ps qe me h b cut closes =
    let to = content_end m j in
    let v = content text from ps ++ slice_range text at to in
    let is : IsContent q m text from v to j = record { pieces = ps; at = at; cut = cut; closes = closes; to_is = refl; value_is = refl } in
    (content_span m i from to, slice_range text i j, v, rw (← me) (is_string text q i from to j m _ _ v v qe me h b is refl refl refl))

-- a string that was read is in the text
pub string_stands : (text : List ℕ) (i j : ℕ) (span : Span) (token : Token) → StringGives text i (Ok (span, token, j)) → IsLexeme text i j span (lexeme token)
string_stands text i j span token h = grind (arith, nat_tests, common_steps)
