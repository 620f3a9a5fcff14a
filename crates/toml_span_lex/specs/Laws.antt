-- Laws about tokens, faults, strings, characters and keys.
use Rattle.std.specs.Prelude.{◌≡◌, ◌↔◌, ℕ, ◌<◌, ◌≤◌, ◌⊎◌, Bool, true, List, ◌∷◌, drop, length, slice_index, slice_range}
use Rattle.std.specs.Ordering.{nat_cmp}
use Rattle.std.specs.Cmp.Lexicographic.{slice_cmp}
use Rattle.std.specs.declared.cmp.Ordering.{Ordering}
use Rattle.std.specs.declared.cmp.Ordering.TheVariants as orderings
use Rattle.std.specs.Str.{IsUtf8}
use Rattle.std.specs.Cow.{cow_str_bytes}
use Rattle.toml_span_lex.specs.declared.key.Key.{Key}
use Rattle.toml_span_lex.specs.declared.span.Span.{Span}
use Rattle.toml_span_lex.specs.declared.tokens.Error.{Error}
use Rattle.toml_span_lex.specs.declared.tokens.Token.{Token}
use Rattle.toml_span_lex.specs.Text.{CharAt, KeepsLineEnd, folded}
use Rattle.toml_span_lex.specs.Strings.{IsQuote, IsContent, HasChange, NeedsMemory}
use Rattle.toml_span_lex.specs.Tokens.{Lexeme, keylike, string, lexeme, IsLexeme, IsNoToken}

-- ---- one thing at an offset

-- At most one token begins at an offset, with one end, one span and one content.
abbrev pub OneToken : Type 0
OneToken = (text : List ℕ) (i j k : ℕ) (s t : Span) (l r : Lexeme) → IsLexeme text i j s l → IsLexeme text i k t r
    → (j ≡ k) × (s ≡ t) × (l ≡ r)

-- There is at most one fault at an offset.
abbrev pub OneFault : Type 0
OneFault = (text : List ℕ) (i j k : ℕ) (e f : Error) → IsNoToken text i j e → IsNoToken text i k f → (j ≡ k) × (e ≡ f)

-- A token and a fault are never at the same offset.
abbrev pub TokenOrFault : Type 0
TokenOrFault =
    (text : List ℕ) (i j k : ℕ) (s : Span) (l : Lexeme) (e : Error) → IsLexeme text i j s l → IsNoToken text i k e → ⊥

-- A token is at least one byte long and ends inside the text. At least one byte is read to find a fault, and the bytes
-- read are inside the text. So there is neither a token nor a fault at the end of the text.
abbrev pub TokensWithin : Type 0
TokensWithin = (text : List ℕ) (i j : ℕ) (s : Span) (l : Lexeme) → IsLexeme text i j s l → (i < j) × (j ≤ length text)

abbrev pub FaultsWithin : Type 0
FaultsWithin = (text : List ℕ) (i j : ℕ) (e : Error) → IsNoToken text i j e → (i < j) × (j ≤ length text)

-- At i there is a token, a fault, or the end of the text.
abbrev pub HasTokenOrFault : List ℕ → ℕ → Type 0
HasTokenOrFault text i =
    (i ≡ length text)
    ⊎ (((j : ℕ) × (s : Span) × (l : Lexeme) × IsLexeme text i j s l) ⊎ ((j : ℕ) × (e : Error) × IsNoToken text i j e))

-- The value of a string's content, the end of the content, and the end of the string are unique.
abbrev pub OneContent : Type 0
OneContent = (q : ℕ) (m : Bool) (text v w : List ℕ) (i s t j k : ℕ) → IsQuote q → IsContent q m text i v s j
    → IsContent q m text i w t k → (v ≡ w) × (s ≡ t) × (j ≡ k)

-- ---- the folded text

-- Reading a text character by character yields the folded text.
abbrev pub FoldedText : Type 0
FoldedText =
    (text : List ℕ) (i c j : ℕ) → IsUtf8 (drop i text) → CharAt text i c j → folded text i ≡ (i, c) ∷ folded text j

-- A token that does not begin between the two bytes of a CRLF does not end between two such bytes. The text that is
-- read to find a fault never ends there.
abbrev pub TokensUnfolded : Type 0
TokensUnfolded =
    (text : List ℕ) (i j : ℕ) (s : Span) (l : Lexeme) → KeepsLineEnd text i → IsLexeme text i j s l
    → KeepsLineEnd text j

abbrev pub FaultsUnfolded : Type 0
FaultsUnfolded = (text : List ℕ) (i j : ℕ) (e : Error) → IsNoToken text i j e → KeepsLineEnd text j

-- ---- memory

-- Only a string with a carriage return, or a basic string with a backslash, can need an allocation.
abbrev pub CopiedStrings : Type 0
CopiedStrings = (text : List ℕ) (i j : ℕ) (s : Span) (l : Lexeme) → IsLexeme text i j s l → NeedsMemory text i
    → ((source : List ℕ) × (value : List ℕ) × (multi : Bool) × (l ≡ string source value multi))
    × HasChange (slice_index text i) text i j

-- ---- keys

-- Keys are equal if and only if their names are, and are ordered by the bytes of their names.
abbrev pub KeysByName : (Key → Key → Bool) → (Key → Key → Ordering) → Type 0
KeysByName eq cmp = (a b : Key) →
    ((eq a b ≡ true) ↔ (cow_str_bytes a.name ≡ cow_str_bytes b.name))
    × (cmp a b ≡ slice_cmp nat_cmp (cow_str_bytes a.name) (cow_str_bytes b.name))
    × ((cmp a b ≡ orderings.Equal) ↔ (eq a b ≡ true))

-- The name of a bare key is the text at its span.
abbrev pub BareKeys : Type 0
BareKeys = (text : List ℕ) (i j : ℕ) (span : Span) (name : List ℕ) → IsLexeme text i j span (keylike name)
    → name ≡ slice_range text span.start span.end

-- ---- tokens

-- Tokens are equal if and only if their kinds and contents are.
abbrev pub TokensByContent : (Token → Token → Bool) → Type 0
TokensByContent eq = (a b : Token) → (eq a b ≡ true) ↔ (lexeme a ≡ lexeme b)
