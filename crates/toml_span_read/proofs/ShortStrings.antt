-- Single-line strings without escapes.
use Rattle.toml_span_lex.proofs.Common.{common_steps, ◌≡◌, ℕ, ◌+◌, ◌-◌, ◌<◌, ◌⊎◌, false, List, [], ◌∷◌, length, get_or, arith, refl, append-nil, slice_range, IsUtf8, IsCharBoundary, cow_str_bytes, IsBorrowedStr, CowStr, nat_tests}
use Rattle.toml_span_lex.specs.Bytes.{MaximalRun}
use Rattle.toml_span_lex.specs.declared.pieces.Piece.TheVariants as pieces
use Rattle.toml_span_lex.specs.Pieces.{is_plain}
use Rattle.toml_span_lex.specs.Strings.{IsContent, IsString, Borrows, BorrowsWhereSame}
use Rattle.toml_span_read.specs.code.Gaps.{Further}
use Rattle.toml_span_read.proofs.Places.{after_byte, read_within}

empty_range : (text : List ℕ) (j : ℕ) → slice_range text j j ≡ []
empty_range text j = let e : j - j ≡ 0 = omega arith in rw e refl

plain_content : (text : List ℕ) (q i j : ℕ) → i < j → MaximalRun (is_plain q) text i j → get_or text j 0 ≡ q → j < length text → IsContent q false text i (slice_range text i j) j (j + 1)
plain_content text q i j l run e w = record {
  pieces = (pieces.Plain, j) ∷ [];
  at = j;
  cut = ((l, run), refl);
  closes = (e, w, refl);
  to_is = omega arith;
  value_is = rw (empty_range text j, append-nil (slice_range text i j), append-nil (slice_range text i j)) refl;
}

quote_byte : (q : ℕ) → (q ≡ 34) ⊎ (q ≡ 39) → (0 < q) × (q < 128)
quote_byte q h = grind (arith, nat_tests, common_steps)

-- the result of reading such a string
pub short_read : {Z : Type 0} (text : List ℕ) (q i j : ℕ) (val : CowStr Z) → IsUtf8 text → q ≡ get_or text i 0 → (get_or text i 0 ≡ 34) ⊎ (get_or text i 0 ≡ 39) → i + 1 < j
    → MaximalRun (is_plain q) text (i + 1) j → get_or text j 0 ≡ q → IsBorrowedStr val → cow_str_bytes val ≡ slice_range text (i + 1) j
    → ((source : List ℕ) × IsString text i (j + 1) (record { start = i + 1; end = j }) source (cow_str_bytes val) false × Borrows text i (j + 1) (record { start = i + 1; end = j }) val × Further text i (j + 1))
    × BorrowsWhereSame text (record { start = i + 1; end = j }) val
short_read text q i j val u qe quote l run e borrowed same = grind (arith, quote_byte, read_within, plain_content, after_byte)

pub after_quote : (text : List ℕ) (i : ℕ) → IsUtf8 text → (get_or text i 0 ≡ 34) ⊎ (get_or text i 0 ≡ 39) → IsCharBoundary text (i + 1)
after_quote text i u quote = let bytes = quote_byte (get_or text i 0) quote in after_byte text i u bytes.0 bytes.1
