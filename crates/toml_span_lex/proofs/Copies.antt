-- How long a value is, and which strings need a text of their own.
use Rattle.toml_span_lex.proofs.Common.{◌≡◌, ℕ, ◌+◌, ◌-◌, ◌<◌, ◌≤◌, ◌⊎◌, Bool, Some, None, Ok, List, [], ◌∷◌, length, get_or, drop, arith, sym, ◌∙◌, refl, ap, length-append, length-take, slice_range}
use Rattle.toml_span_lex.specs.declared.pieces.Piece.{Piece}
use Rattle.toml_span_lex.specs.declared.pieces.Piece.TheVariants as pieces
use Rattle.toml_span_lex.specs.declared.span.Span.{Span}
use Rattle.toml_span_lex.specs.Pieces.{IsPiece, piece_value, IsClose}
use Rattle.toml_span_lex.specs.Strings.{Cut, content, HasChange, IsContent, IsString, NeedsMemory}
use Rattle.toml_span_lex.specs.Tokens.{Lexeme, string, IsLexeme}
use Rattle.toml_span_lex.proofs.MadeStrings.{content_from_after}
use Rattle.toml_span_lex.proofs.OneToken.{token_tag, same_token_tag}
use Rattle.toml_span_lex.proofs.OneFault.{piece_one, ends}
use Rattle.toml_span_lex.proofs.NoFault.{quote_token}
use Rattle.toml_span_lex.proofs.PieceLemmas.{escape_shorter, dropped_shorter, line_forward, Cut-forward, HasChange-more, closing}
use Rattle.toml_span_lex.proofs.Unique.{from_unique}
use Rattle.toml_span_lex.proofs.One.{ok_same}

-- ---- the length of a value

piece_fits : (q : ℕ) (m : Bool) (text : List ℕ) (i j : ℕ) (p : Piece) → IsPiece q m text i j p → length (piece_value text i j p) + i ≤ j
piece_fits q m text i j pieces.Plain h = omega (arith, h.0, length-take (j - i) (drop i text))
piece_fits q m text i j pieces.Quotes h = omega (arith, h.1, length-take (j - i) (drop i text))
piece_fits q m text i j pieces.LineEnd h = let f = line_forward text i j h.1 in omega arith
piece_fits q m text i j (pieces.Escape c) h = let l = escape_shorter text i c j h.2 in omega arith
piece_fits q m text i j pieces.Dropped h = let l = dropped_shorter text i j h.3 in omega arith

cut_fits : (q : ℕ) (m : Bool) (text : List ℕ) (i j : ℕ) (ps : List (Piece × ℕ)) → Cut q m text i ps j → length (content text i ps) + i ≤ j
cut_fits q m text i j [] e = omega arith
cut_fits q m text i j (p ∷ ps) c =
    omega (arith, length-append (piece_value text i p.1 p.0) (content text p.1 ps), piece_fits q m text i p.1 p.0 c.0, cut_fits q m text p.1 j ps c.1)

pub content_fits : (q : ℕ) (m : Bool) (text v : List ℕ) (from to end : ℕ) → IsContent q m text from v to end → (length v + from ≤ to) × (to < end) × (end ≤ length text)
content_fits q m text v from to end h =
    let c = closing q m text h.at end h.closes in
    let on : h.at ≤ to = omega (arith, c.on, h.to_is) in (
      omega (arith, ap length h.value_is, length-append (content text from h.pieces) (slice_range text h.at to), cut_fits q m text from h.at h.pieces h.cut, length-take (to - h.at) (drop h.at text)),
      omega (arith, c.some, h.to_is),
      c.within,
    )

-- ---- copies

-- whatever the content is cut into, it is no longer than the whole content
cut_within : (q : ℕ) (m : Bool) (text : List ℕ) (i a b x : ℕ) (ps rs : List (Piece × ℕ)) → (q ≡ 34) ⊎ (q ≡ 39) → Cut q m text i ps a → IsClose q m text a x → Cut q m text i rs b → b ≤ a
cut_within q m text i a b x ps [] u c f d = let l = Cut-forward q m text i a ps c in omega arith
cut_within q m text i a b x [] ((p, j) ∷ rs) u c f d = absurd (ends p j (Ok (None, x)) tt (piece_one q m 0 text i u (Ok (None, x)) (Ok (Some p, j)) (rw (sym c) at f) d.0))
cut_within q m text i a b x ((p, j) ∷ ps) ((r, k) ∷ rs) u c f d =
    let next : j ≡ k = ap (λ y. y.1) (ok_same (piece_one q m 0 text i u (Ok (Some p, j)) (Ok (Some r, k)) c.0 d.0)) in
    cut_within q m text j a b x ps rs u c.1 f (rw (sym next) at d.1)

string_change : (text : List ℕ) (i j : ℕ) (s : Span) (src v : List ℕ) (m : Bool) → IsString text i j s src v m → NeedsMemory text i → HasChange (get_or text i 0) text i j
string_change text i j s src v m h n =
    let begins = rw (sym h.form) at n.begins in
    let from : h.from ≡ n.from = from_unique m text i h.from n.from h.begins begins in
    let copy = rw (sym h.form, sym from) at n.copy in
    let c = h.content_is in
    let close = closing (get_or text i 0) m text c.at j c.closes in
    let in_time = cut_within (get_or text i 0) m text h.from c.at copy.at j c.pieces copy.pieces h.quote c.cut c.closes copy.cut in
    let change = HasChange-more (get_or text i 0) text h.from copy.at j (omega (arith, close.on, close.some)) copy.change in
    (change.0, omega (arith, change.1, content_from_after m text i h.from h.begins), change.2, change.3)

-- a token whose reading may want memory
abbrev pub IsCopied : List ℕ → ℕ → ℕ → Lexeme → Type 0
IsCopied text i j l = ((source : List ℕ) × (value : List ℕ) × (multi : Bool) × (l ≡ string source value multi)) × HasChange (get_or text i 0) text i j

by_tag : (text : List ℕ) (i j : ℕ) (s : Span) (l : Lexeme) → token_tag l ≡ 5 → IsLexeme text i j s l → NeedsMemory text i → IsCopied text i j l
unfolding token_tag
by_tag text i j s (string src v m) e h n = ((src, v, m, refl), string_change text i j s src v m h n)
by_tag text i j s l e h n = absurd (omega arith)

pub copied : (text : List ℕ) (i j : ℕ) (s : Span) (l : Lexeme) → IsLexeme text i j s l → NeedsMemory text i → IsCopied text i j l
copied text i j s l h n = by_tag text i j s l (same_token_tag text i j s l h ∙ quote_token (get_or text i 0) n.quote) h n
