-- Pieces, one by one, and their tokens.
use Rattle.toml_span_lex.proofs.Common.{◌≡◌, ℕ, ◌+◌, ◌-◌, ◌<◌, ◌≤◌, zero, suc, Bool, true, false, not, ◌||◌, List, [], ◌∷◌, ◌++◌, ◌∙◌, add-one, ap, arith, cases_lt, drop, drop-cons, drop_all, filter, filter-append, get_or, get_or-drop, get_or-take, if◌then◌else◌, inl, inr, length, length-take, list_any, map, map-append, min, refl, slice_range, sym, take, take_more}
use Rattle.toml_span_syntax.specs.Pieces.{Covers}
use Rattle.toml_span_syntax.specs.declared.pieces.Kind.TheVariants as kinds
use Rattle.toml_span_syntax.specs.declared.pieces.Piece.{Piece}
use Rattle.std.specs.Str.{IsTrimAsciiEnd}
use Rattle.std.proofs.lemmas.Str.Ascii.{trim_ascii_end_is}
use Rattle.toml_span_syntax.specs.declared.heads.StatementKind.TheVariants as is
use Rattle.toml_span_syntax.specs.declared.statements.Statement.{Statement}
use Rattle.toml_span_format.specs.Entries.{State, begins_with_comment, close, entries_from, is_comment_kind, step}
use Rattle.toml_span_format.specs.Tokens.{AllSpans, is_comment, is_layout, token, tokens}

-- what a list of pieces gives past its end
abbrev pub no_piece : Piece
no_piece = record { kind = kinds.Blank; start = 0; end = 0 }

-- ---- a test of some of the pieces

pub any_next : (f : Piece → Bool) (ps : List Piece) (i end : ℕ) → i < end → i < length ps → list_any f (slice_range ps i end) ≡ (f (get_or ps i no_piece) || list_any f (slice_range ps (i + 1) end))
any_next f ps i end h w =
    let e : end - i ≡ suc (end - (i + 1)) = omega arith in
    rw (e, drop-cons ps i no_piece w, ← add-one i) refl

none : (f : Piece → Bool) (n : ℕ) → list_any f (take n []) ≡ false
none f zero = refl
none f (suc n) = refl

pub any_end : (f : Piece → Bool) (ps : List Piece) (i end : ℕ) → min end (length ps) ≤ i → list_any f (slice_range ps i end) ≡ false
any_end f ps i end h = elim (cases_lt i end) [
  | inl lt ↦ let past : length ps ≤ i = omega arith in rw (drop_all i ps past) (none f (end - i))
  | inr ge ↦ let e : end - i ≡ 0 = omega arith in rw e refl
]

-- ---- spans

pub spans_in : (text : List ℕ) (i : ℕ) (ps : List Piece) (j : ℕ) → Covers text i ps j → AllSpans text ps
spans_in text i [] j h k d l = absurd (omega (arith, l))
spans_in text i (p ∷ ps) j h zero d l = h.1
spans_in text i (p ∷ ps) j h (suc k) d l = spans_in text p.end ps j h.3 k d (omega (arith, l))

pub spans_between : (text : List ℕ) (ps : List Piece) (first end : ℕ) → AllSpans text ps → end ≤ length ps → AllSpans text (slice_range ps first end)
spans_between text ps first end h w k d l =
    let many : k < end - first = omega (arith, length-take (end - first) (drop first ps), l) in
    let here : first + k < length ps = omega arith in
    rw (get_or-take (end - first) (drop first ps) k d many, get_or-drop first ps k d) (h (first + k) d here)

-- ---- tokens

pub tokens_append : (text : List ℕ) (ps qs : List Piece) → tokens text (ps ++ qs) ≡ tokens text ps ++ tokens text qs
tokens_append text ps qs =
    ap (map (token text)) (filter-append (λ p. not (is_layout p.kind)) ps qs)
    ∙ map-append (token text) (filter (λ p. not (is_layout p.kind)) ps) (filter (λ p. not (is_layout p.kind)) qs)

pub tokens_more : (text : List ℕ) (ps : List Piece) (i : ℕ) → i < length ps → tokens text (take (i + 1) ps) ≡ tokens text (take i ps) ++ tokens text (get_or ps i no_piece ∷ [])
tokens_more text ps i h = ap (tokens text) (take_more ps i no_piece h) ∙ tokens_append text (take i ps) (get_or ps i no_piece ∷ [])

pub token_kept : (text : List ℕ) (p : Piece) (t : List ℕ) → is_layout p.kind ≡ false → IsTrimAsciiEnd (slice_range text p.start p.end) t → tokens text (p ∷ []) ≡ t ∷ []
token_kept text p t kept trim = rw kept (ap (λ u. u ∷ []) (sym (trim_ascii_end_is (slice_range text p.start p.end) t trim)))

pub token_dropped : (text : List ℕ) (p : Piece) → is_layout p.kind ≡ true → tokens text (p ∷ []) ≡ []
token_dropped text p dropped = rw dropped refl

pub comments_more : {X : Type 0} (f : X → List ℕ) (ts : List X) (i : ℕ) (d : X) → i < length ts → filter is_comment (map f (take (i + 1) ts)) ≡ filter is_comment (map f (take i ts)) ++ filter is_comment (f (get_or ts i d) ∷ [])
comments_more f ts i d h = ap (λ l. filter is_comment (map f l)) (take_more ts i d h) ∙ ap (filter is_comment) (map-append f (take i ts) (get_or ts i d ∷ [])) ∙ filter-append is_comment (map f (take i ts)) (f (get_or ts i d) ∷ [])

-- ---- entries

pub begins_next : (ps : List Piece) (i : ℕ) → i < length ps → begins_with_comment (drop i ps) ≡ (if is_layout (get_or ps i no_piece).kind then begins_with_comment (drop (i + 1) ps) else is_comment_kind (get_or ps i no_piece).kind)
begins_next ps i h = rw (drop-cons ps i no_piece h, add-one i) refl

-- what a list of statements gives past its end
abbrev pub no_statement : Statement
no_statement = record { kind = is.Blank; first = 0; end = 0 }

pub entries_next : (text : List ℕ) (ps : List Piece) (s : State) (ss : List Statement) (i : ℕ) → i < length ss → entries_from text ps s (drop i ss) ≡ entries_from text ps (step text ps s (get_or ss i no_statement)) (drop (i + 1) ss)
unfolding entries_from
entries_next text ps s ss i h = rw (drop-cons ss i no_statement h, add-one i) refl

pub entries_end : (text : List ℕ) (ps : List Piece) (s : State) (ss : List Statement) (i : ℕ) → length ss ≤ i → entries_from text ps s (drop i ss) ≡ (close ps s (length ps)).entries
unfolding entries_from
entries_end text ps s ss i h = rw (drop_all i ss h) refl
