-- The pieces of what the grammar names.
use Rattle.toml_span_lex.proofs.Common.{◌≡◌, ℕ, ◌+◌, ◌<◌, true, List, [], ◌∷◌, length, get_or, slice_range, arith, inl, inr, refl, sym, ap, subst, ◌∙◌, cases_lt}
use Rattle.toml_span_lex.specs.Bytes.{is_blank, is_keylike, is_printed, MaximalRun}
use Rattle.toml_span_lex.specs.Text.{LineEnd}
use Rattle.toml_span_lex.specs.Tokens.{Lexeme, whitespace, newline, comment, punctuator, keylike, is_punctuator, IsLexeme}
use Rattle.toml_span_lex.specs.declared.span.Span.{Span}
use Rattle.toml_span_lex.proofs.NoFault.{token_or_fault}
use Rattle.toml_span_lex.proofs.OneToken.{token_unique}
use Rattle.toml_span_lex.proofs.Runs.{run_forward}
use Rattle.toml_span_lex.proofs.Within.{token_within}
use Rattle.toml_span_read.specs.Gaps.{Skipped, BlankLines, MaximalGap, AfterLines}
use Rattle.toml_span_read.proofs.NumberLemmas.{here}
use Rattle.toml_span_syntax.specs.declared.pieces.Kind.{Kind}
use Rattle.toml_span_syntax.specs.declared.pieces.Kind.TheVariants as kinds
use Rattle.toml_span_syntax.specs.declared.pieces.Piece.{Piece}
use Rattle.toml_span_syntax.specs.Pieces.{Covers, kind_of}
use Rattle.toml_span_syntax.proofs.JoinLemmas.{covers_on}
use Rattle.toml_span_laws.proofs.BlankLaws.{gap_lines}

abbrev pub piece : Kind → ℕ → ℕ → Piece
piece kind i j = record { kind = kind; start = i; end = j }

piece_is : (k l : Kind) (a b c d : ℕ) → k ≡ l → a ≡ b → c ≡ d → piece k a c ≡ piece l b d
piece_is k l a b c d e f g = rw (e, f, g) refl

-- whether P holds of the pieces of the text from i on
abbrev pub Each : List ℕ → ℕ → (List Piece → Type 0) → Type 0
Each text i P = (ps : List Piece) → Covers text i ps (length text) → P ps

-- ---- tokens

-- P holds of the pieces after one of this kind, if it holds of the others
abbrev pub After : (List Piece → Type 0) → Kind → (List Piece → Type 0) → Type 0
After P kind Q = (i j : ℕ) (ps : List Piece) → P ps → Q (piece kind i j ∷ ps)

pub token_each : (text : List ℕ) (i j : ℕ) (s : Span) (l : Lexeme) (P : List Piece → Type 0) → IsLexeme text i j s l → Each text j (λ qs. P (piece (kind_of l) i j ∷ qs)) → Each text i P
token_each text i j s l P t f [] h = absurd (omega (arith, h, token_within text i j s l t))
token_each text i j s l P t f (p ∷ qs) (e, within, inl (r, m, is, kind), rest) =
    let there : IsLexeme text i p.end r m = rw e at is in
    let u = token_unique text i p.end j r s m l there t in
    let same = piece_is p.kind (kind_of l) p.start i p.end j (kind ∙ ap kind_of u.2) e u.0 in
    subst (λ q. P (q ∷ qs)) (sym same) (f qs (rw u.0 at rest))
token_each text i j s l P t f (p ∷ qs) (e, within, inr (k, fault, is, same), rest) =
    absurd (token_or_fault text i j k s l fault t (rw e at is))

pub end_each : (text : List ℕ) (P : List Piece → Type 0) → P [] → Each text (length text) P
end_each text P h [] e = h
end_each text P h (p ∷ qs) e = absurd (omega (arith, e.0, e.1.forward, covers_on text p.end qs (length text) e.3))

pub mark_each : (text : List ℕ) (c i : ℕ) (P : List Piece → Type 0) → get_or text i 0 ≡ c → is_punctuator c ≡ true → Each text (i + 1) (λ qs. P (piece (kinds.Mark c) i (i + 1) ∷ qs)) → Each text i P
mark_each text c i P h m f = token_each text i (i + 1) (record { start = i; end = i + 1 }) (punctuator c) P ((m, h, refl), refl) f

pub bare_each : (text : List ℕ) (i j : ℕ) (P : List Piece → Type 0) → i < j → MaximalRun is_keylike text i j → Each text j (λ qs. P (piece kinds.Bare i j ∷ qs)) → Each text i P
bare_each text i j P l r f = token_each text i j (record { start = i; end = j }) (keylike (slice_range text i j)) P ((l, r, refl), refl) f

pub line_each : (text : List ℕ) (i j : ℕ) (P : List Piece → Type 0) → LineEnd text i j → Each text j (λ qs. P (piece kinds.LineEnd i j ∷ qs)) → Each text i P
line_each text i j P h f = token_each text i j (record { start = i; end = j }) newline P (h, refl) f

-- ---- blanks, comments and gaps

pub blanks_each : (text : List ℕ) (i j : ℕ) (P : List Piece → Type 0) → After P kinds.Blank P → MaximalRun is_blank text i j → Each text j P → Each text i P
blanks_each text i j P b r f = elim (cases_lt i j) [
  | inl some ↦ token_each text i j (record { start = i; end = j }) (whitespace (slice_range text i j)) P ((some, r, refl), refl) (λ qs h. b i j qs (f qs h))
  | inr none ↦ let e : j ≡ i = omega (arith, r.forward) in subst (λ k. Each text k P) e f
]

pub skipped_each : (text : List ℕ) (i j : ℕ) (P : List Piece → Type 0) → After P kinds.Blank P → After P kinds.Comment P → Skipped text i j → Each text j P → Each text i P
skipped_each text i j P b c s f = blanks_each text i s.at P b s.blank (elim s.comment [
  | inl (h, r) ↦
      let printed : is_printed (get_or text s.at 0) ≡ true = rw h refl in
      let l = run_forward is_printed text s.at j (here is_printed text s.at refl printed) printed r in
      token_each text s.at j (record { start = s.at; end = j }) (comment (slice_range text s.at j)) P ((h, (l, r, refl)), refl) (λ qs g. c s.at j qs (f qs g))
  | inr (h, e) ↦ subst (λ k. Each text k P) e f
])

pub lines_each : (text : List ℕ) (ks : List ℕ) (i j : ℕ) (P : List Piece → Type 0) → After P kinds.Blank P → After P kinds.Comment P → After P kinds.LineEnd P → BlankLines text i ks j → Each text j P → Each text i P
lines_each text [] i j P b c l e f = subst (λ k. Each text k P) (sym e) f
lines_each text (k ∷ ks) i j P b c l ((m, s, end), rest) f =
    let next = lines_each text ks k j P b c l rest f in
    skipped_each text i m P b c s (elim end [
      | inl h ↦ line_each text m k P h (λ qs g. l m k qs (next qs g))
      | inr (past, e) ↦ subst (λ n. Each text n P) e next
    ])

pub gap_each : (text : List ℕ) (i j : ℕ) (P : List Piece → Type 0) → After P kinds.Blank P → After P kinds.Comment P → After P kinds.LineEnd P → MaximalGap text i j → AfterLines text j → Each text j P → Each text i P
gap_each text i j P b c l g a f =
    let (ks, k, lines, run) = gap_lines text i j g a in
    lines_each text ks i k P b c l lines (blanks_each text k j P b run f)
