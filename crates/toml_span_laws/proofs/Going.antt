-- How a statement goes on.
use Rattle.toml_span_lex.proofs.Common.{◌≡◌, ℕ, suc, ◌+◌, ◌-◌, ◌<◌, Bool, true, false, ◌==◌, ◌&&◌, nat_lt, min, max, if◌then◌else◌, List, [], ◌∷◌, length, drop, arith, refl, ◌∙◌, nat_tests, common_steps, and-false}
use Rattle.toml_span_syntax.specs.declared.pieces.Kind.{Kind}
use Rattle.toml_span_syntax.specs.declared.pieces.Kind.TheVariants as kinds
use Rattle.toml_span_syntax.specs.declared.pieces.Piece.{Piece}
use Rattle.toml_span_syntax.specs.declared.heads.Head.TheVariants as heads
use Rattle.toml_span_syntax.specs.declared.heads.StatementKind.{StatementKind}
use Rattle.toml_span_syntax.specs.declared.heads.StatementKind.TheVariants as is
use Rattle.toml_span_syntax.specs.Pieces.{Covers}
use Rattle.toml_span_syntax.specs.Heads.{next, kind_from, kind_of}
use Rattle.toml_span_syntax.specs.Statements.{opens, closes, is_line_end, depth_after, last_after, closable, may_follow, starts, kept_after, end_from, frame_of, is_bracketed, indent}
use Rattle.toml_span_syntax.proofs.Lists.{known_stays}
use Rattle.toml_span_read.specs.Gaps.{MaximalGap, AfterLines}
use Rattle.toml_span_laws.proofs.Pieced.{piece, After, Each, gap_each}

-- one more than the depth that the code counts
abbrev pub top : ℕ
top = 18446744073709551615

-- With n brackets open and `last` as its last piece, a statement goes on with these pieces. It ends at the offset e, and
-- its brackets are closed later. `b` says whether it begins with a bracket.
abbrev pub On : List ℕ → ℕ → Bool → ℕ → Kind → List Piece → Type 0
On text e b n last ps =
    (n < closable ps) × (c : ℕ) × Covers text e (drop c ps) (length text)
    × ((xs : List Piece) → is_bracketed xs ≡ b → (kept at : ℕ) → end_from (frame_of xs true) n last kept at ps ≡ at + c)

count_step : (o c l : Bool) (n later : ℕ) → n < top → l ≡ false → (if o then min (n + 1) top else if c then n - 1 else n) < later → n < (if o then later - 1 else if c && nat_lt 0 later then min (later + 1) top else if l then max later 1 else later)
count_step true c l n later h e k = omega (arith, h, k)
count_step false true l n later h e k = rw e (grind (arith, nat_tests, common_steps))
count_step false false l n later h e k = rw e k

pub on_step : (text : List ℕ) (e : ℕ) (b : Bool) (n : ℕ) (last : Kind) (p : Piece) (ps : List Piece) → n < top → is_line_end p.kind ≡ false → On text e b (depth_after n p.kind) (last_after last p.kind) ps → On text e b n last (p ∷ ps)
unfolding closable end_from
on_step text e b n last p ps h l (more, c, from, goes) = (
  count_step (opens p.kind) (closes p.kind) (is_line_end p.kind) n (closable ps) h l more,
  suc c,
  from,
  λ xs x kept at. rw l (goes xs x kept (at + 1) ∙ omega arith),
)

-- the line with which these pieces begin does not end a statement whose last piece is `last`
abbrev pub Clear : Kind → List Piece → Type 0
Clear last ps = may_follow last (kind_of ps) ≡ true

pub on_line : (text : List ℕ) (e n : ℕ) (last : Kind) (i j : ℕ) (ps : List Piece) → 0 < n → Clear last ps → On text e false n last ps → On text e false n last (piece kinds.LineEnd i j ∷ ps)
unfolding closable end_from
on_line text e n last i j ps h clear (more, c, from, goes) =
    let some : (n == 0) ≡ false = grind (arith, nat_tests) in (
      omega (arith, more),
      suc c,
      from,
      λ xs x kept at. rw (some, x, clear, and-false (starts ps (indent xs))) (goes xs x (kept_after (frame_of xs true) kept kinds.LineEnd (at + 1) ps) (at + 1) ∙ omega arith),
    )

pub on_last : (text : List ℕ) (e : ℕ) (b : Bool) (last : Kind) (i : ℕ) (ps : List Piece) → Covers text e ps (length text) → On text e b 0 last (piece kinds.LineEnd i e ∷ ps)
unfolding closable end_from
on_last text e b last i ps from = (omega arith, 1, from, λ xs x kept at. refl)

pub on_end : (text : List ℕ) (b : Bool) (last : Kind) → On text (length text) b 0 last []
unfolding closable end_from
on_end text b last = (omega arith, 0, refl, λ xs x kept at. omega arith)

-- ---- the kind of what follows

-- Q holds of what the pieces are as the rest of a head, after a part of a key or before one
abbrev pub Rest : (StatementKind → Type 0) → List Piece → Type 0
Rest Q ps = Q (kind_from (heads.After 0) ps) × Q (kind_from (heads.Part 0) ps)

abbrev pub IsUnreadable : StatementKind → Type 0
IsUnreadable k = k ≡ is.Unreadable

abbrev pub Sealed : List Piece → Type 0
Sealed ps = Rest IsUnreadable ps

pub rest_blank : (Q : StatementKind → Type 0) → After (Rest Q) kinds.Blank (Rest Q)
unfolding kind_from next
rest_blank Q i j ps h = h

pub rest_comment : (Q : StatementKind → Type 0) (i j : ℕ) (ps : List Piece) → Q is.Unreadable → Rest Q (piece kinds.Comment i j ∷ ps)
unfolding kind_from next
rest_comment Q i j ps q = rw (known_stays is.Unreadable ps) (q, q)

pub rest_line : (Q : StatementKind → Type 0) (i j : ℕ) (ps : List Piece) → Q is.Unreadable → Rest Q (piece kinds.LineEnd i j ∷ ps)
unfolding kind_from next
rest_line Q i j ps q = rw (known_stays is.Unreadable ps) (q, q)

-- ---- values

-- At e, the statement ends. n brackets are open.
module _ (text : List ℕ) (e : ℕ) where
  -- after a value or a part of a key
  abbrev pub Done : Bool → ℕ → List Piece → Type 0
  Done b n ps = ((last : Kind) → On text e b n last ps) × Sealed ps

  -- after a gap, where the last piece is one of these
  abbrev pub Gap : (Kind → Type 0) → (StatementKind → Type 0) → ℕ → List Piece → Type 0
  Gap L Q n ps = ((last : Kind) → L last → On text e false n last ps × Clear last ps) × Rest Q ps

  module _ (L : Kind → Type 0) (Q : StatementKind → Type 0) (q : Q is.Unreadable) (n : ℕ) (some : 0 < n) (few : n < top) where
    gap_blank : After (Gap L Q n) kinds.Blank (Gap L Q n)
    unfolding kind_from next
    gap_blank i j ps (on, rest) = (λ last l. (on_step text e false n last (piece kinds.Blank i j) ps few refl (on last l).0, (on last l).1), rest)

    gap_comment : After (Gap L Q n) kinds.Comment (Gap L Q n)
    unfolding kind_from next
    gap_comment i j ps (on, rest) = (
      λ last l. (on_step text e false n last (piece kinds.Comment i j) ps few refl (on last l).0, rw (known_stays is.Blank ps) refl),
      rest_comment Q i j ps q,
    )

    gap_line : After (Gap L Q n) kinds.LineEnd (Gap L Q n)
    unfolding kind_from next
    gap_line i j ps (on, rest) = (
      λ last l. (on_line text e n last i j ps some (on last l).1 (on last l).0, rw (known_stays is.Blank ps) refl),
      rest_line Q i j ps q,
    )

    pub gap_on : (i j : ℕ) → MaximalGap text i j → AfterLines text j → Each text j (Gap L Q n) → Each text i (Gap L Q n)
    gap_on i j gap after f = gap_each text i j (Gap L Q n) gap_blank gap_comment gap_line gap after f
