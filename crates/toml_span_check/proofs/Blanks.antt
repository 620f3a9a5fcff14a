-- Where texts with spaces may be cut.
use Rattle.toml_span_lex.proofs.Common.{◌≡◌, ◌<◌, ◌≤◌, ◌∙◌, ℕ, ◌-◌, max, List, [], ◌∷◌, ◌++◌, length, take, drop, get_or, replicate, ap, sym, subst, refl, arith, inl, inr, cases_lt}
use Prim.Native.Nat.{suc, zero}
use Rattle.std.specs.List.{repeat, slice_get}
use Rattle.std.specs.Str.{IsCharBoundary, IsUtf8}
use Rattle.std.proofs.lemmas.Str.{IsCharBoundary-end, IsCharBoundary-start}
use Rattle.std.proofs.lemmas.List.{get_or-append_right, get_or-drop, get_or-replicate, get_or-take, get_or_append_left, length-append, length-drop, length-replicate, length-take-le}
use Rattle.toml_span_syntax.specs.Pieces.{Covers}
use Rattle.toml_span_syntax.specs.declared.pieces.Piece.{Piece}
use Rattle.toml_span_report.specs.Report.{ReportContent}
use Rattle.toml_span_check.specs.Every.{Adds, AddsError, AddsReport, Finds, HasFound, IsRead, Progress, Reads, Source, blank, clash, extent, fault, faults, none, rest, with_new, without}
use Rattle.toml_span_check.specs.declared.statements.Extent.{Extent}
use Rattle.toml_span_check.specs.Statements.{offset_of, start_or}

-- Each piece of a text begins between two characters.
cut : (text : List ℕ) (i : ℕ) (ps : List Piece) (k : ℕ) → IsCharBoundary text i → Covers text i ps (length text) → IsCharBoundary text (start_or (length text) (slice_get ps k))
cut text i [] k at covers = IsCharBoundary-end text
cut text i (p ∷ ps) zero at covers = subst (IsCharBoundary text) (sym covers.0) at
cut text i (p ∷ ps) (suc k) at covers = cut text p.end ps k covers.1.boundary covers.3

pub piece_boundary : (source : Source) (k : ℕ) → IsUtf8 source.text → IsRead source → IsCharBoundary source.text (offset_of source.text source.pieces k)
piece_boundary source k utf8 read = cut source.text 0 source.pieces k (IsCharBoundary-start source.text utf8) read.covers

-- Spaces leave the boundaries as they are.
abbrev space : ℕ
space = 32

abbrev spaces : ℕ → List ℕ
spaces n = replicate n 32

spaces_are : (n : ℕ) → repeat {A = ℕ} n (32 ∷ []) ≡ spaces n
spaces_are zero = refl
spaces_are (suc n) = ap (λ (xs : List ℕ). 32 ∷ xs) (spaces_are n)

abbrev spaced : ℕ → ℕ → List ℕ → List ℕ
spaced from to text = take from text ++ spaces (to - from) ++ drop (max to from) text

both_length : (from to : ℕ) (text : List ℕ) → from ≤ length text → length (take from text ++ spaces (to - from)) ≡ max to from
both_length from to text a =
    omega (arith, length-append (take from text) (spaces (to - from)), length-take-le from text a, length-replicate (to - from) space)

spaced_length : (from to : ℕ) (text : List ℕ) → from ≤ length text → to ≤ length text → length (spaced from to text) ≡ length text
spaced_length from to text a b =
    omega (arith, length-append (take from text ++ spaces (to - from)) (drop (max to from) text), both_length from to text a, length-drop (max to from) text)

at_first : (a b c : List ℕ) (k : ℕ) → k < length a → get_or (a ++ b ++ c) k 0 ≡ get_or a k 0
at_first a b c k below =
    let more : k < length (a ++ b) = omega (arith, length-append a b) in
    get_or_append_left (a ++ b) c 0 k more ∙ get_or_append_left a b 0 k below

at_second : (a b c : List ℕ) (n k : ℕ) → length a ≡ n → n ≤ k → k < length (a ++ b) → get_or (a ++ b ++ c) k 0 ≡ get_or b (k - n) 0
at_second a b c n k size from below = get_or_append_left (a ++ b) c 0 k below ∙ get_or-append_right a b n k 0 size from

spaced_at : (from to : ℕ) (text : List ℕ) (k : ℕ) → from ≤ length text → 128 ≤ get_or (spaced from to text) k 0 → get_or (spaced from to text) k 0 ≡ get_or text k 0
spaced_at from to text k a high =
    let front = take from text in
    let middle = spaces (to - from) in
    let last = drop (max to from) text in
    let size : length front ≡ from = length-take-le from text a in
    let both = both_length from to text a in
    elim (cases_lt k from) [
      | inl lt ↦ at_first front middle last k (omega (arith, lt, size)) ∙ get_or-take from text k 0 lt
      | inr ge ↦ elim (cases_lt k (max to from)) [
        | inl lt ↦
            let there : get_or (spaced from to text) k 0 ≡ get_or middle (k - from) 0 = at_second front middle last from k size ge (omega (arith, lt, both)) in
            let small : get_or middle (k - from) 0 ≡ space = get_or-replicate (to - from) (k - from) space 0 (omega (arith, lt, ge)) in
            absurd (omega (arith, high, there, small))
        | inr past ↦
            get_or-append_right (front ++ middle) last (max to from) k 0 both past
            ∙ (get_or-drop (max to from) text (k - max to from) 0 ∙ ap (λ (i : ℕ). get_or text i 0) (omega (arith, past)))
      ]
    ]

pub blank_boundary : (from to : ℕ) (text : List ℕ) (k : ℕ) → IsCharBoundary text from → IsCharBoundary text to → IsCharBoundary text k → IsCharBoundary (blank from to text) k
blank_boundary from to text k a b at =
    let size = spaced_length from to text a.0 b.0 in
    let spaced_boundary : IsCharBoundary (spaced from to text) k = (
      omega (arith, size, at.0),
      λ (below : k < length (spaced from to text)) (high : 128 ≤ get_or (spaced from to text) k 0).
          let same = spaced_at from to text k a.0 high in
          let low : 192 ≤ get_or text k 0 = at.1 (omega (arith, below, size)) (omega (arith, high, same)) in
          omega (arith, low, same),
    ) in
    subst (λ (xs : List ℕ). IsCharBoundary (take from text ++ xs ++ drop (max to from) text) k) (sym (spaces_are (to - from))) spaced_boundary

-- Pieces begin between two characters of each copy, too.
abbrev IsCut : Source → List ℕ → Type 0
IsCut source copy = (k : ℕ) → IsCharBoundary copy (offset_of source.text source.pieces k)

adds_cut : (source : Source) (from : ℕ) (copy : List ℕ) (p q : Progress) → AddsError source from copy p q → IsCut source p.blanked → IsCut source q.blanked
adds_cut source from copy p q adds before k =
    let e = extent source from adds.0 in
    let same : q.blanked ≡ without source e p.blanked = ap (λ (x : Progress). x.blanked) adds.2.2 in
    subst (λ (text : List ℕ). IsCharBoundary text (offset_of source.text source.pieces k)) (sym same)
    (blank_boundary (offset_of source.text source.pieces e.statement.first) (offset_of source.text source.pieces e.end) p.blanked (offset_of source.text source.pieces k)
    (before e.statement.first) (before e.end) (before k))

reads_cut : (source : Source) (p : Progress) → IsUtf8 source.text → IsRead source → Reads source p → IsCut source p.blanked
reads_cut source _ utf8 read none = λ k. piece_boundary source k utf8 read
reads_cut source _ utf8 read (fault p q found adds) = adds_cut source p.next (rest source p.next) p q adds (reads_cut source p utf8 read found)

finds_cut : (source : Source) (p : Progress) → IsUtf8 source.text → IsRead source → Finds source p → IsCut source p.blanked
finds_cut source _ utf8 read (faults p found through) = reads_cut source p utf8 read found
finds_cut source _ utf8 read (clash p q found adds) = adds_cut source 0 p.blanked p q adds (finds_cut source p utf8 read found)

found_cut : (source : Source) (p : Progress) → IsUtf8 source.text → IsRead source → HasFound source p → IsCut source p.blanked
found_cut source p utf8 read (inl found) = reads_cut source p utf8 read found
found_cut source p utf8 read (inr found) = finds_cut source p utf8 read found

-- the same of what the code computes
pub kept_at : (source : Source) (p : Progress) (copy : List ℕ) (ps : List Piece) (k at : ℕ) → IsUtf8 source.text → IsRead source → HasFound source p → copy ≡ p.blanked → ps ≡ source.pieces →
    at ≡ offset_of source.text ps k → IsCharBoundary copy at
kept_at source p copy ps k at utf8 read found same is here =
    subst (λ (text : List ℕ). IsCharBoundary text at) (sym same)
    (subst (λ (i : ℕ). IsCharBoundary p.blanked i) (sym (here ∙ ap (λ (xs : List Piece). offset_of source.text xs k) is)) (found_cut source p utf8 read found k))

pub text_at : (source : Source) (ps : List Piece) (k at : ℕ) → IsUtf8 source.text → IsRead source → ps ≡ source.pieces → at ≡ offset_of source.text ps k → IsCharBoundary source.text at
text_at source ps k at utf8 read is here =
    subst (λ (i : ℕ). IsCharBoundary source.text i) (sym (here ∙ ap (λ (xs : List Piece). offset_of source.text xs k) is)) (piece_boundary source k utf8 read)

pub text_start : (text : List ℕ) → IsUtf8 text → IsCharBoundary text 0
text_start text utf8 = IsCharBoundary-start text utf8

-- the copy with spaces in place of these statements
pub without_is : (source : Source) (e : Extent) (out copy old : List ℕ) (ps : List Piece) (from to : ℕ) → out ≡ blank from to copy → copy ≡ old → ps ≡ source.pieces →
    from ≡ offset_of source.text ps e.statement.first → to ≡ offset_of source.text ps e.end → out ≡ without source e old
without_is source e out copy old ps from to made same is first last =
    made
    ∙ (ap (λ (xs : List ℕ). blank from to xs) same
    ∙ (ap (λ (i : ℕ). blank i to old) (first ∙ ap (λ (xs : List Piece). offset_of source.text xs e.statement.first) is)
    ∙ ap (λ (i : ℕ). blank (offset_of source.text source.pieces e.statement.first) i old) (last ∙ ap (λ (xs : List Piece). offset_of source.text xs e.end) is)))

pub rest_is : (source : Source) (next : ℕ) (copy out : List ℕ) (ps : List Piece) (to : ℕ) → copy ≡ out → out ≡ blank 0 to source.text → ps ≡ source.pieces → to ≡ offset_of source.text ps next → copy ≡ rest source next
rest_is source next copy out ps to same made is last =
    same ∙ (made ∙ ap (λ (i : ℕ). blank 0 i source.text) (last ∙ ap (λ (xs : List Piece). offset_of source.text xs next) is))

-- one more error
pub adds_of : (source : Source) (e : Extent) (report : ReportContent) (place : ℕ) (old new : Progress) (blanked : List ℕ) → blanked ≡ without source e old.blanked →
    AddsReport report place (record old { next = e.next; blanked = blanked }) new → Adds source e report place old new
adds_of source e report place old new blanked same adds =
    adds
    ∙ ap (λ (b : List ℕ). record {
      places = old.places ++ place ∷ [];
      reports = with_new old.reports old.places report place;
      next = e.next;
      blanked = b;
    }) same
