-- The statements of a text, and what can be read of it.
use Rattle.toml_span_lex.proofs.Common.{◌≡◌, ◌==◌, ◌∙◌, ◌<◌, ◌≤◌, ℕ, ◌+◌, Bool, List, [], ◌∷◌, ◌++◌, IsUtf8, None, Option, Some, inl, length, take, drop, map, get_or, set, slice_get, add-one, ap, arith, refl, sym, subst, take_all, take_more}
use Prim.Native.Nat.{suc, zero}
use Rattle.std.specs.List.{All, AllZip}
use Rattle.std.specs.Str.{IsCharBoundary}
use Rattle.std.proofs.lemmas.List.Elements.{All-map, All-nil, All-push, All-same}
use Rattle.std.proofs.lemmas.Str.{IsCharBoundary-end, IsCharBoundary-start}
use Rattle.toml_span_lex.specs.declared.span.Span.{Span}
use Rattle.toml_span_check.specs.Statements.{start_or}
use Rattle.toml_span_syntax.specs.Pieces.{Covers}
use Rattle.toml_span_syntax.specs.Statements.{Splits}
use Rattle.toml_span_syntax.specs.declared.pieces.Piece.{Piece}
use Rattle.toml_span_syntax.specs.declared.statements.Statement.{Statement}
use Rattle.toml_span_editor.specs.Documents.{AreCut, AreParts, HasErrorAt, IsCut, IsPart, IsReadable, Leaves, clash, joined, left_out, most}
use Rattle.toml_span_editor.specs.declared.document.Part.{Part}

-- Each piece of a text begins between two characters.
cut : (text : List ℕ) (i : ℕ) (ps : List Piece) (k : ℕ) → IsCharBoundary text i → Covers text i ps (length text) → IsCharBoundary text (start_or (length text) (slice_get ps k))
cut text i [] k at covers = IsCharBoundary-end text
cut text i (p ∷ ps) zero at covers = subst (IsCharBoundary text) (sym covers.0) at
cut text i (p ∷ ps) (suc k) at covers = cut text p.end ps k covers.1.boundary covers.3

pub are_cut : (text : List ℕ) (ps slice : List Piece) → IsUtf8 text → Covers text 0 ps (length text) → slice ≡ ps → AreCut text slice
are_cut text ps slice utf8 covers same = subst (AreCut text) (sym same) (λ k. cut text 0 ps k (IsCharBoundary-start text utf8) covers)

pub is_cut : (text : List ℕ) (ps : List Piece) (s : Statement) (part : Part) → AreCut text ps → IsPart text ps s part → IsCut text part
is_cut text ps s part cuts is =
    (subst (λ (span : Span). IsCharBoundary text span.start) (sym is.span) (cuts s.first), subst (λ (span : Span). IsCharBoundary text span.end) (sym is.span) (cuts s.end))

-- ---- one more statement

zip_push : (text : List ℕ) (ps : List Piece) (ss : List Statement) (parts : List Part) (s : Statement) (part : Part) →
    AllZip (IsPart text ps) ss parts → IsPart text ps s part → AllZip (IsPart text ps) (ss ++ s ∷ []) (parts ++ part ∷ [])
zip_push text ps [] [] s part zip is = (is, tt)
zip_push text ps [] (p ∷ parts) s part zip is = absurd zip
zip_push text ps (t ∷ ss) [] s part zip is = absurd zip
zip_push text ps (t ∷ ss) (p ∷ parts) s part zip is = (zip.0, zip_push text ps ss parts s part zip.1 is)

pub zip_more : (text : List ℕ) (ps slice : List Piece) (ss : List Statement) (old new : List Part) (i : ℕ) (d : Statement) (part : Part) →
    i < length ss → new ≡ old ++ part ∷ [] → slice ≡ ps → AllZip (IsPart text ps) (take i ss) old → IsPart text slice (get_or ss i d) part → AllZip (IsPart text ps) (take (i + 1) ss) new
zip_more text ps slice ss old new i d part within is same zip one =
    subst (λ (xs : List Statement). AllZip (IsPart text ps) xs new) (sym (take_more ss i d within))
    (subst (λ (xs : List Part). AllZip (IsPart text ps) (take i ss ++ get_or ss i d ∷ []) xs) (sym is)
    (zip_push text ps (take i ss) old (get_or ss i d) part zip (subst (λ (xs : List Piece). IsPart text xs (get_or ss i d) part) same one)))

pub zip_none : (text : List ℕ) (ps : List Piece) (new : List Part) → new ≡ [] → AllZip (IsPart text ps) [] new
zip_none text ps new is = subst (AllZip (IsPart text ps) []) (sym is) tt

pub cuts_none : (text : List ℕ) (new : List Part) → new ≡ [] → All (IsCut text) new
cuts_none text new is = All-same (IsCut text) new [] is (All-nil (IsCut text))

pub cuts_more : (text : List ℕ) (old new : List Part) (part : Part) → new ≡ old ++ part ∷ [] → All (IsCut text) old → IsCut text part → All (IsCut text) new
cuts_more text old new part is cuts one = subst (All (IsCut text)) (sym is) (All-push (IsCut text) old part cuts one)

pub parts_all : (text : List ℕ) (ps slice : List Piece) (ss : List Statement) (parts : List Part) (n : ℕ) →
    Covers text 0 ps (length text) → slice ≡ ps → Splits slice 0 ss (length slice) → length ss ≤ n → AllZip (IsPart text ps) (take n ss) parts → AreParts text parts
parts_all text ps slice ss parts n covers same splits all zip =
    (ps, ss, covers, subst (λ (xs : List Piece). Splits xs 0 ss (length xs)) same splits, subst (λ (xs : List Statement). AllZip (IsPart text ps) xs parts) (take_all n ss all) zip)

-- ---- statements are left out

set_mapped : (f : Part → Part) (old : List Part) (i : ℕ) (d : Part) → i < length old →
    set (map f (take i old) ++ drop i old) i (f (get_or old i d)) ≡ map f (take (suc i) old) ++ drop (suc i) old
set_mapped f [] i d within = absurd (omega arith)
set_mapped f (x ∷ xs) zero d within = refl
set_mapped f (x ∷ xs) (suc i) d within = ap (λ (l : List Part). f x ∷ l) (set_mapped f xs i d (omega arith))

after_mapped : (f : Part → Part) (old : List Part) (i : ℕ) (d : Part) → get_or (map f (take i old) ++ drop i old) i d ≡ get_or old i d
after_mapped f [] zero d = refl
after_mapped f [] (suc i) d = refl
after_mapped f (x ∷ xs) zero d = refl
after_mapped f (x ∷ xs) (suc i) d = after_mapped f xs i d

pub set_one : (f : Part → Part) (old items : List Part) (i : ℕ) (x y : Part) → i < length old →
    items ≡ map f (take i old) ++ drop i old → x ≡ get_or items i x → y ≡ f x → set items i y ≡ map f (take (i + 1) old) ++ drop (i + 1) old
set_one f old items i x y within is here new =
    let at : x ≡ get_or old i x = here ∙ ap (λ (l : List Part). get_or l i x) is ∙ after_mapped f old i x in
    ap (λ (l : List Part). set l i y) is
    ∙ ap (λ (z : Part). set (map f (take i old) ++ drop i old) i z) (new ∙ ap f at)
    ∙ set_mapped f old i x within
    ∙ ap (λ (n : ℕ). map f (take n old) ++ drop n old) (sym (add-one i))

pub leaves_more : (text : List ℕ) (n at : ℕ) (kept : List ℕ) (old new : List Part) (rest : Bool) →
    Leaves text n old → kept ≡ joined text old → HasErrorAt kept (Some at) → rest ≡ (n + 1 == most (length text)) → new ≡ map (left_out at rest) old → Leaves text (n + 1) new
leaves_more text n at kept old new rest leaves is error last made =
    subst (Leaves text (n + 1)) (sym (made ∙ ap (λ (b : Bool). map (left_out at b) old) last))
    (clash n at old leaves (subst (λ (t : List ℕ). HasErrorAt t (Some at)) is error))

-- nothing that is kept has an error
pub readable_all : (text : List ℕ) (n : ℕ) (parts : List Part) (kept one : List ℕ) (place : Option ℕ) →
    Leaves text n parts → kept ≡ joined text parts → one ≡ kept → HasErrorAt one place → place ≡ None → IsReadable text parts kept
readable_all text n parts kept one place leaves is same error none =
    (n, leaves, is, inl (subst (λ (t : List ℕ). HasErrorAt t None) same (subst (HasErrorAt one) none error)))

pub cuts_left_out : (text : List ℕ) (old new : List Part) (at : ℕ) (is_rest : Bool) → new ≡ map (left_out at is_rest) old → All (IsCut text) old → All (IsCut text) new
cuts_left_out text old new at is_rest is cuts = subst (All (IsCut text)) (sym is) (All-map (IsCut text) (left_out at is_rest) old cuts)
