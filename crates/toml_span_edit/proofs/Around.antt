-- Texts that are the same around a span, and where a value is written.
use Rattle.toml_span_lex.proofs.Common.{arith, ap, ◌∙◌, drop-drop, take-append-drop, ◌≡◌, ◌≤◌, ℕ, ◌+◌, ◌-◌, List, [], ◌∷◌, ◌++◌, take, drop, length, map, get_or, Bor, Option, Some, slice_range, refl, sym}
use Rattle.std.proofs.lemmas.List.{take_all}
use Rattle.toml_span_lex.specs.declared.span.Span.{Span}
use Rattle.toml_span_tree.specs.Node.{Node}
use Rattle.toml_span_tree.specs.Value.{inner_of}
use Rattle.toml_span_edit.specs.Kept.{KeepsAround, held_in, named, reach, room, with_key}
use Rattle.toml_span_edit.proofs.Steps.{now_of, no_name}

three_parts : (xs : List ℕ) (i j : ℕ) → i ≤ j → xs ≡ take i xs ++ (take (j - i) (drop i xs) ++ drop j xs)
three_parts xs i j on =
    let k : i + (j - i) ≡ j = omega (arith, on) in
    let rest : drop (j - i) (drop i xs) ≡ drop j xs = drop-drop (j - i) i xs ∙ ap (λ (n : ℕ). drop n xs) k in
    sym (take-append-drop i xs) ∙ ap (λ (l : List ℕ). take i xs ++ l) (sym (take-append-drop (j - i) (drop i xs)) ∙ ap (λ (l : List ℕ). take (j - i) (drop i xs) ++ l) rest)

-- the bytes before the span are the first ones of the new text, and those after it the last ones
pub same_around : (text new : List ℕ) (s : Span) (end : ℕ) → s.start ≤ end → take s.start text ≡ take s.start new → drop s.end text ≡ drop end new →
    KeepsAround text s new
same_around text new s end on front back = (slice_range new s.start end, rw (front, back) (three_parts new s.start end on))

-- a value is written where it is in the one that the first segment names
pub room_next : (text : List ℕ) (path : List (Bor (List ℕ))) (outer held key : Option Span) (n m : Node) → 2 ≤ length path → named (get_or path 0 no_name).now (inner_of n) ≡ Some (key, m) →
    held ≡ held_in text n (with_key key (reach text m)) outer → room text (map now_of (take (length path - 1) (drop 1 path))) held m ≡ room text (map now_of path) outer n
room_next text [] outer held key n m few is e = absurd (omega arith)
room_next text (s ∷ []) outer held key n m few is e = absurd (omega arith)
room_next text (s ∷ t ∷ path) outer held key n m few is e =
    rw (is, take_all (length (s ∷ t ∷ path) - 1) (t ∷ path) (omega arith), e) refl
