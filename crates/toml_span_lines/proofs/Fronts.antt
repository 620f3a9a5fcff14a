-- One text after another, of which a part is written and the rest is buffered.
use Rattle.toml_span_lex.proofs.Common.{nat_tests, common_steps, ◌≡◌, ◌+◌, ℕ, Bool, false, List, [], ◌++◌, Option, Result, Ok, Err, IsErrAnd, length, take, drop, refl, sym, ap, subst, ◌∙◌, append_assoc, length-append, take-append-drop, arith, Appends-nil, take-append_seam, Appends}
use Rattle.toml_span_lines.specs.declared.held.Unwritten.{Unwritten}
use Rattle.toml_span_lines.specs.declared.held.Unwritten.TheVariants.{Failed, Memory}
use Rattle.toml_span_lines.specs.Held.{HoldsRest, Streams}
use Rattle.toml_span_lines.specs.Run.{HasWritten}
use Rattle.toml_span_lines.proofs.Known.{appends_more}

-- nothing is written yet
pub holds-all : (a : Option (List ℕ)) (held : List ℕ) → HoldsRest a a held held
holds-all a held = ([], Appends-nil a, refl)

-- what was written is a prefix, whatever is in the buffer
pub front-written : (a b : Option (List ℕ)) (text held : List ℕ) → HoldsRest a b text held → HasWritten a b text
front-written a b text held h =
    let front = h.0 in
    let whole : length front + length held ≡ length text = sym (length-append front held) ∙ ap length h.2 in
    let same : take (length front) text ≡ front = ap (λ t. take (length front) t) (sym h.2) ∙ take-append_seam front held in
    (length front, omega (arith, whole), subst (λ (xs : List ℕ). Appends a b xs) (sym same) h.1)

pub written-front : (a b : Option (List ℕ)) (text : List ℕ) → HasWritten a b text → (rest : List ℕ) × HoldsRest a b text rest
written-front a b text w = (drop w.0 text, (take w.0 text, w.2, take-append-drop w.0 text))

pub holds-more : (a b c : Option (List ℕ)) (done held piece kept : List ℕ) → HoldsRest a b done held → HoldsRest b c (held ++ piece) kept → HoldsRest a c (done ++ piece) kept
holds-more a b c done held piece kept h k = (
  h.0 ++ k.0,
  appends_more a b c h.0 k.0 h.1 k.1,
  append_assoc h.0 k.0 kept ∙ ap (λ l. h.0 ++ l) k.2 ∙ sym (append_assoc h.0 held piece) ∙ ap (λ l. l ++ piece) h.2,
)

-- a prefix of a text is one of a longer text
pub written-longer : (a b : Option (List ℕ)) (text rest all : List ℕ) → HasWritten a b text → text ++ rest ≡ all → HasWritten a b all
written-longer a b text rest all w is =
    let front = written-front a b text w in
    front-written a b all (front.0 ++ rest) (front.1.0, front.1.1, sym (append_assoc front.1.0 front.0 rest) ∙ ap (λ t. t ++ rest) front.1.2 ∙ is)

-- a prefix of one text after another
pub written-more : (a b c : Option (List ℕ)) (done held piece : List ℕ) → HoldsRest a b done held → HasWritten b c (held ++ piece) → HasWritten a c (done ++ piece)
written-more a b c done held piece h w =
    let front = written-front b c (held ++ piece) w in
    front-written a c (done ++ piece) front.0 (holds-more a b c done held piece front.0 h front.1)

-- a step fails after others, whose output is all written or buffered
pub fails-after : (A B : Type 0) (r : Result B Unwritten) (e : Unwritten) (a b c : Option (List ℕ)) (failed : Bool) (done held piece rest all kept left : List ℕ) →
    IsErrAnd r (λ y. y ≡ e) → HoldsRest a b done held → Streams {A = A} (Err e) b c failed (held ++ piece) kept → (done ++ piece) ++ rest ≡ all → Streams {A = B} r a c failed all left
fails-after A B r e a b c failed done held piece rest all kept left err h s is =
    grind (arith, nat_tests, common_steps, written-more a b c done held piece h, written-longer a c (done ++ piece) rest all)

-- an allocation fails between two steps
pub stops-after : {A : Type 0} (r : Result A Unwritten) (a b : Option (List ℕ)) (failed : Bool) (done held rest all left : List ℕ) →
    IsErrAnd r (λ y. y ≡ Memory) → HoldsRest a b done held → failed ≡ false → done ++ rest ≡ all → Streams r a b failed all left
stops-after r a b failed done held rest all left err h good is = grind (arith, nat_tests, common_steps, written-longer a b done rest all, front-written a b done held h)

-- a last step after others
pub goes-on : {A : Type 0} (r : Result A Unwritten) (a b c : Option (List ℕ)) (failed : Bool) (done held piece all kept : List ℕ) →
    HoldsRest a b done held → Streams r b c failed (held ++ piece) kept → done ++ piece ≡ all → Streams r a c failed all kept
goes-on (Ok v) a b c failed done held piece all kept h s is = (s.0, subst (λ (t : List ℕ). HoldsRest a c t kept) is (holds-more a b c done held piece kept h s.1))
goes-on (Err Memory) a b c failed done held piece all kept h s is = (s.0, subst (λ (t : List ℕ). HasWritten a c t) is (written-more a b c done held piece h s.1))
goes-on (Err Failed) a b c failed done held piece all kept h s is = (s.0, subst (λ (t : List ℕ). HasWritten a c t) is (written-more a b c done held piece h s.1))
