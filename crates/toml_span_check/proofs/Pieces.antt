-- Texts that grow piece by piece.
use Rattle.toml_span_lex.proofs.Common.{◌≡◌, ℕ, List, ◌++◌, append_assoc}

pub three : (old a b c s t u : List ℕ) → s ≡ old ++ a → t ≡ s ++ b → u ≡ t ++ c → u ≡ old ++ (a ++ b ++ c)
three old a b c s t u first second last = rw (last, second, first) (simp append_assoc)

pub five : (old a b c d e s t u v w : List ℕ) → s ≡ old ++ a → t ≡ s ++ b → u ≡ t ++ c → v ≡ u ++ d → w ≡ v ++ e → w ≡ old ++ (a ++ b ++ c ++ d ++ e)
five old a b c d e s t u v w first second third fourth last = rw (last, fourth, third, second, first) (simp append_assoc)

pub six : (old a b c d e f s t u v w x : List ℕ) → s ≡ old ++ a → t ≡ s ++ b → u ≡ t ++ c → v ≡ u ++ d → w ≡ v ++ e → x ≡ w ++ f →
    x ≡ old ++ (a ++ b ++ c ++ d ++ e ++ f)
six old a b c d e f s t u v w x first second third fourth fifth last = rw (last, fifth, fourth, third, second, first) (simp append_assoc)

pub seven : (old a b c d e f g s t u v w x y : List ℕ) → s ≡ old ++ a → t ≡ s ++ b → u ≡ t ++ c → v ≡ u ++ d → w ≡ v ++ e → x ≡ w ++ f → y ≡ x ++ g →
    y ≡ old ++ (a ++ b ++ c ++ d ++ e ++ f ++ g)
seven old a b c d e f g s t u v w x y first second third fourth fifth sixth last = rw (last, sixth, fifth, fourth, third, second, first) (simp append_assoc)

-- with a title before each of four
pub four-titled : (old a b c d e f g h s t u v : List ℕ) → s ≡ (old ++ a) ++ b → t ≡ (s ++ c) ++ d → u ≡ (t ++ e) ++ f → v ≡ (u ++ g) ++ h →
    v ≡ old ++ (a ++ b ++ c ++ d ++ e ++ f ++ g ++ h)
four-titled old a b c d e f g h s t u v first second third last = rw (last, third, second, first) (simp append_assoc)
