-- Kinds, with "or" before the last of them.
use Rattle.toml_span_lex.proofs.Common.{◌≡◌, refl, ap, ◌∙◌, List, [], ◌∷◌, ◌++◌, ◌≤◌, Vec, arith, codes, length, Global, flat_map, nat_tests, common_steps}
use Rattle.toml_span_serde.specs.Misfits.{more_kinds_text, words_of}
use Rattle.toml_span_serde.specs.Misreads.{IsOther}
use Rattle.toml_span_serde.specs.declared.misfit.Expected.{Expected}
use Rattle.toml_span_serde.specs.declared.misfit.Found.{Found}
use Rattle.toml_span_serde.specs.declared.misfit.Reason.TheVariants as is

with_last : (before : List Expected) (last : Expected) → more_kinds_text (before ++ (last ∷ []))
    ≡ flat_map (λ kind. codes ", " ++ words_of kind) before ++ (codes " or " ++ words_of last)
with_last [] last = refl
with_last (e ∷ []) last = grind (arith, nat_tests, common_steps)
with_last (e ∷ d ∷ es) last = grind (arith, nat_tests, common_steps, with_last (d ∷ es) last)

pub more_kinds_split : (kinds before : List Expected) (last : Expected) → kinds ≡ before ++ (last ∷ []) →
    more_kinds_text kinds ≡ flat_map (λ kind. codes ", " ++ words_of kind) before ++ (codes " or " ++ words_of last)
more_kinds_split kinds before last is = ap more_kinds_text is ∙ with_last before last

-- of more than one kind
pub is_other_many : (kinds : List Expected) (found : Found) (all : Vec Expected Global) → 2 ≤ length kinds →
    all.items ≡ kinds → IsOther kinds found (is.WantedOneOf all found)
is_other_many [] found all many same = absurd (omega arith)
is_other_many (e ∷ []) found all many same = absurd (omega arith)
is_other_many (e ∷ d ∷ es) found all many same = (all, refl, same)
