-- The escape sequences that set the colors of a report in terminals (ECMA-48, SGR).
use Rattle.std.specs.Prelude.{ℕ, List, ◌∷◌, ◌++◌, codes}
use Rattle.toml_span_report.specs.declared.colours.Ink.{Ink}
use Rattle.toml_span_report.specs.declared.colours.Ink.TheVariants.{Red, Yellow, Green, Blue, Bold}
use Rattle.toml_span_report.specs.declared.colours.Style.{Style}
use Rattle.toml_span_report.specs.declared.colours.Style.TheVariants.{Plain, Coloured}

abbrev pub beginning : Ink → List ℕ
beginning Red = 27 ∷ codes "[1;31m"
beginning Yellow = 27 ∷ codes "[1;33m"
beginning Green = 27 ∷ codes "[1;32m"
beginning Blue = 27 ∷ codes "[1;34m"
beginning Bold = 27 ∷ codes "[1m"

-- a text in the color `ink`, or unchanged if the style is plain
abbrev pub painted : Style → Ink → List ℕ → List ℕ
painted Plain ink text = text
painted Coloured ink text = beginning ink ++ text ++ 27 ∷ codes "[0m"
