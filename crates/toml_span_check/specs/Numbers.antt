-- Numbers with nouns.
use Rattle.std.specs.Prelude.{ℕ, ◌==◌, List, [], ◌++◌, codes, if◌then◌else◌}
use Rattle.std.specs.Fmt.{decimal}

-- a number and a noun, in the plural unless the number is 1
abbrev pub number_of : ℕ → List ℕ → List ℕ
number_of n word = decimal n ++ word ++ (if n == 1 then [] else codes "s")
