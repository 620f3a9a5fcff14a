-- What the functions for keys return.
use Rattle.std.specs.Prelude.{ℕ, ◌-◌, ◌<◌, Bool, List, map, Result, Ok, Err, Option}
use Rattle.smallvec.specs.SmallVec.{SmallVec}
use Rattle.toml_span_lex.specs.declared.key.Key.{Key}
use Rattle.toml_span_lex.specs.declared.stop.Stop.{Stop}
use Rattle.toml_span_lex.specs.declared.stop.Stop.TheVariants as stops
use Rattle.toml_span_read.specs.declared.fault.Fault.{Fault}
use Rattle.toml_span_read.specs.declared.value.DottedKey.{DottedKey}
use Rattle.toml_span_read.specs.Data.{SimpleKey, simple_key, parts}
use Rattle.toml_span_read.specs.Read as read
use Rattle.toml_span_read.specs.Read.{Parts}
use Rattle.toml_span_read.specs.Faults.{StartsInside}
use Rattle.toml_span_read.specs.code.Gaps.{Further, DotGives}

abbrev pub key_found : Key × ℕ → SimpleKey × ℕ
key_found (key, j) = (simple_key key, j)

abbrev pub parts_found : DottedKey × ℕ → Parts
parts_found (key, j) = (parts key, j)

abbrev pub header_found : SmallVec Key × ℕ → Parts
header_found (keys, j) = (map simple_key keys.items, j)

-- After n parts of a key, there is another part at i, with or without a dot after it; or e is the fault there.
abbrev pub PartGives : Bool → List ℕ → ℕ → ℕ → ℕ → Result (Key × ℕ × Option ℕ) (Stop Fault) → Type 0
PartGives header text limit n i (Ok (key, j, next)) =
    read.simple_key_at text i (Ok (simple_key key, j)) × (n < limit) × Further text i j × DotGives text j next
PartGives header text limit n i (Err (stops.Memory e)) = Unit {0}
PartGives header text limit n i (Err (stops.Fault e)) =
    ((ps : List SimpleKey) → read.key header text (limit - n) ps i (Err e)) × StartsInside text e.span
