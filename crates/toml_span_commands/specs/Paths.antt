-- Whether a path can be read.
use Rattle.std.specs.Prelude.{List, ℕ, Option, Some, None, String, Ok, Err}
use Rattle.std.specs.Global.{Global}
use Rattle.toml_span_places.specs.Dotted.{IsPath}
use Rattle.toml_span_places.specs.declared.dotted.PathError.{PathError}

-- A message that the path can't be read, or `None` if the path can be read.
abbrev pub IsWrong : List ℕ → Option (String Global) → Type 0
IsWrong path None = (segments : List (List ℕ)) × IsPath path (Ok segments)
IsWrong path (Some message) = (e : PathError) × IsPath path (Err e)
