-- Properties that every value in memory has, and that are needed to write it as TOML.
use Rattle.std.specs.Prelude.{FitsSigned}
use Rattle.std.specs.Str.{IsUtf8}
use Rattle.toml_span_tree.specs.Date.{IsDateText}
use Rattle.toml_span_tree.specs.Node.{Scalar, text, integer, float, boolean, datetime, Node, node, Inner, taken, scalar}
use Rattle.toml_span_tree.specs.Node.{array, table, Items, no_items, item, Members, no_members, member}
use mir.Syntax.{w64}

-- ---- properties of every value in memory

-- A string is valid UTF-8, an integer has 64 bits, and a date text is valid.
abbrev pub IsHeldScalar : Scalar → Type 0
IsHeldScalar (text s) = IsUtf8 s
IsHeldScalar (integer z) = FitsSigned w64 z
IsHeldScalar (float x) = Unit {0}
IsHeldScalar (boolean b) = Unit {0}
IsHeldScalar (datetime d) = IsDateText d

abbrev mutual
  pub IsHeld : Node → Type 0
  IsHeld (node i span) = IsHeldInner i

  pub IsHeldInner : Inner → Type 0
  IsHeldInner taken = Unit {0}
  IsHeldInner (scalar s) = IsHeldScalar s
  IsHeldInner (array ns) = AreHeld ns
  IsHeldInner (table ms) = MembersHeld ms

  pub AreHeld : Items → Type 0
  AreHeld no_items = Unit {0}
  AreHeld (item n ns) = IsHeld n × AreHeld ns

  pub MembersHeld : Members → Type 0
  MembersHeld no_members = Unit {0}
  MembersHeld (member name key n ms) = IsUtf8 name × IsHeld n × MembersHeld ms
