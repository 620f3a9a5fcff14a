-- The parts into which a comparison splits two texts.
use Rattle.std.specs.Prelude.{◌≡◌, ℕ, List, []}
use Rattle.std.specs.List.{flat_map}
use Rattle.toml_span_files.specs.declared.diff.Part.{Part}
use Rattle.toml_span_files.specs.declared.diff.Part.TheVariants.{Same, Old, New}

abbrev pub old_part : Part → List ℕ
old_part (Same text) = text.now
old_part (Old text) = text.now
old_part (New text) = []

abbrev pub new_part : Part → List ℕ
new_part (Same text) = text.now
new_part (Old text) = []
new_part (New text) = text.now

-- The parts that are `Same` or `Old` join to the old text, and those that are `Same` or `New` join to the new text.
pub record Splits (old new : List ℕ) (parts : List Part) : Type 0 where
  pub old_text : flat_map old_part parts ≡ old
  pub new_text : flat_map new_part parts ≡ new
