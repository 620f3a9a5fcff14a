-- The texts of misfits and errors.
use Rattle.std.specs.Prelude.{ℕ, List, [], ◌∷◌, ◌++◌, codes, decimal, flat_map, string_bytes}
use Rattle.toml_span_tree.specs.Error.{kind_of}
use Rattle.toml_span_tree.specs.Message.{display_text}
use Rattle.toml_span_serde.specs.Misfits.{reason_text}
use Rattle.toml_span_serde.specs.declared.misfit.Misfit.{Misfit}
use Rattle.toml_span_serde.specs.declared.misfit.Error.{Error}
use Rattle.toml_span_serde.specs.declared.misfit.Error.TheVariants as error
use Rattle.toml_span_serde.specs.declared.path.Step.{Step}
use Rattle.toml_span_serde.specs.declared.path.Step.TheVariants as step

-- a name, or a position in brackets
abbrev pub step_text : Step → List ℕ
step_text (step.Key name) = string_bytes name
step_text (step.Position i) = codes "[" ++ decimal i ++ codes "]"

-- a step after others: a name has a dot before it
abbrev pub further_text : Step → List ℕ
further_text (step.Key name) = codes "." ++ string_bytes name
further_text (step.Position i) = step_text (step.Position i)

-- a path and a colon, as in `servers[1].port: `, and nothing for the root
abbrev pub place_text : List Step → List ℕ
place_text [] = []
place_text (s ∷ steps) = step_text s ++ flat_map further_text steps ++ codes ": "

abbrev pub misfit_text : Misfit → List ℕ
misfit_text m = place_text m.path.items ++ reason_text m.reason

abbrev pub read_error_text : Error → List ℕ
read_error_text (error.Refused e) = display_text (kind_of e.kind)
read_error_text (error.Misfit m) = misfit_text m
