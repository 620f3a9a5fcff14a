-- Errors that may be absent.
use Rattle.std.specs.Prelude.{List, [], ◌∷◌, map, Option, Some, None, Vec}
use Rattle.std.specs.Borrow.{Bor}
use Rattle.std.specs.declared.alloc.Global.{Global}
use Rattle.toml_span_tree.specs.declared.error.Error.{Error}
use Rattle.toml_span_tree.specs.Error.{ErrorContent, content_of}
use Rattle.toml_span_tree.specs.Errors.{Errors, all}

-- all errors, if there are any
abbrev pub all_of_option : Option Errors → List ErrorContent
all_of_option None = []
all_of_option (Some faults) = all faults

-- the errors in a list, if there is a list
abbrev pub faults_in : Option (Vec Error Global) → List ErrorContent
faults_in None = []
faults_in (Some errors) = map content_of errors.items

-- the last error, unless it has been returned already
abbrev pub last_left : Option (Bor Error) → List ErrorContent
last_left None = []
last_left (Some error) = content_of error.now ∷ []
