-- The result of reading a tag.
use Rattle.std.specs.Prelude.{ℕ, List, Result, Ok, Err}
use Rattle.std.specs.Borrow.{Bor}
use Rattle.toml_span_tree.specs.declared.error.Error.{Error}
use Rattle.toml_span_tree.specs.Error.{ErrorContent, content_of}

-- the result as plain data
abbrev pub tag_result : Result (Bor (List ℕ)) Error → Result (List ℕ) ErrorContent
tag_result (Ok tag) = Ok tag.now
tag_result (Err error) = Err (content_of error)
