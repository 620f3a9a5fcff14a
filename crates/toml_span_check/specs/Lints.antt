-- The SARIF document of a run of another program, such as a lint.
use Rattle.std.specs.Prelude.{ℕ, List, ◌++◌}
use Rattle.toml_span_report.specs.Visible.{quoted}
use Rattle.toml_span_check.specs.Sarif.{without_comma}
use Rattle.toml_span_check.specs.declared.lints.TheConstants.{HEAD, RESULTS, TAIL}

-- the document for a tool with this name and these results
unfoldable pub sarif_document : List ℕ → List ℕ → List ℕ
sarif_document tool results = HEAD.now ++ quoted tool ++ RESULTS.now ++ without_comma results ++ TAIL.now
