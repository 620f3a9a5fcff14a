-- The options of the formatter.
use Rattle.std.specs.Prelude.{true, false, None}
use Rattle.toml_span_format.specs.declared.options.Options.{Options}

abbrev pub default : Options
default = record {
  width = 80;
  indent = 4;
  has_trailing_comma = true;
  keeps_lines = false;
  aligns_comments = false;
  blank_lines = 1;
  has_crlf = None;
}
