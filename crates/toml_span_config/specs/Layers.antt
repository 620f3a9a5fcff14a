-- Which setting holds where several places may set it: the one of the upper layer.
use Rattle.std.specs.Prelude.{ℕ, Bool, true, false, Option, Some, None}
use Rattle.toml_span_check.specs.declared.newer.Version.{Version}
use Rattle.toml_span_check.specs.declared.newer.Version.TheVariants.{Auto}
use Rattle.toml_span_lex.specs.declared.spanned.Spanned.{Spanned}
use Rattle.toml_span_format.specs.declared.options.Options.{Options}
use Rattle.toml_span_config.specs.declared.layers.Chosen.{Chosen}
use Rattle.toml_span_config.specs.declared.layers.Crlf.{Crlf}
use Rattle.toml_span_config.specs.declared.layers.Crlf.TheVariants as crlfs
use Rattle.toml_span_config.specs.declared.layers.ExpandArrays.{ExpandArrays}
use Rattle.toml_span_config.specs.declared.layers.ExpandArrays.TheVariants as expansions
use Rattle.toml_span_config.specs.declared.layers.Layer.{Layer}
use Rattle.toml_span_config.specs.declared.layers.Origin.TheVariants as origins
use Rattle.toml_span_config.specs.declared.layers.Settings.{Settings}

abbrev pub given : {A : Type 0} → A → Option (Chosen A)
given value = Some (record { value = value; origin = origins.Arguments })

abbrev pub of_field : {A : Type 0} → Option (Spanned A) → Option (Chosen A)
of_field None = None
of_field (Some field) = Some (record { value = field.value; origin = origins.File field.span })

-- the upper of two settings if it is set, otherwise the lower
abbrev pub over : {A : Type 0} → Option A → Option A → Option A
over lower None = lower
over lower (Some x) = Some x

abbrev pub or_default : {A : Type 0} → Option (Chosen A) → A → Chosen A
or_default None default = record { value = default; origin = origins.Default }
or_default (Some setting) default = setting

abbrev pub empty : Layer
empty = record {
  toml = None;
  deny_warnings = None;
  width = None;
  indent = None;
  sort_keys = None;
  trailing_comma = None;
  expand_arrays = None;
  align_comments = None;
  blank_lines = None;
  crlf = None;
  schema = None;
}

-- the settings of both layers; where both set one, that of the upper holds
abbrev pub under : Layer → Layer → Layer
under lower upper = record {
  toml = over lower.toml upper.toml;
  deny_warnings = over lower.deny_warnings upper.deny_warnings;
  width = over lower.width upper.width;
  indent = over lower.indent upper.indent;
  sort_keys = over lower.sort_keys upper.sort_keys;
  trailing_comma = over lower.trailing_comma upper.trailing_comma;
  expand_arrays = over lower.expand_arrays upper.expand_arrays;
  align_comments = over lower.align_comments upper.align_comments;
  blank_lines = over lower.blank_lines upper.blank_lines;
  crlf = over lower.crlf upper.crlf;
  schema = over lower.schema upper.schema;
}

-- the settings of a layer, with defaults for those that are not set
abbrev pub settled : Layer → Settings
settled layer = record {
  toml = or_default layer.toml Auto;
  deny_warnings = or_default layer.deny_warnings false;
  width = or_default layer.width 80;
  indent = or_default layer.indent 4;
  sort_keys = or_default layer.sort_keys false;
  trailing_comma = or_default layer.trailing_comma true;
  expand_arrays = or_default layer.expand_arrays expansions.Auto;
  align_comments = or_default layer.align_comments false;
  blank_lines = or_default layer.blank_lines 1;
  crlf = or_default layer.crlf crlfs.Auto;
  schema = layer.schema;
}

-- ---- the options of the formatter

abbrev pub keeps_lines : ExpandArrays → Bool
keeps_lines expansions.Auto = false
keeps_lines expansions.Keep = true

-- whether lines end with CRLF; `None` if they end as the first one does
abbrev pub has_crlf : Crlf → Option Bool
has_crlf crlfs.Auto = None
has_crlf crlfs.Always = Some true
has_crlf crlfs.Never = Some false

abbrev pub format_options : Settings → Options
format_options s = record {
  width = s.width.value;
  indent = s.indent.value;
  has_trailing_comma = s.trailing_comma.value;
  keeps_lines = keeps_lines s.expand_arrays.value;
  aligns_comments = s.align_comments.value;
  blank_lines = s.blank_lines.value;
  has_crlf = has_crlf s.crlf.value;
}
