-- Sections, each with the path of the table that it fills.
use Rattle.std.specs.Prelude.{ℕ, false, List, map, filter_map, Option, Some, None, option_map}
use Rattle.toml_span_lex.specs.declared.span.Span.{Span}
use Rattle.toml_span_tree.specs.Nodes.{step_of}
use Rattle.toml_span_tree.specs.Path.{Path}
use Rattle.toml_span_read.specs.Data.{ParsedSection}
use Rattle.toml_span_places.specs.Lines.{blanks_start, body_end}
use Rattle.toml_span_places.specs.Mentions.{Mentioned, mentions, path_of}
use Rattle.toml_span_places.specs.declared.mentions.Details.{Details}
use Rattle.toml_span_places.specs.declared.sections.SectionForm.{SectionForm}
use Rattle.toml_span_places.specs.declared.sections.SectionForm.TheVariants as forms
use Rattle.toml_span_places.specs.declared.sections.SectionPlace.{SectionPlace}
use Rattle.toml_span_places.specs.declared.tables.TableForm.{TableForm}
use Rattle.toml_span_places.specs.declared.tables.TableForm.TheVariants as tables

-- a section: the path of its table, how it begins, the line of its header, and the lines of its assignments
pub record SectionMention : Type 0 where
  pub path : Path
  pub form : SectionForm
  pub header : Span
  pub body : Span

-- a `SectionPlace` as plain data
abbrev pub section_mention : SectionPlace → SectionMention
section_mention place =
    record { path = map step_of place.path.items; form = place.form; header = place.header; body = place.body }

-- How a section begins, given the form in which its header names its table, or None without a header.
abbrev pub form_of : Option TableForm → Option SectionForm
form_of None = Some forms.Root
form_of (Some tables.Header) = Some forms.Table
form_of (Some tables.Element) = Some forms.Element
form_of (Some _) = None

-- the start of a section's body: the end of the header's line or, without a header, the start of the spaces and tabs
-- before the first assignment
abbrev pub body_start : List ℕ → SectionForm → Details → ℕ
body_start text forms.Root d = blanks_start text d.extent.start
body_start text forms.Table d = d.span.end
body_start text forms.Element d = d.span.end

abbrev pub body_of : List ℕ → SectionForm → Details → Span
body_of text form d = record { start = body_start text form d; end = body_end text d.span d.extent }

abbrev pub section_of : List ℕ → Mentioned → Option SectionMention
section_of text m =
    option_map (λ form. record { path = path_of m; form = form; header = m.1.span; body = body_of text form m.1 })
    (form_of m.1.form)

-- the sections `bs`, each with the path of its table, in the order of the text
abbrev pub document_sections : List ℕ → List ParsedSection → List SectionMention
document_sections text bs = filter_map (section_of text) (mentions false bs)
