-- The keys of a document in the order of the text.
use Rattle.std.specs.Prelude.{ℕ, ◌+◌, ◌-◌, Bool, true, ◌&&◌, ◌||◌, ◌==◌, nat_lt, if◌then◌else◌, List, map, filter_map}
use Rattle.std.specs.Prelude.{length, slice_index, Option, option_map}
use Rattle.toml_span_lex.specs.Bytes.{quotation_mark, apostrophe}
use Rattle.toml_span_lex.specs.declared.span.Span.{Span}
use Rattle.toml_span_tree.specs.Nodes.{step_of}
use Rattle.toml_span_tree.specs.Path.{Path}
use Rattle.toml_span_read.specs.Data.{ParsedSection}
use Rattle.toml_span_places.specs.Mentions.{Mentioned, mentions}
use Rattle.toml_span_places.specs.declared.keys.KeyPlace.{KeyPlace}
use Rattle.toml_span_places.specs.declared.keys.Role.{Role}

abbrev pub is_quote : ℕ → Bool
is_quote c = c == quotation_mark || c == apostrophe

-- The span of a key or single-line string with its quotes, if it has quotes. `span` is the span that reading gives the
-- key or string: that of its content or, if the content is empty, of its opening quote.
abbrev pub with_quotes : List ℕ → Span → Span
with_quotes text span =
    if nat_lt span.end (length text) && (nat_lt 0 span.start && is_quote (slice_index text (span.start - 1)))
    then record { start = span.start - 1; end = span.end + 1 }
    else if nat_lt span.end (length text) && is_quote (slice_index text span.start)
    then record { start = span.start; end = span.end + 1 }
    else span

-- a key: the path of what it names, its span without and with its quotes, and its role
pub record KeyMention : Type 0 where
  pub path : Path
  pub span : Span
  pub whole : Span
  pub role : Role

-- a `KeyPlace` as plain data
abbrev pub key_mention : KeyPlace → KeyMention
key_mention place =
    record { path = map step_of place.path.items; span = place.span; whole = place.whole; role = place.role }

abbrev pub mentioned_key : List ℕ → Mentioned → Option KeyMention
mentioned_key text m =
    option_map (λ role. record { path = m.0; span = m.1.key; whole = with_quotes text m.1.key; role = role })
    m.1.role

-- all keys in the sections `bs`, in the order of the text
abbrev pub document_keys : List ℕ → List ParsedSection → List KeyMention
document_keys text bs = filter_map (mentioned_key text) (mentions true bs)
