-- The report that a file is not UTF-8.
use Rattle.std.specs.Prelude.{ℕ, ◌/◌, ◌%◌, ◌==◌, ◌&&◌, nat_lt, List, [], ◌∷◌, ◌++◌, codes, slice_index}
use Rattle.std.specs.Prelude.{if◌then◌else◌}
use Rattle.std.specs.Fmt.{decimal}
use Rattle.toml_span_lines.specs.Lines.{hex_digit}
use Rattle.toml_span_report.specs.Report.{ReportContent, bare, with_help, with_primary}
use Rattle.toml_span_report.specs.declared.report.Severity.TheVariants as severity
use Rattle.toml_span_check.specs.declared.encoding.Encoding.{Encoding}
use Rattle.toml_span_check.specs.declared.encoding.Encoding.TheVariants.{LittleEndian, BigEndian, Windows1252, Latin1}

-- The encoding that a file seems to have. `at` is the offset of the first byte that is not valid UTF-8. A byte order
-- mark FF FE or FE FF means UTF-16. Otherwise a byte below 0xA0 at this offset means Windows-1252, since such a byte is
-- not a printable character of Latin-1.
abbrev pub encoding_of : List ℕ → ℕ → Encoding
encoding_of bytes at =
    if slice_index bytes 0 == 255 && slice_index bytes 1 == 254 then LittleEndian
    else if slice_index bytes 0 == 254 && slice_index bytes 1 == 255 then BigEndian
    else if nat_lt (slice_index bytes at) 160 then Windows1252
    else Latin1

abbrev pub look_of : Encoding → List ℕ
look_of LittleEndian = codes "this looks like UTF-16 (byte order mark FF FE)"
look_of BigEndian = codes "this looks like UTF-16 (byte order mark FE FF)"
look_of Windows1252 = codes "this looks like Windows-1252"
look_of Latin1 = codes "this looks like Latin-1 (ISO-8859-1)"

abbrev pub repair_of : Encoding → List ℕ
repair_of LittleEndian = codes "convert it with `iconv -f UTF-16 -t UTF-8`"
repair_of BigEndian = codes "convert it with `iconv -f UTF-16 -t UTF-8`"
repair_of Windows1252 = codes "convert it with `iconv -f WINDOWS-1252 -t UTF-8`"
repair_of Latin1 = codes "convert it with `iconv -f ISO-8859-1 -t UTF-8`"

-- a byte as `0xE9`
abbrev pub byte_text : ℕ → List ℕ
byte_text byte = codes "0x" ++ hex_digit (byte / 16) ∷ hex_digit (byte % 16) ∷ []

-- the message that the byte at the offset `at` is not valid UTF-8
unfoldable pub not_utf8_text : List ℕ → ℕ → List ℕ
not_utf8_text bytes at =
    codes "the file is not valid UTF-8: byte " ++ byte_text (slice_index bytes at) ++ codes " at offset " ++ decimal at

-- the report that the byte at the offset `at` is not valid UTF-8, with a label at this offset
abbrev pub not_utf8_report : List ℕ → ℕ → ReportContent
not_utf8_report bytes at =
    with_help (with_help (with_primary (bare severity.Error (codes "not-utf-8") (not_utf8_text bytes at))
    (record { start = at; end = at }) []) (look_of (encoding_of bytes at))) (repair_of (encoding_of bytes at))
