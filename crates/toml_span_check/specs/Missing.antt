-- The report that there is no value at a path: what is missing, and which key may be meant.
use Rattle.std.specs.Prelude.{ℕ, suc, Bool, ◌==◌, List, [], ◌∷◌, ◌++◌, length, codes, if◌then◌else◌, is_none}
use Rattle.std.specs.Prelude.{Option, Some, None, option_and_then, option_map, unwrap_or}
use Rattle.toml_span_check.specs.Numbers.{number_of}
use Rattle.toml_span_lex.specs.declared.span.Span.{Span}
use Rattle.toml_span_places.specs.Quoted.{key_text}
use Rattle.toml_span_report.specs.Names.{nearest}
use Rattle.toml_span_report.specs.Report.{ReportContent, bare, with_help, with_note, with_primary}
use Rattle.toml_span_report.specs.declared.report.Severity.TheVariants as severity
use Rattle.toml_span_tree.specs.Node.{Node, Inner, Items, no_items, item, Members, no_members, member, entry_at}
use Rattle.toml_span_tree.specs.Value.{inner_of, items_in, kind_name, members_in, span_of}
use Rattle.toml_span_tree.specs.code.Pointer.{untaken_entry}

-- ---- marks

-- the span of the key with this name
abbrev pub key_span : List ℕ → Members → Option Span
key_span name ms = option_and_then (λ e. e.0) (entry_at name ms)

abbrev pub mark_in : Option Members → List ℕ → Node → Span
mark_in (Some ms) segment m = unwrap_or (key_span segment ms) (span_of m)
mark_in None segment m = span_of m

-- the span to mark for the value m, to which the segment leads: that of its key or, without a key, its own
abbrev pub mark_of : Inner → List ℕ → Node → Span
mark_of i segment m = mark_in (members_in i) segment m

-- ---- paths

abbrev pub with_step_in : Option Items → List ℕ → List ℕ → List ℕ
with_step_in (Some ns) path segment = path ++ codes "[" ++ segment ++ codes "]"
with_step_in None path segment = path ++ (if length path == 0 then [] else codes ".") ++ key_text segment

-- the path with one more segment: `[0]` for a position in an array, otherwise a key with a dot before it
abbrev pub with_step : Inner → List ℕ → List ℕ → List ℕ
with_step i path segment = with_step_in (items_in i) path segment

-- ---- what is missing

abbrev pub count_items : Items → ℕ
count_items no_items = 0
count_items (item n ns) = suc (count_items ns)

abbrev pub lacks_key : Inner → List ℕ → List ℕ
lacks_key i name = codes "this " ++ kind_name i ++ codes " has no key `" ++ name ++ codes "`"

abbrev pub lacks_in : Option Items → Inner → List ℕ → List ℕ
lacks_in (Some ns) i segment = codes "this array has " ++ number_of (count_items ns) (codes " element")
lacks_in None i segment = lacks_key i segment

-- what a value lacks, to which the segment should apply: elements or a key
abbrev pub lacks : Bool → Inner → List ℕ → List ℕ
lacks is_root i segment =
    if is_root then codes "the document has no key `" ++ segment ++ codes "`" else lacks_in (items_in i) i segment

-- the names of the keys
abbrev pub names_of : Members → List (List ℕ)
names_of no_members = []
names_of (member name key n ms) = name ∷ names_of ms

abbrev pub near : Option Members → List ℕ → Option (List ℕ)
near (Some ms) name = nearest name (names_of ms)
near None name = None

abbrev pub with_meant : ReportContent → List ℕ → Inner → Option (List ℕ) → ReportContent
with_meant r path i None = r
with_meant r path i (Some meant) = with_help r (codes "did you mean `" ++ with_step i path meant ++ codes "`?")

-- the report with a line of help, if a key of the table at `path` has a similar name
abbrev pub suggested : ReportContent → List ℕ → Inner → List ℕ → ReportContent
suggested r path i name = with_meant r path i (near (members_in i) name)

-- the report with this text at the mark or, without a mark, as a note
abbrev pub with_mark : ReportContent → Option Span → List ℕ → ReportContent
with_mark r None text = with_note r text
with_mark r (Some span) text = with_primary r span text

-- the report with what the value at `path` lacks; the value has this mark, except for the whole document
abbrev pub stopped : ReportContent → List ℕ → Option Span → Inner → List ℕ → ReportContent
stopped r path mark i segment = suggested (with_mark r mark (lacks (is_none mark) i segment)) path i segment

-- ---- the way to the value

-- the report with what is missing on the way along the segments from the value n, which is at `path`
abbrev pub explained : ReportContent → List ℕ → Option Span → List (List ℕ) → Node → ReportContent
explained r path mark [] n = r
explained r path mark (segment ∷ more) n =
    unwrap_or (option_map (λ next. explained r (with_step (inner_of n) path segment)
    (Some (mark_of (inner_of n) segment next)) more next) (untaken_entry segment n))
    (stopped r path mark (inner_of n) segment)

abbrev pub nothing_there : List ℕ → ReportContent
nothing_there pointer = bare severity.Error (codes "nothing-there") (codes "no value at `" ++ pointer ++ codes "`")

-- the report that a path names no value in the document n; without segments if the path is malformed
abbrev pub missing : List ℕ → Option (List (List ℕ)) → Node → ReportContent
missing pointer None n = nothing_there pointer
missing pointer (Some segments) n = explained (nothing_there pointer) [] None segments n
