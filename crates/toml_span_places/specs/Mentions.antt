-- The mentions: where a text names the tables and values of its document, in the order of the text. `Keys`, `Tables`
-- and `Sections` pick from this list.
use Rattle.std.specs.Prelude.{ℕ, zero, suc, Bool, if◌then◌else◌, List, [], ◌∷◌, ◌++◌, map, Option, Some, None, Vec}
use Rattle.std.specs.Global.{Global}
use Rattle.toml_span_lex.specs.declared.span.Span.{Span}
use Rattle.toml_span_tree.specs.Nodes.{step_of}
use Rattle.toml_span_tree.specs.Path.{Path}
use Rattle.toml_span_tree.specs.declared.nodes.Step.{Step as Lent}
use Rattle.toml_span_read.specs.Data.{SimpleKey, ParsedValue, parsed, ParsedInner, scalar, array, inline, ParsedItems}
use Rattle.toml_span_read.specs.Data.{no_items, item, ParsedPairs, no_pairs, pair, pairs_onto, ParsedSection}
use Rattle.toml_span_read.specs.Paths.{elements_added, opened_by, section_path, with_key, with_position}
use Rattle.toml_span_places.specs.declared.mentions.Details.{Details}
use Rattle.toml_span_places.specs.declared.mentions.Mention.{Mention}
use Rattle.toml_span_places.specs.declared.keys.Role.{Role}
use Rattle.toml_span_places.specs.declared.keys.Role.TheVariants as roles
use Rattle.toml_span_places.specs.declared.tables.TableForm.{TableForm}
use Rattle.toml_span_places.specs.declared.tables.TableForm.TheVariants as forms

-- a path of borrowed names as plain data
abbrev pub steps_of : Vec Lent Global → Path
steps_of path = map step_of path.items

-- a mention as plain data: its path and its details
abbrev pub Mentioned : Type 0
Mentioned = Path × Details

abbrev pub mentioned : Mention → Mentioned
mentioned m = (steps_of m.path, m.details)

-- the path p or, given a position, the path of that element of the array at p
abbrev pub inside : Path → Option ℕ → Path
inside p None = p
inside p (Some i) = with_position p i

abbrev pub path_of : Mentioned → Path
path_of m = inside m.0 m.1.element

abbrev pub latest : ℕ → Option ℕ
latest zero = None
latest (suc n) = Some n

-- ---- headers

abbrev pub by_header : ParsedSection → Option ℕ → Option Role → Option TableForm → Span → Details
by_header b e role form key =
    record { element = e; role = role; form = form; key = key; span = b.header_span; extent = b.extent }

-- The mention by `k`, the last part of the header of the section `b`. The header names the path `p`. In single
-- brackets, the mention names a table; in double brackets, a new element of the array at `p`.
abbrev pub last_mention : (Path → ℕ) → ParsedSection → Path → SimpleKey → Mentioned
last_mention counts b p k =
    let role = Some roles.HeaderLast in (
      p,
      if b.array then by_header b (Some (counts p)) role (Some forms.Element) k.span
          else by_header b None role (Some forms.Header) k.span,
    )

-- The mentions by the parts of a section's header that come after those in the path `p`. Each part except the last
-- passes through a table or, in an array of tables, through its latest element. The section without a header mentions
-- the root.
abbrev pub header_mentions : (Path → ℕ) → ParsedSection → Path → List SimpleKey → List Mentioned
header_mentions counts b p [] = (p, by_header b None None None b.header_span) ∷ []
header_mentions counts b p (k ∷ []) = last_mention counts b (with_key p k) k ∷ []
header_mentions counts b p (k ∷ l ∷ more) =
    let q = with_key p k in
    (q, by_header b (latest (counts q)) (Some roles.Header) (Some forms.Passed) k.span)
    ∷ header_mentions counts b (inside q (latest (counts q))) (l ∷ more)

-- ---- assignments

abbrev pub by_value : Option Role → Option TableForm → Span → Span → Details
by_value role form key span =
    record { element = None; role = role; form = form; key = key; span = span; extent = span }

-- the mentions by the parts of an assignment's key that come after those in the path `p`; `extent` is the span of the
-- assignment
abbrev pub parts_mentions : Span → Path → List SimpleKey → List Mentioned
parts_mentions extent p [] = []
parts_mentions extent p (k ∷ []) = (with_key p k, by_value (Some roles.Last) None k.span extent) ∷ []
parts_mentions extent p (k ∷ l ∷ more) =
    (with_key p k, by_value (Some roles.Dotted) (Some forms.Dotted) k.span extent)
    ∷ parts_mentions extent (with_key p k) (l ∷ more)

-- the path `p` with these parts appended
abbrev pub below : Path → List SimpleKey → Path
below p [] = p
below p (k ∷ ks) = below (with_key p k) ks

abbrev mutual
  -- the mentions by braces and keys in the value at the path `p`, at any depth
  pub value_mentions : Path → ParsedValue → List Mentioned
  value_mentions p (parsed i span) = inner_mentions p span i

  pub inner_mentions : Path → Span → ParsedInner → List Mentioned
  inner_mentions p span (scalar s) = []
  inner_mentions p span (array vs) = item_mentions p 0 vs
  inner_mentions p span (inline ps) = (p, by_value None (Some forms.Inline) span span) ∷ pair_mentions p ps

  -- the mentions in elements of the array at the path `p`, the first of them at the position `i`
  pub item_mentions : Path → ℕ → ParsedItems → List Mentioned
  item_mentions p i no_items = []
  item_mentions p i (item v vs) = value_mentions (with_position p i) v ++ item_mentions p (suc i) vs

  -- the mentions in assignments of the table at the path `p`, for each assignment those by the key before those in the
  -- value
  pub pair_mentions : Path → ParsedPairs → List Mentioned
  pair_mentions p no_pairs = []
  pair_mentions p (pair ks v extent ps) =
      (parts_mentions extent p ks ++ value_mentions (below p ks) v) ++ pair_mentions p ps

-- ---- sections

-- the mentions in the header of the section `b` and, if `with_assignments`, in its assignments; `counts` has the number
-- of elements that earlier headers added to each array of tables
abbrev pub section_mentions : Bool → (Path → ℕ) → ParsedSection → List Mentioned
section_mentions with_assignments counts b =
    header_mentions counts b [] b.header
    ++ (if with_assignments then pair_mentions (section_path counts b) (pairs_onto b.assignments no_pairs) else [])

-- The mentions in sections that follow those in `earlier`, which lists the latest section first.
abbrev pub mentions_after : Bool → List ParsedSection → List ParsedSection → List Mentioned
mentions_after with_assignments earlier [] = []
mentions_after with_assignments earlier (b ∷ bs) =
    section_mentions with_assignments (elements_added (opened_by earlier)) b
    ++ mentions_after with_assignments (b ∷ earlier) bs

-- all mentions in the headers of the sections `bs` and, if `with_assignments`, in their assignments
abbrev pub mentions : Bool → List ParsedSection → List Mentioned
mentions with_assignments bs = mentions_after with_assignments [] bs
