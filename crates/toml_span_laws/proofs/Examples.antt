-- A worked example, by evaluation: the claims of a document, that they do not clash, the places at its paths, and its
-- tree.
use Rattle.toml_span_lex.proofs.Common.{◌≡◌, refl, ⊤, ℕ, ◌+◌, Bool, false, List, [], ◌∷◌, map, length, Option, Some, None, codes, pos}
use Rattle.toml_span_lex.specs.declared.span.Span.{Span}
use Rattle.toml_span_tree.specs.Node as tree
use Rattle.toml_span_tree.specs.Node.{integer}
use Rattle.toml_span_tree.specs.Path.{Path, key, position, Shape, shape_scalar, shape_table, Place, place_at}
use Rattle.toml_span_read.specs.Data.{ParsedValue, parsed, scalar, ParsedAssignment, ParsedSection, last_end, SimpleKey}
use Rattle.toml_span.specs.declared.claims.ClaimKind.{ClaimKind}
use Rattle.toml_span.specs.declared.claims.ClaimKind.TheVariants.{Passed, StandardTable, Dotted, Assigned}
use Rattle.toml_span_read.specs.Paths.{same_path, enter, target, opened_by}
use Rattle.toml_span.specs.Claims.{Claim, Claims, no_claims, claimed, table_claim, followed, key_claims, value_claims, inner_claims, item_claims, pair_claims, assignments_claims, end_claims, header_claims, section_claims, claims_after, claims}
use Rattle.toml_span.specs.Clashes.{Resolves, clash, clash_among, clash_after}
use Rattle.toml_span.specs.Flat.{all_claims, flat}

-- what the example evaluates
computed : ⊤
unfolding same_path enter target opened_by followed key_claims value_claims inner_claims item_claims pair_claims assignments_claims end_claims header_claims section_claims claims_after clash clash_among clash_after all_claims flat
computed = tt

-- ---- how sections are written

abbrev at : ℕ → ℕ → Span
at i j = record { start = i; end = j }

-- a bare key at i
abbrev part : List ℕ → ℕ → SimpleKey
part name i = record { name = name; span = at i (i + length name) }

-- an integer of one digit at i
abbrev digit : ℕ → ℕ → ParsedValue
digit n i = parsed (scalar (integer (pos n))) (at i (i + 1))

-- an assignment from i to j
abbrev parsed_assignment : ℕ → ℕ → List SimpleKey → ParsedValue → ParsedAssignment
parsed_assignment i j parts v = record { parts = parts; value = v; extent = at i j }

-- a header whose line is from i to j, in double brackets or not, and the assignments after it
abbrev header : Bool → ℕ → ℕ → List SimpleKey → List ParsedAssignment → ParsedSection
header double i j parts assignments = record { header = parts; array = double; header_span = at i j; extent = at i (last_end j assignments); assignments = assignments }

abbrev headed : ℕ → ℕ → List SimpleKey → List ParsedAssignment → ParsedSection
headed = header false

-- ---- names and paths

abbrev a : List ℕ
a = codes "a"

abbrev b : List ℕ
b = codes "b"

abbrev c : List ℕ
c = codes "c"

abbrev d : List ℕ
d = codes "d"

abbrev root : Path
root = []

abbrev /a : Path
/a = key a ∷ []

abbrev /a/b : Path
/a/b = key a ∷ key b ∷ []

abbrev /a/b/c : Path
/a/b/c = key a ∷ key b ∷ key c ∷ []

abbrev /a/b/d : Path
/a/b/d = key a ∷ key b ∷ key d ∷ []

abbrev /a/0 : Path
/a/0 = key a ∷ position 0 ∷ []

-- ---- how claims, places and trees are written

-- a table or an array, claimed at a path by a key: the span of the key, the line of the header and the span of the
-- place
abbrev claims_table : ClaimKind → Path → List ℕ → Span → Span → Span → Claim
claims_table kind path name k line extent =
    table_claim path (record { name = name; span = k }) (record { kind = kind; key = k; line = line; extent = extent })

-- a value: the span of its key, its shape and its span
abbrev claims_value : Path → List ℕ → Span → Shape → Span → Claim
claims_value path name k shape span =
    record {
      path = path;
      name = name;
      info = record { kind = Assigned; key = k; line = span; extent = span };
      place = record { shape = shape; key_span = Some k; span = span };
    }

-- these claims, followed by the rest
abbrev in_order : List Claim → Claims → Claims
in_order [] rest = rest
in_order (first ∷ more) rest = claimed first (in_order more rest)

abbrev number : ℕ → Shape
number n = shape_scalar (integer (pos n))

-- the place at a key
abbrev keyed : Shape → Span → Span → Option Place
keyed shape name span = Some (record { shape = shape; key_span = Some name; span = span })

-- the root, an entry or an element
abbrev unkeyed : Shape → Span → Option Place
unkeyed shape span = Some (record { shape = shape; key_span = None; span = span })

abbrev table_of : tree.Members → Span → tree.Node
table_of members span = tree.node (tree.table members) span

abbrev one : Span → tree.Node
one span = tree.node (tree.scalar (integer (pos 1))) span

-- ---- `[a.b.c]` LF `[a]` LF `b.d = 1` LF

abbrev abc : List ParsedSection
abc =
    headed 0 8 (part a 1 ∷ part b 3 ∷ part c 5 ∷ []) []
    ∷ headed 8 12 (part a 9 ∷ []) (parsed_assignment 12 19 (part b 12 ∷ part d 14 ∷ []) (digit 1 18) ∷ [])
    ∷ []

abbrev abc_claims : List Claim
abc_claims =
    claims_table Passed /a a (at 1 2) (at 0 8) (at 0 8)
    ∷ claims_table Passed /a/b b (at 3 4) (at 0 8) (at 0 8)
    ∷ claims_table StandardTable /a/b/c c (at 5 6) (at 0 8) (at 0 8)
    ∷ claims_table StandardTable /a a (at 9 10) (at 8 12) (at 8 19)
    ∷ claims_table Dotted /a/b b (at 12 13) (at 18 19) (at 18 19)
    ∷ claims_value /a/b/d d (at 14 15) (number 1) (at 18 19)
    ∷ []

abc-claims : claims abc ≡ in_order abc_claims no_claims
unfolding computed
abc-claims = refl

abc-resolves : Resolves (claims abc)
unfolding computed
abc-resolves = refl

abbrev abc_paths : List Path
abc_paths = root ∷ /a ∷ /a/b ∷ /a/b/c ∷ /a/b/d ∷ /a/0 ∷ []

abc-flat : map (flat 20 (claims abc)) abc_paths ≡
    unkeyed shape_table (at 0 20)
    ∷ keyed shape_table (at 1 2) (at 0 8)
    ∷ keyed shape_table (at 3 4) (at 0 8)
    ∷ keyed shape_table (at 5 6) (at 0 8)
    ∷ keyed (number 1) (at 14 15) (at 18 19)
    ∷ None
    ∷ []
unfolding computed
abc-flat = refl

abbrev abc_tree : tree.Node
abc_tree =
    table_of (tree.member a (at 1 2)
    (table_of (tree.member b (at 3 4)
    (table_of (tree.member c (at 5 6) (table_of tree.no_members (at 0 8))
    (tree.member d (at 14 15) (one (at 18 19)) tree.no_members))
    (at 0 8)) tree.no_members)
    (at 0 8)) tree.no_members)
    (at 0 20)

abc-shown : map (λ p. place_at p abc_tree) abc_paths ≡ map (flat 20 (claims abc)) abc_paths
unfolding computed
abc-shown = refl
