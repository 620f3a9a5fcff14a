-- Which claims clash, and how a clash is reported. Only claims in the same scope clash; the scopes are the document,
-- each inline table, and each array in brackets.
use Rattle.std.specs.Prelude.{◌≡◌, ℕ, if◌then◌else◌, List, [], ◌∷◌, ◌++◌, Option, Some, None, option_map}
use Rattle.std.specs.Option.{option_or}
use Rattle.toml_span_tree.specs.Error.{Kind, duplicate_table, duplicate_key, redefine_as_array, ErrorContent}
use Rattle.toml_span.specs.declared.claims.ClaimKind.{ClaimKind}
use Rattle.toml_span.specs.declared.claims.ClaimKind.TheVariants.{Passed, StandardTable, ArrayOfTables, Dotted}
use Rattle.toml_span.specs.declared.claims.ClaimKind.TheVariants.{Assigned}
use Rattle.toml_span.specs.declared.claims.ClashKind.{ClashKind}
use Rattle.toml_span.specs.declared.claims.ClashKind.TheVariants.{DuplicateTable, DuplicateKey, RedefineAsArray}
use Rattle.toml_span.specs.declared.claims.ClaimInfo.{ClaimInfo}
use Rattle.toml_span.specs.declared.claims.ClashInfo.{ClashInfo}
use Rattle.toml_span_read.specs.Paths.{same_path}
use Rattle.toml_span.specs.Claims.{Claim, Claims, no_claims, claimed, scope}

-- How two claims on the same path clash, or None if they do not. The first argument is the earlier claim. Headers may
-- pass through a table any number of times, but open it once. An array of tables is claimed once, by its first header;
-- later headers lead to its elements. Each element is claimed once, and headers may then pass through it. A dotted key
-- through a value (`Assigned`, then `Dotted`) is never reported as a clash: it is a fault if both are in the same
-- section or inline table, and otherwise another clash comes first.
abbrev pub clash_kind : ClaimKind → ClaimKind → Option ClashKind
clash_kind Passed ArrayOfTables = Some RedefineAsArray
clash_kind Passed Assigned = Some DuplicateKey
clash_kind StandardTable StandardTable = Some DuplicateTable
clash_kind StandardTable ArrayOfTables = Some DuplicateTable
clash_kind StandardTable Dotted = Some DuplicateKey
clash_kind StandardTable Assigned = Some DuplicateKey
clash_kind ArrayOfTables StandardTable = Some DuplicateTable
clash_kind ArrayOfTables Dotted = Some DuplicateKey
clash_kind ArrayOfTables Assigned = Some DuplicateKey
clash_kind Dotted StandardTable = Some DuplicateKey
clash_kind Dotted ArrayOfTables = Some DuplicateKey
clash_kind Dotted Assigned = Some DuplicateKey
clash_kind Assigned Passed = Some DuplicateKey
clash_kind Assigned StandardTable = Some DuplicateKey
clash_kind Assigned ArrayOfTables = Some DuplicateKey
clash_kind Assigned Dotted = Some DuplicateKey
clash_kind Assigned Assigned = Some DuplicateKey
clash_kind _ _ = None

-- the clash of this kind between two claims: with the spans of the two keys for `DuplicateKey`, otherwise with those of
-- the two header lines
abbrev pub clash_info : ClaimInfo → ClaimInfo → ClashKind → ClashInfo
clash_info earlier later DuplicateTable = record { kind = DuplicateTable; first = earlier.line; span = later.line }
clash_info earlier later DuplicateKey = record { kind = DuplicateKey; first = earlier.key; span = later.key }
clash_info earlier later RedefineAsArray = record { kind = RedefineAsArray; first = earlier.line; span = later.line }

-- a clash, and the name of the key that is claimed again
pub record NamedClash : Type 0 where
  pub info : ClashInfo
  pub name : List ℕ

-- the clash of an earlier and a later claim, or None if they are on different paths or do not clash
unfoldable pub clash : Claim → Claim → Option NamedClash
clash earlier later =
    if same_path earlier.path later.path
    then option_map (λ kind. record { info = clash_info earlier.info later.info kind; name = later.name })
    (clash_kind earlier.info.kind later.info.kind) else None

-- the clash of the claim `later` with the first of these claims with which it clashes, or None if it clashes with none
-- of them
unfoldable pub clash_among : List Claim → Claim → Option NamedClash
clash_among [] later = None
clash_among (c ∷ earlier) later = option_or (clash c later) (clash_among earlier later)

-- The first clash in the order of the text. `earlier` has the earlier claims in the same scope. The later claim of the
-- clash is the first one that clashes with an earlier claim of its scope, and the other is the earliest claim with
-- which it clashes.
unfoldable pub clash_after : List Claim → Claims → Option NamedClash
clash_after earlier no_claims = None
clash_after earlier (claimed c cs) = option_or (clash_among earlier c) (clash_after (earlier ++ (c ∷ [])) cs)
clash_after earlier (scope inner cs) = option_or (clash_after [] inner) (clash_after earlier cs)

-- the first clash of a document's claims
abbrev pub first_clash : Claims → Option NamedClash
first_clash cs = clash_after [] cs

-- No claim clashes with an earlier one of its scope.
abbrev pub Resolves : Claims → Type 0
Resolves cs = first_clash cs ≡ None

-- the kind of the error that reports a clash, where `name` is the name of the key
abbrev pub kind_of_clash : ClashKind → List ℕ → ClashInfo → Kind
kind_of_clash DuplicateTable name m = duplicate_table name m.first
kind_of_clash DuplicateKey name m = duplicate_key name m.first
kind_of_clash RedefineAsArray name m = redefine_as_array

-- the error that reports a clash, with the line and the column at which the clash's span starts
abbrev pub content_of_clash : ClashInfo → List ℕ → ℕ × ℕ → ErrorContent
content_of_clash m name line_info =
    record { kind = kind_of_clash m.kind name m; span = m.span; line_info = Some line_info }
