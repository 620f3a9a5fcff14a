-- What a branch of the tree under construction keeps of its claims, and how later claims clash with them.
use Rattle.std.specs.Option.{option_or}
use Rattle.std.specs.Box.{box_value}
use Rattle.std.specs.Global.{Box}
use Rattle.toml_span.specs.declared.claims.Clash as code
use Rattle.std.specs.Prelude.{◌≡◌, ⊤, ℕ, Bool, nat_eq, if◌then◌else◌, List, [], ◌∷◌, ◌++◌, Option, Some}
use Rattle.std.specs.Prelude.{None, option_map, string_bytes}
use Rattle.std.specs.List.{list_any}
use Rattle.toml_span_read.specs.Places.{IsInside}
use Rattle.toml_span.specs.declared.claims.ClaimKind.{ClaimKind}
use Rattle.toml_span.specs.declared.claims.ClaimKind.TheVariants.{Passed, StandardTable, ArrayOfTables, TableElement}
use Rattle.toml_span.specs.declared.claims.ClaimKind.TheVariants.{Dotted, Assigned}
use Rattle.toml_span.specs.declared.claims.ClaimInfo.{ClaimInfo}
use Rattle.toml_span.specs.declared.claims.ClashInfo.{ClashInfo}
use Rattle.toml_span_lex.specs.declared.stop.Stop.{Stop}
use Rattle.toml_span_lex.specs.declared.stop.Stop.TheVariants.{Memory, Fault}
use Rattle.toml_span.specs.Flat.{by_header}
use Rattle.toml_span.specs.Clashes.{NamedClash, clash_kind, clash_info}

abbrev pub kind_number : ClaimKind → ℕ
kind_number Passed = 0
kind_number StandardTable = 1
kind_number ArrayOfTables = 2
kind_number TableElement = 3
kind_number Dotted = 4
kind_number Assigned = 5

abbrev pub same_kind : ClaimKind → ClaimKind → Bool
same_kind a b = nat_eq (kind_number a) (kind_number b)

-- whether one of the claims has this kind
abbrev pub has_kind : List ClaimInfo → ClaimKind → Bool
has_kind infos kind = list_any (λ info. same_kind info.kind kind) infos

-- the claims with one more, unless one of its kind is there already
abbrev pub remember : List ClaimInfo → ClaimInfo → List ClaimInfo
remember infos info = if has_kind infos info.kind then infos else infos ++ info ∷ []

-- the clash of two claims on the same path, or None if they do not clash
abbrev pub clash_info_between : ClaimInfo → ClaimInfo → Option ClashInfo
clash_info_between earlier later = option_map (clash_info earlier later) (clash_kind earlier.kind later.kind)

abbrev pub with_name : List ℕ → ClashInfo → NamedClash
with_name name m = record { info = m; name = name }

-- the clash of the claim `later` with the first of these claims with which it clashes, or None if it clashes with none
-- of them
abbrev pub earliest_clash_info : List ClaimInfo → ClaimInfo → Option ClashInfo
earliest_clash_info [] later = None
earliest_clash_info (earlier ∷ infos) later =
    option_or (clash_info_between earlier later) (earliest_clash_info infos later)

-- why a section, an assignment or a value could not be placed: a clash, or a failed allocation
abbrev pub PlaceError : Type 0
PlaceError = Stop (Box code.Clash)

-- The clash has this info and this name.
abbrev pub IsClashOver : code.Clash → ClashInfo → List ℕ → Type 0
IsClashOver c m name = (c.info ≡ m) × (string_bytes c.name ≡ name)

-- The error is a clash with this info and this name, or a failed allocation.
abbrev pub IsErrorOver : PlaceError → ClashInfo → List ℕ → Type 0
IsErrorOver (Fault c) m name = IsClashOver (box_value c) m name
IsErrorOver (Memory e) m name = ⊤

abbrev pub first_by_header : List ClaimInfo → Option ClaimInfo
first_by_header [] = None
first_by_header (info ∷ infos) = if by_header info.kind then Some info else first_by_header infos

abbrev pub first : List ClaimInfo → Option ClaimInfo
first [] = None
first (info ∷ infos) = Some info

-- the claim that determines the spans of a branch: that of the first header or, if no header claims the branch, the
-- first claim
abbrev pub deciding : List ClaimInfo → Option ClaimInfo
deciding infos = option_or (first_by_header infos) (first infos)

-- If the error is a clash, its span is inside the first n bytes.
abbrev pub IsPlaceErrorInside : ℕ → PlaceError → Type 0
IsPlaceErrorInside n (Memory e) = ⊤
IsPlaceErrorInside n (Fault c) = IsInside n (box_value c).info.span
