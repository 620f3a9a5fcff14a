-- A cell is what the tree under construction keeps of the claims on one path. The cells of all paths suffice to find
-- the first clash.
use Rattle.std.specs.Option.{option_or}
use Rattle.std.specs.Box.{box_value}
use Rattle.std.specs.Global.{Box}
use Rattle.std.specs.Prelude.{◌≡◌, ⊤, ℕ, Bool, not, ◌||◌, if◌then◌else◌, List, [], ◌∷◌, Result, Ok, Err, Option, Some}
use Rattle.std.specs.Prelude.{None, option_map, string_bytes}
use Rattle.toml_span_lex.specs.declared.span.Span.{Span}
use Rattle.toml_span_tree.specs.Path.{Place, Path, Step}
use Rattle.toml_span.specs.declared.claims.ClaimInfo.{ClaimInfo}
use Rattle.toml_span.specs.Claims.{Claim, Claims, no_claims, claimed, scope}
use Rattle.toml_span.specs.Flat.{by_header}
use Rattle.toml_span.specs.code.ClaimInfos.{PlaceError, earliest_clash_info, remember, with_name}
use Rattle.toml_span_read.specs.Paths.{same_path, same_step}
use Rattle.toml_span.specs.Clashes.{NamedClash}
use Rattle.toml_span.specs.declared.claims.Clash as code
use Rattle.toml_span_lex.specs.declared.stop.Stop.TheVariants.{Memory, Fault}

-- What is known of the place at a path so far: whether the claim that determines it was made by a header, the place,
-- and the span of the key in the first claim on the path.
pub record Decided : Type 0 where
  pub header : Bool
  pub place : Place
  pub key : Span

-- What is kept for a path: the first claim of each kind in the path's own scope, and the place there, which a claim in
-- any scope may determine.
pub record Cell : Type 0 where
  pub infos : List ClaimInfo
  pub shown : Option Decided

abbrev pub CellMap : Type 0
CellMap = Path → Cell

abbrev pub no_cell : Cell
no_cell = record { infos = []; shown = None }

abbrev pub no_cells : CellMap
no_cells p = no_cell

abbrev pub with_span : Span → Decided → Decided
with_span span d = record { header = d.header; place = d.place; key = span }

-- the place at a path after one more claim on it: that of the first header or, if no header claims the path, that of
-- the first claim
abbrev pub decide : Option Decided → Decided → Option Decided
decide None next = Some next
decide (Some first) next = if first.header || not next.header then Some first else Some (with_span first.key next)

abbrev pub decided : Claim → Decided
decided c = record { header = by_header c.info.kind; place = c.place; key = c.info.key }

-- the cell x after the claim c: `with_claim` for a claim in the path's own scope, `with_inner` for a claim in a scope
-- inside it
abbrev pub with_claim : Claim → Cell → Cell
with_claim c x = record { infos = remember x.infos c.info; shown = decide x.shown (decided c) }

abbrev pub with_inner : Claim → Cell → Cell
with_inner c x = record { infos = x.infos; shown = decide x.shown (decided c) }

-- for each path, the span where its key is written
abbrev pub key_spans : CellMap → Path → Option Span
key_spans st p = option_map (λ d. d.key) (st p).shown

unfoldable pub change : CellMap → Path → (Cell → Cell) → CellMap
change st p f q = if same_path p q then f (st q) else st q

-- the cells after these claims, all of which count as claims in inner scopes
unfoldable pub show_all : CellMap → Claims → CellMap
show_all st no_claims = st
show_all st (claimed c cs) = show_all (change st c.path (with_inner c)) cs
show_all st (scope inner cs) = show_all (show_all st inner) cs

-- the cells after these claims, where only those in a `scope` count as claims in inner scopes
unfoldable pub put_all : CellMap → Claims → CellMap
put_all st no_claims = st
put_all st (claimed c cs) = put_all (change st c.path (with_claim c)) cs
put_all st (scope inner cs) = put_all (show_all st inner) cs

-- the clash of a claim, whose key has this name, with the first of the claims `infos` with which it clashes
abbrev pub earliest_clash : List ClaimInfo → ClaimInfo → List ℕ → Option NamedClash
earliest_clash infos info name = option_map (with_name name) (earliest_clash_info infos info)

-- The first clash that these claims cause if the cells `st` have the claims before them. An inner scope begins without
-- claims.
unfoldable pub clash_found : CellMap → Claims → Option NamedClash
clash_found st no_claims = None
clash_found st (claimed c cs) =
    option_or (earliest_clash (st c.path).infos c.info c.name) (clash_found (change st c.path (with_claim c)) cs)
clash_found st (scope inner cs) = option_or (clash_found no_cells inner) (clash_found (show_all st inner) cs)

-- the clash that a `PlaceError` reports
abbrev pub named_clash : Box code.Clash → NamedClash
named_clash c = record { info = (box_value c).info; name = string_bytes (box_value c).name }

-- Without a clash, the result is `Ok`, and P holds for it. With a clash, the result is that clash. In both cases, it
-- may also be a failed allocation.
abbrev pub OkOrClash : {A : Type 0} → Result A PlaceError → Option NamedClash → (A → Type 0) → Type 0
OkOrClash (Ok x) o P = (o ≡ None) × P x
OkOrClash (Err (Fault c)) o P = o ≡ Some (named_clash c)
OkOrClash (Err (Memory e)) o P = ⊤

-- the function f on paths, except that for a path that begins with the step s, it returns what `sub` returns for the
-- rest of the path
unfoldable pub graft : {A : Type 0} → Step → (Path → A) → (Path → A) → Path → A
graft s f sub [] = f []
graft s f sub (t ∷ q) = if same_step s t then sub q else f (t ∷ q)
