-- The clash that is reported is the first one.
use Rattle.std.specs.Option.{option_or}
use Rattle.toml_span_lex.proofs.Common.{◌≡◌, ℕ, true, List, [], ◌∷◌, ◌++◌, Option, option_map, refl, sym, ap, ◌∙◌, list_any, false≢true, arith, nat_tests, common_steps}
use Rattle.toml_span.specs.declared.claims.ClashKind.{ClashKind}
use Rattle.toml_span.specs.declared.claims.ClaimInfo.{ClaimInfo}
use Rattle.toml_span.specs.declared.claims.ClashInfo.{ClashInfo}
use Rattle.toml_span.specs.Claims.{Claim, Claims, no_claims, claimed, scope}
use Rattle.toml_span.specs.Clashes.{NamedClash, clash_info, clash, clash_among, clash_after, first_clash}
use Rattle.toml_span.specs.code.ClaimInfos.{earliest_clash_info, same_kind, remember, with_name, clash_info_between}
use Rattle.toml_span.specs.code.Machine.{CellMap, no_cells, change, with_claim, show_all, earliest_clash, clash_found}
use Rattle.toml_span.proofs.Claimed.{remember-cases, same_kind-eq}
use Rattle.toml_span.proofs.Grafts.{or_else-assoc, or_else-none}
use Rattle.toml_span.proofs.Shown.{show_all-infos}

-- ---- a later claim clashes only with the first one of a kind

absorbed : (x a b : ClaimInfo) (o p : Option ClashKind) (y : Option ClashInfo) → o ≡ p
    → option_or (option_map (clash_info x b) o) y ≡ option_or (option_or (option_map (clash_info x b) o) y) (option_map (clash_info a b) p)
absorbed x a b o p y e = grind (arith, nat_tests, common_steps, or_else-none)

earliest_clash_info-known : (l : List ClaimInfo) (a b : ClaimInfo) → list_any (λ x. same_kind x.kind a.kind) l ≡ true → earliest_clash_info l b ≡ option_or (earliest_clash_info l b) (clash_info_between a b)
earliest_clash_info-known [] a b h = absurd (false≢true h)
earliest_clash_info-known (x ∷ l) a b h = grind (arith, nat_tests, common_steps, absorbed, or_else-assoc, same_kind-eq, earliest_clash_info-known l a b)

earliest_clash_info-push : (l : List ClaimInfo) (a b : ClaimInfo) → earliest_clash_info (l ++ a ∷ []) b ≡ option_or (earliest_clash_info l b) (clash_info_between a b)
earliest_clash_info-push [] a b = or_else-none (clash_info_between a b)
earliest_clash_info-push (x ∷ l) a b = ap (option_or (clash_info_between x b)) (earliest_clash_info-push l a b) ∙ sym (or_else-assoc (clash_info_between x b) (earliest_clash_info l b) (clash_info_between a b))

earliest_clash_info-remember : (l : List ClaimInfo) (a b : ClaimInfo) → earliest_clash_info (remember l a) b ≡ option_or (earliest_clash_info l b) (clash_info_between a b)
earliest_clash_info-remember l a b = grind (arith, nat_tests, common_steps, earliest_clash_info-known, earliest_clash_info-push, remember-cases)

-- ---- what the state keeps of the earlier claims of the scope

among-push : (earlier : List Claim) (c later : Claim) → clash_among (earlier ++ (c ∷ [])) later ≡ option_or (clash_among earlier later) (clash c later)
unfolding clash_among
among-push [] c later = or_else-none (clash c later)
among-push (x ∷ earlier) c later = grind (arith, nat_tests, common_steps, or_else-assoc, among-push earlier c later)

abbrev met_in : CellMap → Claim → Option NamedClash
met_in st c = earliest_clash (st c.path).infos c.info c.name

-- from the state follow the clashes of each later claim with the earlier ones
abbrev Keeps : CellMap → List Claim → Type 0
Keeps st earlier = (later : Claim) → met_in st later ≡ clash_among earlier later

keeps-nothing : Keeps no_cells []
unfolding clash_among
keeps-nothing later = refl

map-or_else : (name : List ℕ) (x y : Option ClashInfo) → option_map (with_name name) (option_or x y) ≡ option_or (option_map (with_name name) x) (option_map (with_name name) y)
map-or_else name x y = grind (arith, nat_tests, common_steps)

-- the clash of two claims on the same path, with a name
clash-named : (name : List ℕ) (a b : ClaimInfo) (o : Option ClashKind) → option_map (with_name name) (option_map (clash_info a b) o) ≡ option_map (λ kind. with_name name (clash_info a b kind)) o
clash-named name a b o = grind (arith, nat_tests, common_steps)

met-claim : (st : CellMap) (c later : Claim) → met_in (change st c.path (with_claim c)) later ≡ option_or (met_in st later) (clash c later)
unfolding change clash
met-claim st c later = grind (arith, nat_tests, common_steps, map-or_else, or_else-none, clash-named, earliest_clash_info-remember)

keeps-claim : (st : CellMap) (earlier : List Claim) (c : Claim) → Keeps st earlier → Keeps (change st c.path (with_claim c)) (earlier ++ (c ∷ []))
keeps-claim st earlier c keeps later = grind (arith, nat_tests, common_steps, among-push, met-claim)

keeps-inner : (st : CellMap) (earlier : List Claim) (inner : Claims) → Keeps st earlier → Keeps (show_all st inner) earlier
keeps-inner st earlier inner keeps later = ap (λ l. earliest_clash l later.info later.name) (show_all-infos st inner later.path) ∙ keeps later

-- ---- the clash that is found is the first one

met-after : (st : CellMap) (earlier : List Claim) (cs : Claims) → Keeps st earlier → clash_found st cs ≡ clash_after earlier cs
unfolding clash_found clash_after
met-after st earlier no_claims keeps = refl
met-after st earlier (claimed c cs) keeps = let rest = met-after (change st c.path (with_claim c)) (earlier ++ (c ∷ [])) cs (keeps-claim st earlier c keeps) in grind (arith, nat_tests, common_steps, keeps c)
met-after st earlier (scope inner cs) keeps =
    rw (met-after no_cells [] inner keeps-nothing) (ap (option_or (clash_after [] inner)) (met-after (show_all st inner) earlier cs (keeps-inner st earlier inner keeps)))

pub first-met : (cs : Claims) → first_clash cs ≡ clash_found no_cells cs
first-met cs = sym (met-after no_cells [] cs keeps-nothing)
