-- The claims of headers and assignments, with paths that begin at the branch with which a function begins, and the
-- numbers of entries afterwards. The entries of a branch are the elements of an array of tables.
use Rattle.std.specs.Prelude.{ℕ, zero, suc, if◌then◌else◌, List, [], ◌∷◌}
use Rattle.toml_span_tree.specs.Path.{Step, key, position, Path}
use Rattle.toml_span_read.specs.Data.{ParsedValue, SimpleKey}
use Rattle.toml_span.specs.Claims.{Claim, Claims, no_claims, claimed, scope, assigned, dotted, value_claims}
use Rattle.toml_span.specs.Claims.{header_claim, array_claims}
use Rattle.toml_span.specs.declared.claims.ClaimKind.{ClaimKind}
use Rattle.toml_span.specs.declared.claims.ClaimKind.TheVariants.{Passed, StandardTable, ArrayOfTables, TableElement}
use Rattle.toml_span.specs.declared.claims.HeaderInfo.{HeaderInfo}
use Rattle.toml_span.specs.code.Machine.{graft}

-- the claim c with the step s before its path; `under` does the same for all claims
abbrev pub step_down : Step → Claim → Claim
step_down s c = record { path = s ∷ c.path; name = c.name; info = c.info; place = c.place }

unfoldable pub under : Step → Claims → Claims
under s no_claims = no_claims
under s (claimed c cs) = claimed (step_down s c) (under s cs)
under s (scope inner cs) = scope (under s inner) (under s cs)

-- ---- assignments

-- The claims of a value that is assigned to a key with these inner parts and this last part.
unfoldable pub pair_at : List SimpleKey → SimpleKey → ParsedValue → Claims
pair_at [] last v = under (key last.name) (claimed (assigned [] last v) (value_claims v []))
pair_at (k ∷ inner) last v = under (key k.name) (claimed (dotted [] k v) (pair_at inner last v))

-- the claims of a value that is assigned to the key with the parts k, `inner` and `last`; the paths begin at the branch
-- of k
abbrev pub through_pair : SimpleKey → List SimpleKey → SimpleKey → ParsedValue → Claims
through_pair k inner last v = claimed (dotted [] k v) (pair_at inner last v)

-- ---- sections

-- the kind of the claim with which a part of a header creates a branch; the list has the parts after it
abbrev pub part_kind : HeaderInfo → List SimpleKey → ClaimKind
part_kind h [] = if h.array then ArrayOfTables else StandardTable
part_kind h (l ∷ more) = Passed

-- The claims that f returns, whose paths begin at the latest entry of a branch or, if the branch has no entries, at the
-- branch itself. The paths of the result begin at the branch.
abbrev pub entered : ℕ → (Path → ℕ) → ((Path → ℕ) → Claims) → Claims
entered zero e f = f e
entered (suc latest) e f = under (position latest) (f (λ q. e (position latest ∷ q)))

-- the claim of a table, followed by the claims `tail` in it
abbrev pub opening : HeaderInfo → ClaimKind → SimpleKey → Claims → Claims
opening h kind k tail = claimed (header_claim h kind [] k) tail

-- the claims of an entry that is added after n others
abbrev pub adding : HeaderInfo → SimpleKey → Claims → ℕ → Claims
adding h k tail n = under (position n) (opening h TableElement k tail)

-- the claims of the last part of a header, and those in its table, if the branch of that part has n entries so far
abbrev pub ending : HeaderInfo → SimpleKey → Claims → ℕ → Claims
ending h k tail n = if h.array then array_claims h [] k n (adding h k tail n) else opening h StandardTable k tail

-- the claims of a section, where `tail` are those in the table that the header opens
unfoldable pub section_at : (Path → ℕ) → HeaderInfo → List SimpleKey → Claims → Claims
section_at e h [] tail = tail
section_at e h (k ∷ []) tail = under (key k.name) (ending h k tail (e (key k.name ∷ [])))
section_at e h (k ∷ l ∷ more) tail =
    under (key k.name)
    (entered (e (key k.name ∷ [])) (λ q. e (key k.name ∷ q)) (λ f. opening h Passed k (section_at f h (l ∷ more) tail)))

-- the claims of a section, with paths that begin at the table through which the part k of its header passes; `rest` are
-- the parts after k
abbrev pub passing : HeaderInfo → SimpleKey → List SimpleKey → Claims → (Path → ℕ) → Claims
passing h k rest tail f = opening h Passed k (section_at f h rest tail)

-- the claims of a section, with paths that begin at the branch of the part k of its header; the list has the parts
-- after k
abbrev pub through : (Path → ℕ) → HeaderInfo → SimpleKey → List SimpleKey → Claims → Claims
through e h k [] tail = ending h k tail (e [])
through e h k (l ∷ more) tail = entered (e []) e (passing h k (l ∷ more) tail)

-- ---- the number of entries afterwards

abbrev pub counts_after_adding : (Path → ℕ) → Path → ℕ
counts_after_adding e [] = suc (e [])
counts_after_adding e (s ∷ p) = e (s ∷ p)

abbrev pub counts_after_end : (Path → ℕ) → HeaderInfo → Path → ℕ
counts_after_end e h p = if h.array then counts_after_adding e p else e p

abbrev pub counts_after_entered : ℕ → (Path → ℕ) → ((Path → ℕ) → Path → ℕ) → Path → ℕ
counts_after_entered zero e f = f e
counts_after_entered (suc latest) e f = graft (position latest) e (f (λ q. e (position latest ∷ q)))

unfoldable pub counts_after : (Path → ℕ) → HeaderInfo → List SimpleKey → Path → ℕ
counts_after e h [] = e
counts_after e h (k ∷ []) = graft (key k.name) e (counts_after_end (λ q. e (key k.name ∷ q)) h)
counts_after e h (k ∷ l ∷ more) =
    graft (key k.name) e
    (counts_after_entered (e (key k.name ∷ [])) (λ q. e (key k.name ∷ q)) (λ f. counts_after f h (l ∷ more)))

abbrev pub counts_after_through : (Path → ℕ) → HeaderInfo → List SimpleKey → Path → ℕ
counts_after_through e h [] = counts_after_end e h
counts_after_through e h (l ∷ more) = counts_after_entered (e []) e (λ f. counts_after f h (l ∷ more))
