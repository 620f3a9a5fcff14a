-- In the table of a section, each value begins after its key.
use Rattle.toml_span_lex.proofs.Common.{◌≡◌, ℕ, ◌≤◌, List, [], ◌∷◌, ◌++◌, Option, Some, None, Ok, IfSome, BTreeMap, option_map, option_and_then, lookup_entry, sym, ap, ◌∙◌, subst, ⊤, AllByRecursion, cases_Bool, inl, inr, arith, nat_tests, common_steps}
use Rattle.toml_span_lex.specs.declared.key.Key.{Key}
use Rattle.toml_span_tree.specs.Path.{Path, Step, Place, key, position, reached, place_of as tree_place}
use Rattle.toml_span_lex.specs.declared.span.Span.{Span}
use Rattle.toml_span_tree.specs.Node.{node, table, entry_at}
use Rattle.toml_span_tree.specs.Value.{inner_view, members_view, view, span_of}
use Rattle.toml_span_tree.specs.declared.value.Value.{Value}
use Rattle.toml_span_tree.specs.declared.value.ValueInner.TheVariants.{Table as table_inner}
use Rattle.toml_span_tree.proofs.Values.{inner_view-Table, entry_at-lookup, view_is}
use Rattle.toml_span_read.specs.Data.{ParsedAssignment, ParsedValue, parsed, SimpleKey, parsed_span}
use Rattle.toml_span_read.specs.Grammar.{AssignmentsWith, SpellsLines, SpellsScalar, Spells}
use Rattle.toml_span_read.specs.Places.{Ascend}
use Rattle.toml_span_read.proofs.InsideLemmas.{ascend_forward}
use Rattle.toml_span_read.proofs.KeyOrder.{dotted_ascend}
use Rattle.toml_span_read.proofs.SpanLaws.{value_lies}
use Rattle.toml_span.specs.Claims.{Claim, Claims, no_claims, claimed, scope, key_claims, value_claims, assignments_claims}
use Rattle.toml_span_read.specs.Paths.{same_path}
use Rattle.toml_span.specs.code.Built.{IsLate}
use Rattle.toml_span.specs.code.Machine.{CellMap, Decided, no_cells, change, with_inner, decide, decided, show_all}
use Rattle.toml_span.specs.code.Placing.{ScopeGives, assignment_claims}
use Rattle.toml_span.specs.code.Relative.{under}
use Rattle.toml_span.specs.code.Tree.{plain, value_shows}
use Rattle.toml_span_lex.specs.Key.{is_named}
use Rattle.toml_span.proofs.Absolute.{key_claims-under, value_claims-under}
use Rattle.toml_span_read.proofs.PathLemmas.{same_path-eq}
use Rattle.toml_span.proofs.EachClaim.{Each, each-followed, key-each, value-each}

-- ---- what was read

-- The first part of the key starts before the value.
abbrev StartsBefore : ℕ → List SimpleKey → Type 0
StartsBefore n [] = ⊤
StartsBefore n (k ∷ ks) = k.span.start ≤ n

abbrev IsKeyFirst : ParsedAssignment → Type 0
IsKeyFirst e = StartsBefore (parsed_span e.value).start e.parts

starts-before : (ps : List SimpleKey) (i j n : ℕ) → j ≤ n → Ascend ps i j → StartsBefore n ps
starts-before [] i j n l h = tt
starts-before (p ∷ ps) i j n l (begins, some, rest) = omega (arith, some, l, ascend_forward ps p.span.end j rest)

value-starts : (v : ParsedValue) (text : List ℕ) (limit d i j : ℕ) → Spells v text limit d i j → i ≤ (parsed_span v).start
value-starts (parsed k span) text limit d i j h = (value_lies (parsed k span) text limit d i j h).0.0

keys-first : (es earlier : List ParsedAssignment) (text : List ℕ) (limit i j : ℕ) → AssignmentsWith SpellsScalar es earlier text limit i j → AllByRecursion IsKeyFirst es
keys-first [] earlier text limit i j h = tt
keys-first (e ∷ es) earlier text limit i j (m, n, k, a, t, clear, gap, rest) =
    let v = value-starts e.value text limit _ a.from m a.spelled in
    (starts-before e.parts i a.key_end (parsed_span e.value).start (omega (arith, v, a.sign.before.forward, a.sign.after.forward)) (dotted_ascend e.parts text i a.key_end a.key).0, keys-first es _ text limit k j rest)

-- ---- claims

abbrev IsLatePlace : Place → Type 0
IsLatePlace x = IfSome x.key_span (λ k. k.start ≤ x.span.start)

-- on a path with one key
abbrev IsLateClaim : Claim → Type 0
IsLateClaim c = (name : List ℕ) → c.path ≡ key name ∷ [] → IsLatePlace c.place

abbrev IsBelow : Claim → Type 0
IsBelow c = c.path ≡ [] → ⊥

below-key : (p : Path) (s : Step) → p ++ (s ∷ []) ≡ [] → ⊥
below-key p s h = grind (arith, nat_tests, common_steps)

late-under : (s : Step) (cs : Claims) → Each IsBelow cs → Each IsLateClaim (under s cs)
unfolding under
late-under s no_claims h = tt
late-under s (claimed c cs) h = (λ name is. absurd (h.0 (grind (arith, nat_tests, common_steps))), late-under s cs h.1)
late-under s (scope inner cs) h = (late-under s inner h.0, late-under s cs h.1)

value-below : (v : ParsedValue) (p : Path) → Each IsBelow (value_claims v p)
value-below = value-each IsBelow (λ p k v. below-key p (key k.name)) (λ p k v. below-key p (key k.name)) (λ p i v. below-key p (position i))

late-key : (parts : List SimpleKey) (v : ParsedValue) → StartsBefore (parsed_span v).start parts → Each IsLateClaim (key_claims [] parts v (value_claims v))
unfolding key_claims
late-key [] v h = tt
late-key (k ∷ []) v h = (λ name is. h, subst (Each IsLateClaim) (sym (value_claims-under v (key k.name) [])) (late-under (key k.name) (value_claims v []) (value-below v [])))
late-key (k ∷ l ∷ more) v h = (
  λ name is. h,
  subst (Each IsLateClaim) (sym (key_claims-under (key k.name) [] (l ∷ more) v (value_claims v) (λ s p. value_claims-under v s p)))
      (late-under (key k.name) (key_claims [] (l ∷ more) v (value_claims v))
      (key-each IsBelow (λ p k v. below-key p (key k.name)) (λ p k v. below-key p (key k.name)) (λ p i v. below-key p (position i)) [] (l ∷ more) v (value_claims v) (value-below v))),
)

late-assignments : (es : List ParsedAssignment) → AllByRecursion IsKeyFirst es → Each IsLateClaim (assignments_claims es [])
unfolding assignments_claims
late-assignments [] h = tt
late-assignments (e ∷ es) h = each-followed IsLateClaim (assignment_claims e []) (assignments_claims es []) (late-key e.parts e.value h.0) (late-assignments es h.1)

-- ---- what they show

abbrev ShowsLate : Option Decided → Type 0
ShowsLate o = IfSome o (λ d. IsLatePlace d.place)

late-decide : (o : Option Decided) (c : Claim) → ShowsLate o → IsLatePlace c.place → ShowsLate (decide o (decided c))
late-decide None c h k = k
late-decide (Some d) c h k = grind (arith, nat_tests, common_steps)

late-change : (st : CellMap) (c : Claim) (name : List ℕ) → IsLateClaim c → ShowsLate (st (key name ∷ [])).shown → ShowsLate (change st c.path (with_inner c) (key name ∷ [])).shown
unfolding change
late-change st c name h k = elim (cases_Bool (same_path c.path (key name ∷ []))) [
  | inl same ↦ rw same (late-decide (st (key name ∷ [])).shown c k (h name (same_path-eq c.path (key name ∷ []) same)))
  | inr off ↦ rw off k
]

late-shown : (st : CellMap) (cs : Claims) (name : List ℕ) → Each IsLateClaim cs → ShowsLate (st (key name ∷ [])).shown → ShowsLate (show_all st cs (key name ∷ [])).shown
unfolding show_all
late-shown st no_claims name h k = k
late-shown st (claimed c cs) name h k = late-shown (change st c.path (with_inner c)) cs name h.1 (late-change st c name h.0 k)
late-shown st (scope inner cs) name h k = late-shown (show_all st inner) cs name h.1 (late-shown st inner name h.0 k)

pub late-entries : (text : List ℕ) (limit from next : ℕ) (es : List ParsedAssignment) (t : BTreeMap Key Value) → SpellsLines es text limit from next → ScopeGives (Ok t) (λ t. inner_view (table_inner t)) (assignments_claims es [])
    → (name : List ℕ) (x : Key × Value) → lookup_entry (is_named name) t.entries ≡ Some x → IsLate x
late-entries text limit from next es t spelled gives name x is =
    let cs = assignments_claims es [] in
    let late : ShowsLate (show_all no_cells cs (key name ∷ [])).shown = late-shown no_cells cs name (late-assignments es (keys-first es [] text limit spelled.0 next spelled.2)) tt in
    let below : value_shows None (node (table (members_view t.entries)) (record { start = 0; end = 0 })) (key name ∷ []) ≡ (show_all no_cells cs (key name ∷ [])).shown = rw (inner_view-Table t) at (gives.1.0 (key name) []) in
    let found : entry_at name (members_view t.entries) ≡ Some (Some x.0.span, view x.1) = sym (entry_at-lookup name t.entries) ∙ ap (option_map (λ e. (Some e.0.span, view e.1))) is in
    let shown : ShowsLate (Some (plain (tree_place (Some x.0.span, view x.1)))) = subst ShowsLate (sym below ∙ ap (λ o. option_map (λ m. plain (tree_place m)) (option_and_then (reached []) o)) found) late in
    subst (λ (span : Span). x.0.span.start ≤ span.start) (ap span_of (view_is x.1)) shown
