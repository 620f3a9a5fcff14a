-- What a helper over a table reads is what the flat document has there.
use Rattle.toml_span_lex.proofs.Common.{◌≡◌, ◌↔◌, ℕ, Bool, true, false, cond, List, [], ◌∷◌, ◌++◌, Option, Some, None, option_map, Result, Ok, Err, IsOk, MatchOption, refl, sym, ap, ◌∙◌, subst, inl, inr, bytes_eq, AllocError, cases_Bool, arith, nat_tests, common_steps}
use Rattle.toml_span_lex.specs.declared.span.Span.{Span}
use Rattle.toml_span_lex.specs.declared.stop.Stop.{Stop}
use Rattle.toml_span_lex.specs.declared.stop.Stop.TheVariants as stop
use Rattle.toml_span_tree.specs.declared.error.Error.{Error}
use Rattle.toml_span_tree.specs.Error.{ErrorContent}
use Rattle.toml_span_tree.specs.Node.{Node, node, table, Members, no_members, member, entry_at}
use Rattle.toml_span_tree.specs.Path.{Path, key, Place, shape_table, place_of}
use Rattle.toml_span.specs.Flat.{ShowsExactly}
use Rattle.toml_span.specs.Ordered.{EachName, MembersOrdered}
use Rattle.toml_span_tree.specs.Errors.{Errors}
use Rattle.toml_span_read.proofs.PathLemmas.{same_step-self}
use Rattle.toml_span_tree.specs.Value.{is_filled}
use Rattle.toml_span_typed.specs.declared.de_helpers.table_helper.TableHelper.{TableHelper}
use Rattle.toml_span_typed.specs.declared.de_helpers.table_helper.Unfinished.{Unfinished}
use Rattle.toml_span_typed.specs.declared.de_helpers.table_helper.Unfinished.TheVariants as unfinished
use Rattle.toml_span_typed.specs.TableHelper.{State, OpensTable, Requires, Tries, Refuses, AfterAllocError, found, fresh, noted, unexpected_entries, where_filled, without}
use Rattle.toml_span_laws.specs.Document.{subtree, IsValueOf}
use Rattle.toml_span_laws.specs.Helpers.{hide, except, IsOver, table_of, RequiresAt, TriesAt, EndsWith, HasNoKeyBut}
use Rattle.toml_span.proofs.Ordered.{same-name, first-entry, later-entry}
use Rattle.toml_span_laws.proofs.OneTree.{At, shown, not-again}
use Rattle.toml_span_laws.proofs.Pointed.{part-value, node-reached}

-- ---- the entries without those of one name

turned : (a b : List ℕ) → bytes_eq a b ≡ false → bytes_eq b a ≡ false
turned a b h = grind (arith, nat_tests, common_steps, same-name b a, same_step-self (key a))

entry-without : (name k : List ℕ) (ms : Members) → MembersOrdered ms → entry_at k (without name ms) ≡ cond (bytes_eq name k) None (entry_at k ms)
entry-without name k no_members h = grind (arith, nat_tests, common_steps)
entry-without name k (member other at n ms) h = elim (cases_Bool (bytes_eq name other)) [
  | inl here ↦ rw here (grind (arith, nat_tests, common_steps, later-entry k other at n ms, not-again other at n ms h, same-name name k, same-name name other here, turned name k))
  | inr there ↦ rw there (grind (arith, nat_tests, common_steps, same-name k other, entry-without name k ms h.2))
]

each-without : (P : List ℕ → Type 0) (name : List ℕ) (ms : Members) → EachName P ms → EachName P (without name ms)
each-without P name no_members h = tt
each-without P name (member other at n ms) h = grind (arith, nat_tests, common_steps, each-without P name ms h.1)

ordered-without : (name : List ℕ) (ms : Members) → MembersOrdered ms → MembersOrdered (without name ms)
ordered-without name no_members h = tt
ordered-without name (member other at n ms) h = grind (arith, nat_tests, common_steps, ordered-without name ms h.2, each-without)

hidden : (b : Bool) (o : Option At) (p : Path) (t : Option Place) → shown o p ≡ t → shown (cond b None o) p ≡ cond b None t
hidden b o p t is = grind (arith, nat_tests, common_steps)

shows-without : (name : List ℕ) (ms : Members) (at : Span) (places : Path → Option Place) → MembersOrdered ms → ShowsExactly (node (table ms) at) places → ShowsExactly (node (table (without name ms)) at) (hide name places)
shows-without name ms at places ordered shows = grind (arith, nat_tests, common_steps, entry-without, hidden, shown)

except-more : (names : List (List ℕ)) (name : List ℕ) (places : Path → Option Place) (p : Path) → except (names ++ name ∷ []) places p ≡ hide name (except names places) p
except-more [] name places p = refl
except-more (a ∷ names) name places p = except-more names name (hide a places) p

-- ---- the helper

over-noted : (places : Path → Option Place) (name : List ℕ) (s : State) → IsOver places s → IsOver places (noted name s)
over-noted places name s h = grind (arith, nat_tests, common_steps, except-more, ordered-without, shows-without)

found-value : (places : Path → Option Place) (name : List ℕ) (s : State) (value : Node) → IsOver places s → found name s ≡ Some value → IsValueOf (subtree (except s.asked places) (key name ∷ [])) value
found-value places name s value h is =
    grind (arith, nat_tests, common_steps, node-reached (entry_at name s.members) value is, part-value (except s.asked places) (table_of s) (key name ∷ []))

pub opens-over : (places : Path → Option Place) (m : Node) (s : State) → IsValueOf places m → OpensTable m (Ok s) → IsOver places s × (s.asked ≡ []) × (s.errors ≡ [])
opens-over places m s h is = grind (arith, nat_tests, common_steps)

pub opens-some : (places : Path → Option Place) (m : Node) → IsValueOf places m → ((s : State) × OpensTable m (Ok s)) ↔ (option_map (λ x. x.shape) (places []) ≡ Some shape_table)
opens-some places (node (table ms) at) h = (λ opened. sym (ap (option_map (λ x. x.shape)) (h.1 [])), λ is. (fresh ms at, refl))
opens-some places (node k at) h = (λ opened. absurd (let is = opened.1 in cc), λ is. absurd (let here = ap (option_map (λ x. x.shape)) (h.1 []) ∙ is in cc))

-- ---- reads

-- what is found under a name is at that key
found-there : (o : Option At) (t : Option Place) (A : Type 0) (B : Node → Type 0) (C : Place → Type 0) → shown o [] ≡ t → MatchOption (option_map (λ e. e.1) o) A B
    → ((n : Node) (x : Place) → option_map (λ e. e.1) o ≡ Some n → B n → C x) → MatchOption t A C
found-there o t A B C is h f = grind (arith, nat_tests, common_steps)

either : (o : Option Node) (A : Type 0) (B : Node → Type 0) (C : Type 0) → MatchOption o A B → (A → C) → ((n : Node) → B n → C) → C
either o A B C h f g = grind (arith, nat_tests, common_steps)

pub required-at : {T : Type 0} (reads : Node → Result T Errors → Node → Type 0) (places : Path → Option Place) (name : List ℕ) (before after : State) (answer : Result T (Stop Error)) → IsOver places before
    → Requires reads name before answer after → RequiresAt reads name (except before.asked places) before answer after
required-at reads places name before after (Ok x) h (value, left, is, read, noted) = ((value, left, found-value places name before value h is, read), noted)
required-at reads places name before after (Err (stop.Fault error)) h answer =
    found-there (entry_at name before.members) (except before.asked places (key name ∷ [])) _ _ _ (h.1 (key name ∷ [])) answer
    (λ n x is b. (b.0, (n, b.1, found-value places name before n h is, b.2), b.3, b.4))
required-at reads places name before after (Err (stop.Memory error)) h answer = answer

after_alloc_error-over : (places : Path → Option Place) (name : List ℕ) (before after : State) → IsOver places before → AfterAllocError name before after → IsOver places after
after_alloc_error-over places name before after h (inl same) = subst (IsOver places) (sym same) h
after_alloc_error-over places name before after h (inr noted) = subst (IsOver places) (sym noted) (over-noted places name before h)

pub required-over : {T : Type 0} (reads : Node → Result T Errors → Node → Type 0) (places : Path → Option Place) (name : List ℕ) (before after : State) (answer : Result T (Stop Error)) → IsOver places before
    → Requires reads name before answer after → IsOver places after
required-over reads places name before after (Ok x) h (value, left, is, read, noted) = subst (IsOver places) (sym noted) (over-noted places name before h)
required-over reads places name before after (Err (stop.Fault error)) h answer =
    grind (arith, nat_tests, common_steps, either (found name before), over-noted places name before h)
required-over reads places name before after (Err (stop.Memory error)) h answer = after_alloc_error-over places name before after h answer

pub tried-at : {T : Type 0} (reads : Node → Result T Errors → Node → Type 0) (places : Path → Option Place) (name : List ℕ) (before after : State) (answer : Result (Option T) AllocError) → IsOver places before
    → Tries reads name before answer after → TriesAt reads name (except before.asked places) before answer after
tried-at reads places name before after (Ok (Some x)) h (value, left, is, read, noted) = ((value, left, found-value places name before value h is, read), noted)
tried-at reads places name before after (Ok None) h answer =
    found-there (entry_at name before.members) (except before.asked places (key name ∷ [])) _ _ _ (h.1 (key name ∷ [])) answer
    (λ n x is b. (b.0, (n, b.1, found-value places name before n h is, b.2), b.3))
tried-at reads places name before after (Err error) h answer = answer

pub tried-over : {T : Type 0} (reads : Node → Result T Errors → Node → Type 0) (places : Path → Option Place) (name : List ℕ) (before after : State) (answer : Result (Option T) AllocError) → IsOver places before
    → Tries reads name before answer after → IsOver places after
tried-over reads places name before after (Ok (Some x)) h (value, left, is, read, noted) = subst (IsOver places) (sym noted) (over-noted places name before h)
tried-over reads places name before after (Ok None) h answer = grind (arith, nat_tests, common_steps, either (found name before), over-noted places name before h)
tried-over reads places name before after (Err error) h answer = after_alloc_error-over places name before after h answer

-- ---- the end

first-left : (other : List ℕ) (s : Span) (n : Node) (ms : Members) (at : Span) (places : Path → Option Place) → ShowsExactly (node (table (member other s n ms)) at) places
    → places (key other ∷ []) ≡ Some (place_of (Some s, n))
first-left other s n ms at places shows = sym (shows (key other ∷ [])) ∙ ap (λ o. shown o []) (first-entry other s n ms)

left-filled : (ms : Members) (at : Span) (places : Path → Option Place) → ShowsExactly (node (table ms) at) places → is_filled ms ≡ true → (name : List ℕ) × (place : Place) × (places (key name ∷ []) ≡ Some place)
left-filled no_members at places shows h = cc
left-filled (member other s n ms) at places shows h = (other, place_of (Some s, n), first-left other s n ms at places shows)

all-reported : (ms : Members) (at : Span) (places : Path → Option Place) (faults : List ErrorContent) → ShowsExactly (node (table ms) at) places → ((name : List ℕ) → places (key name ∷ []) ≡ None) → where_filled ms faults ≡ []
all-reported no_members at places faults shows none = refl
all-reported (member other s n ms) at places faults shows none = grind (arith, nat_tests, common_steps, first-left other s n ms at places shows)

pub ends-ok : (places : Path → Option Place) (s : State) (answer : Result (Unit {0}) Unfinished) → IsOver places s → Refuses s answer
    → IsOk answer ↔ ((s.errors ≡ []) × HasNoKeyBut s.asked places)
ends-ok places s (Ok done) h refuses = grind (arith, nat_tests, common_steps)
ends-ok places s (Err (unfinished.Faults faults)) h refuses =
    grind (arith, nat_tests, common_steps, all-reported s.members s.span (except s.asked places) (unexpected_entries s ∷ []) h.1)
ends-ok places s (Err (unfinished.Memory helper)) h refuses =
    grind (arith, nat_tests, common_steps, left-filled s.members s.span (except s.asked places) h.1 refuses.0)

pub ends-faults : (places : Path → Option Place) (s : State) (faults : Errors) → IsOver places s → Refuses s (Err (unfinished.Faults faults)) → EndsWith places s faults
ends-faults places s faults h refuses = (s.members, h, sym refuses)

pub ends-memory : (places : Path → Option Place) (s : State) (helper : TableHelper) → IsOver places s → Refuses s (Err (unfinished.Memory helper)) → HasNoKeyBut s.asked places → ⊥
ends-memory places s helper h refuses none = grind (arith, nat_tests, common_steps, left-filled s.members s.span (except s.asked places) h.1 refuses.0)
