-- In each table of a tree that was converted to pieces, every name is before all later ones.
use Rattle.toml_span_lex.proofs.Common.{◌≡◌, ℕ, ◌+◌, ◌<◌, List, [], ◌∷◌, ◌++◌, drop, map, length, get_or, subst, sym, inl, inr, cases_Bool, nat_lt, if◌then◌else◌, AllByRecursion, Bor, arith, nat_tests, common_steps}
use Rattle.toml_span_lex.specs.declared.key.Key.{Key}
use Rattle.toml_span_tree.specs.declared.value.Value.{Value}
use Rattle.toml_span_tree.specs.Order.{entry_of}
use Rattle.toml_span_tree.specs.Value.{view, items_view}
use Rattle.toml_span_tree.proofs.Values.{Entry}
use Rattle.toml_span.specs.Ordered.{IsOrdered, AreOrdered}
use Rattle.toml_span_serde.specs.Tasks.{AreTasksOrdered, IsTaskOrdered, put_by, sorted_by, by_start}
use Rattle.toml_span_serde.specs.declared.pieces.Task.{Task}

-- the values of these entries
abbrev pub AllOrdered : List Entry → Type 0
AllOrdered es = AllByRecursion (λ e. IsOrdered (view e.1)) es

-- one more task
split : (ts : List Task) (t : Task) → AreTasksOrdered (ts ++ (t ∷ [])) → AreTasksOrdered ts × IsTaskOrdered t
split [] t h = (tt, h.0)
split (u ∷ ts) t h = let rest = split ts t h.1 in ((h.0, rest.0), rest.1)

join : (ts : List Task) (t : Task) → AreTasksOrdered ts → IsTaskOrdered t → AreTasksOrdered (ts ++ (t ∷ []))
join [] t h one = (one, tt)
join (u ∷ ts) t h one = (h.0, join ts t h.1 one)

pub ordered-push : (ts us : List Task) (t : Task) → us ≡ ts ++ (t ∷ []) → AreTasksOrdered us → AreTasksOrdered ts × IsTaskOrdered t
ordered-push ts us t is h = split ts t (subst AreTasksOrdered is h)

pub ordered-pop : (ts us : List Task) (t : Task) → us ≡ ts ++ (t ∷ []) → AreTasksOrdered ts × IsTaskOrdered t → AreTasksOrdered us
ordered-pop ts us t is h = subst AreTasksOrdered (sym is) (join ts t h.0 h.1)

-- the elements, beginning at one
next-items : (i : ℕ) (es : List Value) (e : Value) → i < length es → get_or es i e ≡ e → drop i es ≡ e ∷ drop (i + 1) es
next-items i es e below here = grind (arith, nat_tests, common_steps)

pub elements-next : (i : ℕ) (es : List Value) (e : Value) → i < length es → get_or es i e ≡ e → IsOrdered (view e)
    → AreOrdered (items_view (drop (i + 1) es)) → AreOrdered (items_view (drop i es))
elements-next i es e below here one rest =
    subst (λ (vs : List Value). AreOrdered (items_view vs)) (sym (next-items i es e below here)) (one, rest)

abbrev pub Lent : Type 0
Lent = Bor Key × Bor Value

next-entries : (i : ℕ) (es : List Lent) (e : Lent) → i < length es → get_or es i e ≡ e → drop i es ≡ e ∷ drop (i + 1) es
next-entries i es e below here = grind (arith, nat_tests, common_steps)

pub entries-next : (i : ℕ) (es : List Lent) (e : Lent) → i < length es → get_or es i e ≡ e → IsOrdered (view e.1.now)
    → AllOrdered (map entry_of (drop (i + 1) es)) → AllOrdered (map entry_of (drop i es))
entries-next i es e below here one rest =
    subst (λ (vs : List Lent). AllOrdered (map entry_of vs)) (sym (next-entries i es e below here)) (one, rest)

-- what holds for the sorted entries holds for the entries
put-all : (P : Entry → Type 0) (n : Entry → ℕ) (e : Entry) (es : List Entry) → AllByRecursion P (put_by n e es) → P e × AllByRecursion P es
put-all P n e [] h = (h.0, tt)
put-all P n e (x ∷ xs) h = elim (cases_Bool (nat_lt (n x) (n e))) [
  | inl before ↦
      let g = subst (λ b. AllByRecursion P (if b then x ∷ put_by n e xs else e ∷ x ∷ xs)) before h in
      let rest = put-all P n e xs g.1 in (rest.0, (g.0, rest.1))
  | inr after ↦ subst (λ b. AllByRecursion P (if b then x ∷ put_by n e xs else e ∷ x ∷ xs)) after h
]

sorted-all : (P : Entry → Type 0) (n : Entry → ℕ) (es : List Entry) → AllByRecursion P (sorted_by n es) → AllByRecursion P es
sorted-all P n [] h = tt
sorted-all P n (e ∷ es) h = let both = put-all P n e (sorted_by n es) h in (both.0, sorted-all P n es both.1)

pub by-start-all : (es : List Entry) → AllOrdered (by_start es) → AllOrdered es
by-start-all es h = sorted-all (λ e. IsOrdered (view e.1)) (λ e. e.0.span.start) es h
