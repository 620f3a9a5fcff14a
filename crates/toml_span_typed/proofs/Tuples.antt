-- Values that are not an array of two elements; and without errors, both elements were read.
use Rattle.toml_span_lex.proofs.Common.{common_steps, arith, ◌≡◌, ◌≢◌, ℕ, suc, List, [], ◌∷◌, ◌++◌, length, Option, Some, None, Result, Ok, Err, refl, ap, sym, subst, ◌∙◌, append-nil}
use Rattle.toml_span_lex.specs.declared.span.Span.{Span}
use Rattle.toml_span_lex.specs.declared.stop.Stop.{Stop}
use Rattle.toml_span_lex.specs.declared.stop.Stop.TheVariants as stop
use Rattle.toml_span_tree.specs.declared.value.Value.{Value}
use Rattle.toml_span_tree.specs.Error.{ErrorContent}
use Rattle.toml_span_tree.specs.Node.{Node, node, taken, scalar, array, table, item, no_items}
use Rattle.toml_span_tree.specs.Value.{items_view}
use Rattle.toml_span_tree.specs.Errors.{Errors, all, one}
use Rattle.toml_span_typed.specs.code.Arrays.{ReadsOrKeeps}
use Rattle.toml_span_typed.specs.Reads.{Answers, Taken, errors, nodes_of}
use Rattle.toml_span_typed.specs.Tuples.{IsReadAs, JoinsTwo, RefusesLength, StopsWith, holds_two, other_length, pair_reads}

count-of : (es : List Value) → length (nodes_of (items_view es)) ≡ length es
count-of [] = refl
count-of (e ∷ es) = ap suc (count-of es)

-- the error for an array of another length
pub refused_count : (n : ℕ) (es : List Value) (found : ℕ) (v : Node) (span : Span) (s : Stop Errors)
    → v ≡ node (array (items_view es)) span → found ≡ length es → found ≢ n → StopsWith (other_length n found span) s
    → RefusesLength n v s
refused_count n es found v span (stop.Fault faults) is count other refused =
    subst (λ w. RefusesLength n w (stop.Fault faults)) (sym is)
    (subst (λ k. (k ≢ n) × (faults ≡ one (other_length n k span))) (count ∙ sym (count-of es)) (other, refused))
refused_count n es found v span (stop.Memory e) is count other refused = tt

-- what is refused as no array of two elements is not read as one
pub two_refused : {A B : Type 0} (reads-a : Node → Result A Errors → Node → Type 0) (reads-b : Node → Result B Errors → Node → Type 0)
    (v w : Node) (s : Stop Errors) → RefusesLength 2 v s → Taken v w → Answers (pair_reads reads-a reads-b) Taken v (Err s) w
two_refused reads-a reads-b v w (stop.Memory e) refused gone = gone
two_refused reads-a reads-b (node taken span) w (stop.Fault faults) refused gone = (refused, gone)
two_refused reads-a reads-b (node (scalar s) span) w (stop.Fault faults) refused gone = (refused, gone)
two_refused reads-a reads-b (node (table ms) span) w (stop.Fault faults) refused gone = (refused, gone)
two_refused reads-a reads-b (node (array no_items) span) w (stop.Fault faults) refused gone = (refused, gone)
two_refused reads-a reads-b (node (array (item a no_items)) span) w (stop.Fault faults) refused gone = (refused, gone)
two_refused reads-a reads-b (node (array (item a (item b no_items))) span) w (stop.Fault faults) refused gone = elim (refused.0 refl) [ ]
two_refused reads-a reads-b (node (array (item a (item b (item c rest)))) span) w (stop.Fault faults) refused gone = (refused, gone)

-- the answer for one more element, and its errors
kept_answer : {T : Type 0} (reads : Node → Result T Errors → Node → Type 0) (v : Node) (x : Option T) (fs more : List ErrorContent)
    → ReadsOrKeeps reads v fs x more → (r : Result T Errors) × IsReadAs reads v r × (more ≡ fs ++ errors (r ∷ []))
kept_answer reads v (Some x) fs more into = (Ok x, into.0, into.1 ∙ sym (append-nil fs))
kept_answer reads v None fs more into = (Err into.0, into.1, into.2 ∙ ap (λ es. fs ++ es) (sym (append-nil (all into.0))))

joined_errors : {A B : Type 0} (r : Result A Errors) (s : Result B Errors) (faults : Errors)
    → errors (r ∷ []) ++ errors (s ∷ []) ≡ all faults → JoinsTwo r s (Err faults)
joined_errors (Ok x) (Ok y) faults is = let none = ap length is in grind (arith, common_steps)
joined_errors (Ok x) (Err e) faults is = is
joined_errors (Err d) s faults is = is

-- where errors are left, they are those of both
pub pair_failed : {A B : Type 0} (reads-a : Node → Result A Errors → Node → Type 0) (reads-b : Node → Result B Errors → Node → Type 0)
    (v w a b : Node) (span : Span) (x : Option A) (y : Option B) (none first both : List ErrorContent) (faults : Errors)
    → v ≡ holds_two a b span → Taken v w → none ≡ [] → ReadsOrKeeps reads-a a none x first → ReadsOrKeeps reads-b b first y both
    → both ≡ all faults → pair_reads reads-a reads-b v (Err faults) w
pair_failed reads-a reads-b v w a b span x y none first both faults holds gone bare ra rb is =
    let (r, read-r, refused-r) = kept_answer reads-a a x none first ra in
    let (s, read-s, refused-s) = kept_answer reads-b b y first both rb in
    let joined = sym (refused-s ∙ ap (λ fs. fs ++ errors (s ∷ [])) (refused-r ∙ ap (λ fs. fs ++ errors (r ∷ [])) bare)) ∙ is in
    subst (λ u. Taken u w → pair_reads reads-a reads-b u (Err faults) w) (sym holds)
    (λ left. (r, s, read-r, read-s, joined_errors r s faults joined, left)) gone
