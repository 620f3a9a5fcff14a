-- The report that a value is missing, piece by piece.
use Rattle.toml_span_lex.proofs.Common.{◌≡◌, ◌≤◌, ◌-◌, suc, ℕ, Bool, false, List, [], ◌∷◌, ◌++◌, map, take, drop, get_or, length, codes, Option, Some, None, Result, IfOk, refl, ap, ◌∙◌, subst, sym, cow_str_bytes, unwrap_or, option_map, Global, AllocError, drop_more, take_rest}
use Rattle.std.specs.Prelude.{is_none}
use Rattle.std.specs.declared.borrow.CowStr.{CowStr}
use Rattle.toml_span_lex.specs.declared.span.Span.{Span}
use Rattle.toml_span_report.specs.Names.{nearest}
use Rattle.toml_span_report.specs.Report.{ReportContent, report_content, with_help}
use Rattle.toml_span_report.specs.declared.report.Report.{Report}
use Rattle.toml_span_tree.specs.Node.{Node, Inner, Items, Members}
use Rattle.toml_span_tree.specs.Value.{inner_of, items_in, items_view, members_in}
use Rattle.toml_span_tree.specs.code.Pointer.{untaken_entry}
use Rattle.toml_span_tree.specs.declared.value.Value.{Value}
use Rattle.toml_span_check.specs.Numbers.{number_of}
use Rattle.toml_span_check.specs.Missing.{count_items, explained, lacks, lacks_in, mark_of, missing, names_of, near, nothing_there, stopped, suggested, with_mark, with_meant, with_step}

-- the number of elements of an array as plain data
pub count_is : (es : List Value) → count_items (items_view es) ≡ length es
count_is [] = refl
count_is (e ∷ es) = ap suc (count_is es)

-- an array without the element
pub lacks-element : (i : Inner) (es : List Value) (is_root : Bool) (segment out : List ℕ) (n : ℕ) → is_root ≡ false → items_in i ≡ Some (items_view es) →
    n ≡ length es → out ≡ codes "this array has " ++ number_of n (codes " element") → out ≡ lacks is_root i segment
lacks-element i es is_root segment out n inner some count is =
    subst (λ (o : Bool). out ≡ lacks o i segment) (sym inner)
    (subst (λ (o : Option Items). out ≡ lacks_in o i segment) (sym some)
    (subst (λ (k : ℕ). out ≡ codes "this array has " ++ number_of k (codes " element")) (count ∙ sym (count_is es)) is))

-- ---- the way

abbrev pub after : List (CowStr Global) → List (CowStr Global)
after xs = take (length xs - 1) (drop 1 xs)

first-and-more : (xs : List (CowStr Global)) (x d : CowStr Global) → 1 ≤ length xs → x ≡ get_or xs 0 d →
    map cow_str_bytes xs ≡ cow_str_bytes x ∷ map cow_str_bytes (after xs)
first-and-more xs x d some first =
    ap (map cow_str_bytes) (drop_more xs 0 d some ∙ ap (λ (y : CowStr Global). y ∷ drop 1 xs) (sym first))
    ∙ ap (λ (l : List (CowStr Global)). cow_str_bytes x ∷ map cow_str_bytes l) (sym (take_rest xs 1))

pub explains-end : (r : Result Report AllocError) (rc : ReportContent) (path : List ℕ) (mark : Option Span) (xs : List (CowStr Global)) (x d : CowStr Global) (n : Node) (segment : List ℕ) →
    1 ≤ length xs → x ≡ get_or xs 0 d → segment ≡ cow_str_bytes x → untaken_entry segment n ≡ None →
    IfOk r (λ m. report_content m ≡ stopped rc path mark (inner_of n) segment) →
    IfOk r (λ m. report_content m ≡ explained rc path mark (map cow_str_bytes xs) n)
explains-end r rc path mark xs x d n segment some first is none h =
    let all = first-and-more xs x d some first ∙ ap (λ s. s ∷ map cow_str_bytes (after xs)) (sym is) in
    subst (λ (ss : List (List ℕ)). IfOk r (λ m. report_content m ≡ explained rc path mark ss n)) (sym all)
    (subst (λ (o : Option Node). IfOk r (λ m. report_content m ≡ unwrap_or (option_map (λ next. explained rc (with_step (inner_of n) path segment)
    (Some (mark_of (inner_of n) segment next)) (map cow_str_bytes (after xs)) next) o) (stopped rc path mark (inner_of n) segment))) (sym none) h)

pub explains-more : (r : Result Report AllocError) (rc : ReportContent) (path path' : List ℕ) (mark mark' : Option Span) (xs rest : List (CowStr Global)) (x d : CowStr Global) (n next : Node) (segment : List ℕ) →
    1 ≤ length xs → x ≡ get_or xs 0 d → segment ≡ cow_str_bytes x → untaken_entry segment n ≡ Some next → path' ≡ with_step (inner_of n) path segment →
    mark' ≡ Some (mark_of (inner_of n) segment next) → rest ≡ after xs →
    IfOk r (λ m. report_content m ≡ explained rc path' mark' (map cow_str_bytes rest) next) →
    IfOk r (λ m. report_content m ≡ explained rc path mark (map cow_str_bytes xs) n)
explains-more r rc path path' mark mark' xs rest x d n next segment some first is found step marked left h =
    let all = first-and-more xs x d some first ∙ ap (λ s. s ∷ map cow_str_bytes (after xs)) (sym is) in
    let h1 = subst (λ (ys : List (CowStr Global)). IfOk r (λ m. report_content m ≡ explained rc path' mark' (map cow_str_bytes ys) next)) left h in
    let h2 = subst (λ (o : Option Span). IfOk r (λ m. report_content m ≡ explained rc path' o (map cow_str_bytes (after xs)) next)) marked h1 in
    let h3 = subst (λ (p : List ℕ). IfOk r (λ m. report_content m ≡ explained rc p (Some (mark_of (inner_of n) segment next)) (map cow_str_bytes (after xs)) next)) step h2 in
    subst (λ (ss : List (List ℕ)). IfOk r (λ m. report_content m ≡ explained rc path mark ss n)) (sym all)
    (subst (λ (o : Option Node). IfOk r (λ m. report_content m ≡ unwrap_or (option_map (λ next. explained rc (with_step (inner_of n) path segment)
    (Some (mark_of (inner_of n) segment next)) (map cow_str_bytes (after xs)) next) o) (stopped rc path mark (inner_of n) segment))) (sym found) h3)

-- a key with a similar name
pub suggests : (r : Result Report AllocError) (rc : ReportContent) (path : List ℕ) (i : Inner) (name meant help : List ℕ) (ms : Members) →
    members_in i ≡ Some ms → nearest name (names_of ms) ≡ Some meant → help ≡ codes "did you mean `" ++ with_step i path meant ++ codes "`?" →
    IfOk r (λ made. report_content made ≡ with_help rc help) → IfOk r (λ made. report_content made ≡ suggested rc path i name)
suggests r rc path i name meant help ms members similar is h =
    subst (λ (o : Option Members). IfOk r (λ made. report_content made ≡ with_meant rc path i (near o name))) (sym members)
    (subst (λ (o : Option (List ℕ)). IfOk r (λ made. report_content made ≡ with_meant rc path i o)) (sym similar)
    (subst (λ (t : List ℕ). IfOk r (λ made. report_content made ≡ with_help rc t)) is h))

-- what is missing, with its mark
pub stops : (r : Result Report AllocError) (rc made : ReportContent) (path : List ℕ) (mark : Option Span) (i : Inner) (segment text : List ℕ) →
    text ≡ lacks (is_none mark) i segment → made ≡ with_mark rc mark text → IfOk r (λ x. report_content x ≡ suggested made path i segment) →
    IfOk r (λ x. report_content x ≡ stopped rc path mark i segment)
stops r rc made path mark i segment text is same h =
    subst (λ (t : List ℕ). IfOk r (λ x. report_content x ≡ suggested (with_mark rc mark t) path i segment)) is
    (subst (λ (m : ReportContent). IfOk r (λ x. report_content x ≡ suggested m path i segment)) same h)

-- the report about a path that can be read
pub misses : (r : Result Report AllocError) (rc : ReportContent) (pointer path : List ℕ) (o : Option (List (List ℕ))) (names : List (List ℕ)) (n : Node) →
    o ≡ Some names → path ≡ [] → rc ≡ nothing_there pointer → IfOk r (λ x. report_content x ≡ explained rc path None names n) →
    IfOk r (λ x. report_content x ≡ missing pointer o n)
misses r rc pointer path o names n some root is h =
    subst (λ (s : Option (List (List ℕ))). IfOk r (λ x. report_content x ≡ missing pointer s n)) (sym some)
    (subst (λ (p : List ℕ). IfOk r (λ x. report_content x ≡ explained (nothing_there pointer) p None names n)) root
    (subst (λ (c : ReportContent). IfOk r (λ x. report_content x ≡ explained c path None names n)) is h))
