-- What is stored of the earlier values.
use Rattle.toml_span_lex.proofs.Common.{common_steps, nat_tests, ◌≡◌, ℕ, ◌+◌, ◌<◌, ◌≤◌, List, [], ◌∷◌, ◌++◌, map, length, length-append, length-map, take, get_or, Option, Some, None, arith, refl, sym, ap, ◌∙◌, take-append-le, map_more, take-map, fold, if◌then◌else◌, pointwise, bytes_eq}
use Rattle.std.proofs.Math.Path.{fun_ext}
use Rattle.std.specs.Option.{option_or}
use Rattle.toml_span_lex.specs.declared.key.Key.{Key}
use Rattle.toml_span_lex.specs.declared.span.Span.{Span}
use Rattle.toml_span_read.specs.declared.earlier.Earlier.{Earlier}
use Rattle.toml_span_read.specs.declared.value.Assignment.{Assignment}
use Rattle.toml_span_read.specs.Data.{ParsedAssignment, parsed_assignment, SimpleKey, simple_key}
use Rattle.toml_span_read.specs.Earlier.{part_names, last_span, value_at, crossed, crossing}
use Rattle.toml_span_read.specs.code.Earlier.{Holds, holds, Puts, EachLonger, Knows}
use Rattle.toml_span_read.proofs.EarlierLemmas.{Path, same_path, crossed_none, clear_from}

-- ---- one more assignment

last_of : (s : Span) (inner : List SimpleKey) (last : SimpleKey) → fold (λ span (p : SimpleKey). p.span) s (inner ++ (last ∷ [])) ≡ last.span
last_of s [] last = refl
last_of s (p ∷ inner) last = last_of p.span inner last

value_more : (assignments : List ParsedAssignment) (e : ParsedAssignment) (names : Path)
    → value_at (assignments ++ (e ∷ [])) names ≡ option_or (value_at assignments names) (if pointwise bytes_eq (part_names e.parts) names then Some (last_span e.parts) else None)
unfolding value_at
value_more [] e names = grind (arith, nat_tests, common_steps)
value_more (x ∷ xs) e names = grind (arith, nat_tests, common_steps, value_more xs e names)

pub none-before : (names : Path) (es : List ParsedAssignment) (next : ParsedAssignment) → value_at (es ++ (next ∷ [])) names ≡ None → value_at es names ≡ None
none-before names es next none = grind (arith, nat_tests, common_steps, value_more es next names)

pub none-last : (names : Path) (es : List ParsedAssignment) (next : ParsedAssignment) → value_at (es ++ (next ∷ [])) names ≡ None → part_names next.parts ≡ names → ⊥
none-last names es next none is = grind (arith, nat_tests, common_steps, value_more es next names, same_path (part_names next.parts) names)

-- what the tree stores once another assignment is inserted
pub tells_more : (assignments : List ParsedAssignment) (e : ParsedAssignment) (inner : List SimpleKey) (last : SimpleKey) (f g : Holds) → e.parts ≡ inner ++ (last ∷ [])
    → f ≡ value_at assignments → Puts (part_names (inner ++ (last ∷ []))) last.span f g → g ≡ value_at (assignments ++ (e ∷ []))
tells_more assignments e inner last f g key tells puts = fun_ext (λ names. grind (arith, nat_tests, common_steps, value_more assignments e names, same_path (part_names e.parts) names, last_of, puts.1 names))

-- ---- short keys

none_shorter : (n : ℕ) (names : Path) (assignments : List ParsedAssignment) → EachLonger n assignments → length names ≤ n → value_at assignments names ≡ None
unfolding value_at
none_shorter n names [] h short = refl
none_shorter n names (e ∷ es) h short = grind (arith, nat_tests, common_steps, length-map, none_shorter n names es, same_path (part_names e.parts) names)

-- a key with no more inner parts than any other goes through none of their values
pub clear_short : (assignments : List ParsedAssignment) (next : ParsedAssignment) (inner : List SimpleKey) (last : SimpleKey) (n : ℕ) → next.parts ≡ inner ++ (last ∷ []) → EachLonger n assignments → length inner ≤ n → crossing assignments next ≡ None
clear_short assignments next inner last n key long short =
    clear_from assignments next (crossed_none (value_at assignments) next.parts n (λ names l. none_shorter n names assignments long l) (rw key (omega (arith, length-append inner (last ∷ [])))))

longer_more : (n : ℕ) (assignments : List ParsedAssignment) (e : ParsedAssignment) → EachLonger n assignments → n < length e.parts → EachLonger n (assignments ++ (e ∷ []))
longer_more n [] e h long = (long, tt)
longer_more n (x ∷ xs) e h long = (h.0, longer_more n xs e h.1 long)

longer_than : (n m : ℕ) (assignments : List ParsedAssignment) → m ≤ n → EachLonger n assignments → EachLonger m assignments
longer_than n m [] le h = tt
longer_than n m (x ∷ xs) le h = (omega (arith, h.0), longer_than n m xs le h.1)

-- ---- what is stored

-- one more key is counted
pub knows_more : (old new : Earlier) (assignments : List ParsedAssignment) (next : ParsedAssignment) (inner : List SimpleKey) (last : SimpleKey) → next.parts ≡ inner ++ (last ∷ [])
    → Knows old assignments → new.known ≡ old.known → holds new.tree ≡ holds old.tree → new.fewest ≤ old.fewest → new.fewest ≤ length inner → Knows new (assignments ++ (next ∷ []))
knows_more old new assignments next inner last key h known tree fewer short = grind (arith, nat_tests, common_steps, longer_more, longer_than, take-append-le)

-- ---- the loop over the assignments

pub tells_init : (old : Earlier) (values : List Assignment) → Knows old (map parsed_assignment values) → holds old.tree ≡ value_at (map parsed_assignment (take old.known values))
tells_init old values h = h.tree ∙ ap value_at (take-map parsed_assignment old.known values)

pub tells_next : (values : List Assignment) (i : ℕ) (v : Assignment) (inner keys : List Key) (last : Key) (f g : Holds) → i < length values → v ≡ get_or values i v → inner ≡ keys
    → map simple_key inner ++ (simple_key last ∷ []) ≡ (parsed_assignment v).parts
    → f ≡ value_at (map parsed_assignment (take i values)) → Puts (part_names (map simple_key keys ++ (simple_key last ∷ []))) last.span f g
    → g ≡ value_at (map parsed_assignment (take (i + 1) values))
tells_next values i v inner keys last f g below at same key tells puts =
    let more : map parsed_assignment (take (i + 1) values) ≡ map parsed_assignment (take i values) ++ (parsed_assignment v ∷ []) = grind (arith, map_more) in
    rw more (tells_more (map parsed_assignment (take i values)) (parsed_assignment v) (map simple_key inner) (simple_key last) f g (sym key) tells (rw (← same) at puts))

-- once all are in the tree, it stores all of them
pub tells_all : (new : Earlier) (values : List Assignment) → Knows new (map parsed_assignment values) → new.known ≡ length values → holds new.tree ≡ value_at (map parsed_assignment values)
tells_all new values h known = grind (arith, nat_tests, common_steps)

-- the tree knows where a key goes through an earlier value
pub crossed_found : (assignments : List ParsedAssignment) (next : ParsedAssignment) (f : Holds) (xs ys : List Key) (last : SimpleKey) (r : Option (ℕ × Span)) → map simple_key xs ++ (last ∷ []) ≡ next.parts → ys ≡ xs
    → f ≡ value_at assignments → r ≡ crossed f (map simple_key ys ++ (last ∷ [])) → crossed (value_at assignments) next.parts ≡ r
crossed_found assignments next f xs ys last r key same tells is = grind (arith, nat_tests, common_steps)
