-- A verdict does not change if more subschemas may nest.
use Rattle.std.proofs.Common.{◌≡◌, ℕ, ◌+◌, zero, suc, Bool, true, false, not, ◌&&◌, ◌==◌, nat_le, List, [], ◌∷◌, Option, Some, None, option_map, option_and_then, ap, ◌∙◌, refl, arith, if◌then◌else◌, add-zero}
use Rattle.toml_span_tree.specs.Node.{Node, Inner, taken, scalar, array, table}
use Rattle.toml_span_tree.specs.Value.{inner_of}
use Rattle.toml_span_schema.specs.Applied.{Applied, applied}
use Rattle.toml_span_schema.specs.Parts.{Part, entry, element, whole, value_of, kind_in, names_of}
use Rattle.toml_span_schema.specs.Valid.{Verdict, Judge, allows, allows_other, any, both, contains_enough, count, counted, covers, either, every, is_evaluated_element, judged, keywords, optional, passes, reaches, unevaluated_allow, valid}
use Rattle.toml_span_schema.specs.declared.keyword.Keyword.{Keyword}
use Rattle.toml_span_schema.specs.declared.keyword.Keyword.TheVariants as keyword
use Rattle.toml_span_schema.specs.declared.keyword.Placed.{Placed}
use Rattle.toml_span_schema.specs.declared.schema.Schema.{Schema}

-- what is known stays known
abbrev pub Le : {A : Type 0} → Option A → Option A → Type 0
Le {A = A} v w = (b : A) → v ≡ Some b → w ≡ Some b

both_le : (v v' w w' : Verdict) → Le v v' → Le w w' → Le (both v w) (both v' w')
both_le None v' w w' p q = λ b e. cc
both_le (Some false) v' w w' p q = λ b e. ap (λ x. both x w') (p false refl) ∙ e
both_le (Some true) v' w w' p q = λ b e. ap (λ x. both x w') (p true refl) ∙ q b e

either_le : (v v' w w' : Verdict) → Le v v' → Le w w' → Le (either v w) (either v' w')
either_le None v' w w' p q = λ b e. cc
either_le (Some true) v' w w' p q = λ b e. ap (λ x. either x w') (p true refl) ∙ e
either_le (Some false) v' w w' p q = λ b e. ap (λ x. either x w') (p false refl) ∙ q b e

counted_le : (v v' : Verdict) (m m' n n' : Option ℕ) → Le v v' → Le m m' → Le n n' → Le (counted v m n) (counted v' m' n')
counted_le None v' m m' n n' p q r = λ b e. cc
counted_le (Some true) v' m m' n n' p q r = λ b e. ap (λ x. counted x m' n') (p true refl) ∙ q b e
counted_le (Some false) v' m m' n n' p q r = λ b e. ap (λ x. counted x m' n') (p false refl) ∙ r b e

every_le : {A : Type 0} (f g : A → Verdict) → ((x : A) → Le (f x) (g x)) → (xs : List A) → Le (every f xs) (every g xs)
every_le f g h [] = λ b e. e
every_le f g h (x ∷ xs) = both_le (f x) (g x) (every f xs) (every g xs) (h x) (every_le f g h xs)

any_le : {A : Type 0} (f g : A → Verdict) → ((x : A) → Le (f x) (g x)) → (xs : List A) → Le (any f xs) (any g xs)
any_le f g h [] = λ b e. e
any_le f g h (x ∷ xs) = either_le (f x) (g x) (any f xs) (any g xs) (h x) (any_le f g h xs)

count_le : {A : Type 0} (f g : A → Verdict) → ((x : A) → Le (f x) (g x)) → (xs : List A) (n : ℕ) → Le (count f n xs) (count g n xs)
count_le f g h [] n = λ b e. e
count_le f g h (x ∷ xs) n =
    counted_le (f x) (g x) (count f (n + 1) xs) (count g (n + 1) xs) (count f n xs) (count g n xs) (h x) (count_le f g h xs (n + 1)) (count_le f g h xs n)

map_le : {A B : Type 0} (f : A → B) (v w : Option A) → Le v w → Le (option_map f v) (option_map f w)
map_le f None w p = λ b e. cc
map_le f (Some x) w p = λ b e. ap (option_map f) (p x refl) ∙ e

then_le : (f g : Bool → Verdict) → ((x : Bool) → Le (f x) (g x)) → (v w : Verdict) → Le v w → Le (option_and_then f v) (option_and_then g w)
then_le f g h None w p = λ b e. cc
then_le f g h (Some x) w p = λ b e. ap (option_and_then g) (p x refl) ∙ h x b e

optional_le : {A : Type 0} (f g : A → Verdict) → ((x : A) → Le (f x) (g x)) → (d : Verdict) (o : Option A) → Le (optional f d o) (optional g d o)
optional_le f g h d None = λ b e. e
optional_le f g h d (Some x) = h x

if_le : (c : Bool) (v v' w : Verdict) → Le v v' → Le (if c then v else w) (if c then v' else w)
if_le true v v' w p = p
if_le false v v' w p = λ b e. e

pub record Knows (j j' : Judge) : Type 0 where
  pub valid : (k : ℕ) (n : Node) → Le (j.valid k n) (j'.valid k n)
  pub evaluates : (k : ℕ) (n : Node) (part : Part) → Le (j.evaluates k n part) (j'.evaluates k n part)

passes_le : (j j' : Judge) → Knows j j' → (a : Applied) → Le (passes j a) (passes j' a)
passes_le j j' h a = h.valid a.0 (value_of a.1)

covers_le : (j j' : Judge) → Knows j j' → (part : Part) (a : Applied) → Le (covers j part a) (covers j' part a)
covers_le j j' h part a =
    both_le (passes j a) (passes j' a) (j.evaluates a.0 (value_of a.1) part) (j'.evaluates a.0 (value_of a.1) part)
    (passes_le j j' h a) (h.evaluates a.0 (value_of a.1) part)

all_le : (j j' : Judge) → Knows j j' → (list : List Applied) → Le (every (passes j) list) (every (passes j') list)
all_le j j' h list = every_le (passes j) (passes j') (passes_le j j' h) list

contains_le : (j j' : Judge) → Knows j j' → (list : List Applied) (least most : ℕ) (i : Inner)
    → Le (contains_enough j list least most i) (contains_enough j' list least most i)
contains_le j j' h list least most (array ns) =
    map_le (λ c. nat_le least c && nat_le c most) (count (passes j) 0 list) (count (passes j') 0 list)
    (count_le (passes j) (passes j') (passes_le j j' h) list 0)
contains_le j j' h list least most taken = λ b e. e
contains_le j j' h list least most (scalar s) = λ b e. e
contains_le j j' h list least most (table ms) = λ b e. e

unevaluated_le : (j j' : Judge) → Knows j j' → (entries : Bool) (others k : ℕ) (n : Node)
    → Le (unevaluated_allow j entries others k n) (unevaluated_allow j' entries others k n)
unevaluated_le j j' h entries others k n =
    every_le (λ p. either (j.evaluates others n p) (j.valid k (value_of p))) (λ p. either (j'.evaluates others n p) (j'.valid k (value_of p)))
    (λ p. either_le (j.evaluates others n p) (j'.evaluates others n p) (j.valid k (value_of p)) (j'.valid k (value_of p))
    (h.evaluates others n p) (h.valid k (value_of p))) (kind_in entries (inner_of n))

allows_other_le : (s : Schema) (j j' : Judge) → Knows j j' → (k : Keyword) (n : Node)
    → Le (allows_other s j k n) (allows_other s j' k n)
unfolding allows_other
allows_other_le s j j' h (keyword.PropertyNames k) n = every_le (λ m. j.valid k m) (λ m. j'.valid k m) (λ m. h.valid k m) (names_of n)
allows_other_le s j j' h (keyword.Contains k least most evaluates) n =
    contains_le j j' h (applied s (keyword.Contains k least most evaluates) (whole n)) least most (inner_of n)
allows_other_le s j j' h (keyword.UnevaluatedItems others k) n = unevaluated_le j j' h false others k n
allows_other_le s j j' h (keyword.UnevaluatedProperties others k) n = unevaluated_le j j' h true others k n
allows_other_le s j j' h _ n = λ b e. e

pub allows_le : (s : Schema) (j j' : Judge) → Knows j j' → (k : Keyword) (n : Node) → Le (allows s j k n) (allows s j' k n)
unfolding allows
allows_le s j j' h (keyword.AllOf ks) n = all_le j j' h (applied s (keyword.AllOf ks) (whole n))
allows_le s j j' h (keyword.AnyOf ks) n = any_le (passes j) (passes j') (passes_le j j' h) (applied s (keyword.AnyOf ks) (whole n))
allows_le s j j' h (keyword.OneOf ks) n =
    map_le (λ c. c == 1) (count (passes j) 0 (applied s (keyword.OneOf ks) (whole n))) (count (passes j') 0 (applied s (keyword.OneOf ks) (whole n)))
    (count_le (passes j) (passes j') (passes_le j j' h) (applied s (keyword.OneOf ks) (whole n)) 0)
allows_le s j j' h (keyword.Not k) n = map_le not (j.valid k n) (j'.valid k n) (h.valid k n)
allows_le s j j' h (keyword.If c consequent alternative) n =
    then_le (λ b. optional (λ k. j.valid k n) (Some true) (if b then consequent else alternative)) (λ b. optional (λ k. j'.valid k n) (Some true) (if b then consequent else alternative))
    (λ b. optional_le (λ k. j.valid k n) (λ k. j'.valid k n) (λ k. h.valid k n) (Some true) (if b then consequent else alternative)) (j.valid c n) (j'.valid c n) (h.valid c n)
allows_le s j j' h (keyword.DependentSchemas es) n = all_le j j' h (applied s (keyword.DependentSchemas es) (whole n))
allows_le s j j' h (keyword.Items prefix rest) n = all_le j j' h (applied s (keyword.Items prefix rest) (whole n))
allows_le s j j' h (keyword.Properties named matching rest) n = all_le j j' h (applied s (keyword.Properties named matching rest) (whole n))
allows_le s j j' h k n = allows_other_le s j j' h k n

element_le : (j j' : Judge) → Knows j j' → (k : ℕ) (part : Part) → Le (is_evaluated_element j k part) (is_evaluated_element j' k part)
element_le j j' h k (element i n) = h.valid k n
element_le j j' h k (entry name span n) = λ b e. e
element_le j j' h k (whole n) = λ b e. e

any_covers_le : (j j' : Judge) → Knows j j' → (part : Part) (list : List Applied)
    → Le (any (covers j part) list) (any (covers j' part) list)
any_covers_le j j' h part list = any_le (covers j part) (covers j' part) (covers_le j j' h part) list

pub reaches_le : (s : Schema) (j j' : Judge) → Knows j j' → (k : Keyword) (n : Node) (part : Part) → Le (reaches s j k n part) (reaches s j' k n part)
unfolding reaches
reaches_le s j j' h (keyword.AllOf ks) n part = any_covers_le j j' h part (applied s (keyword.AllOf ks) (whole n))
reaches_le s j j' h (keyword.AnyOf ks) n part = any_covers_le j j' h part (applied s (keyword.AnyOf ks) (whole n))
reaches_le s j j' h (keyword.OneOf ks) n part = any_covers_le j j' h part (applied s (keyword.OneOf ks) (whole n))
reaches_le s j j' h (keyword.DependentSchemas es) n part = any_covers_le j j' h part (applied s (keyword.DependentSchemas es) (whole n))
reaches_le s j j' h (keyword.If c consequent alternative) n part =
    then_le
    (λ b. either (if b then j.evaluates c n part else Some false) (optional (λ k. covers j part (k, whole n)) (Some false) (if b then consequent else alternative)))
    (λ b. either (if b then j'.evaluates c n part else Some false) (optional (λ k. covers j' part (k, whole n)) (Some false) (if b then consequent else alternative)))
    (λ b. either_le (if b then j.evaluates c n part else Some false) (if b then j'.evaluates c n part else Some false)
    (optional (λ k. covers j part (k, whole n)) (Some false) (if b then consequent else alternative)) (optional (λ k. covers j' part (k, whole n)) (Some false) (if b then consequent else alternative))
    (if_le b (j.evaluates c n part) (j'.evaluates c n part) (Some false) (h.evaluates c n part))
    (optional_le (λ k. covers j part (k, whole n)) (λ k. covers j' part (k, whole n)) (λ k. covers_le j j' h part (k, whole n)) (Some false) (if b then consequent else alternative)))
    (j.valid c n) (j'.valid c n) (h.valid c n)
reaches_le s j j' h (keyword.Contains k least most evaluates) n part =
    if_le evaluates (is_evaluated_element j k part) (is_evaluated_element j' k part) (Some false) (element_le j j' h k part)
reaches_le s j j' h _ n part = λ b e. e

pub judged_le : (s : Schema) (d : ℕ) → Knows (judged s d) (judged s (suc d))
unfolding judged
judged_le s zero = record { valid = λ k n b e. cc; evaluates = λ k n part b e. cc }
judged_le s (suc d) = record {
  valid = λ k n. every_le (λ (p : Placed). allows s (judged s d) p.keyword n) (λ (p : Placed). allows s (judged s (suc d)) p.keyword n)
      (λ (p : Placed). allows_le s (judged s d) (judged s (suc d)) (judged_le s d) p.keyword n) (keywords s k);
  evaluates = λ k n part. any_le (λ (p : Placed). reaches s (judged s d) p.keyword n part) (λ (p : Placed). reaches s (judged s (suc d)) p.keyword n part)
      (λ (p : Placed). reaches_le s (judged s d) (judged s (suc d)) (judged_le s d) p.keyword n part) (keywords s k);
}

-- a verdict stays the same at every larger limit
pub valid_more : (s : Schema) (d more : ℕ) (n : Node) (b : Bool) → valid s d n ≡ Some b → valid s (d + more) n ≡ Some b
valid_more s d zero n b e = ap (λ x. valid s x n) (add-zero d) ∙ e
valid_more s d (suc more) n b e =
    let next : d + suc more ≡ suc (d + more) = omega arith in
    ap (λ x. valid s x n) next ∙ (judged_le s (d + more)).valid 0 n b (valid_more s d more n b e)
