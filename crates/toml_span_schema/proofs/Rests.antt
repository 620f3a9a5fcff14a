-- Which entries and elements are left when those on which a verdict is true are taken away.
use Rattle.std.proofs.Common.{◌≡◌, ℕ, ◌+◌, ◌<◌, ◌≤◌, Bool, true, false, not, List, [], ◌∷◌, ◌++◌, Option, Some, None, option_map, option_and_then, if◌then◌else◌, length, get_or, drop, map, ap, sym, ◌∙◌, refl, append_assoc}
use Rattle.std.proofs.lemmas.List.{append-nil, at_drop_all, at_drop_more}
use Rattle.toml_span_tree.specs.Node.{Node}
use Rattle.toml_span_schema.specs.Applied.{Applied, applied, applied_of}
use Rattle.toml_span_schema.specs.Parts.{Part, part_of, value_of, whole}
use Rattle.toml_span_schema.specs.Valid.{Verdict, Judge, any, both, covers, either, every, optional, passes, reaches, reaches_simply, refused}
use Rattle.toml_span_schema.specs.declared.keyword.Keyword.{Keyword}
use Rattle.toml_span_schema.specs.declared.keyword.Keyword.TheVariants as keyword
use Rattle.toml_span_schema.specs.declared.schema.Schema.{Schema}
use Rattle.toml_span_schema.specs.declared.listed.Part.{Part as Lent}

-- one more entry or element, before those that are left of the others
abbrev taken : Verdict → Part → Option (List Part) → Option (List Part)
taken v p r = option_and_then (λ b. option_map (λ qs. if b then qs else p ∷ qs) r) v

map_same : (r : Option (List Part)) → option_map (λ (qs : List Part). qs) r ≡ r
map_same None = refl
map_same (Some qs) = refl

either_step : (g : Part → Verdict) (p : Part) (v : Verdict) (r R : Option (List Part)) (qs : List Part)
    → ((ts : List Part) → r ≡ Some ts → refused g ts ≡ R) → taken v p r ≡ Some qs
    → refused g qs ≡ taken (either v (g p)) p R
either_step g p None r R qs h e = cc
either_step g p (Some true) None R qs h e = cc
either_step g p (Some true) (Some ts) R qs h e =
    let same : ts ≡ qs = cc in
    ap (refused g) (sym same) ∙ h ts refl ∙ sym (map_same R)
either_step g p (Some false) None R qs h e = cc
either_step g p (Some false) (Some ts) R qs h e =
    let same : p ∷ ts ≡ qs = cc in
    ap (refused g) (sym same) ∙ ap (taken (g p) p) (h ts refl)

-- those on which two verdicts are false, one after the other
pub refused_either : (f g : Part → Verdict) (ps qs : List Part) → refused f ps ≡ Some qs
    → refused g qs ≡ refused (λ p. either (f p) (g p)) ps
refused_either f g [] qs e =
    let same : [] ≡ qs = cc in
    ap (refused g) (sym same)
refused_either f g (p ∷ ps) qs e =
    either_step g p (f p) (refused f ps) (refused (λ q. either (f q) (g q)) ps) qs (refused_either f g ps) e

-- the verdicts of a list: one more of them is known
pub refused_more : {X : Type 0} (f : X → Part → Verdict) (xs : List X) (i : ℕ) (x : X) (ps qs : List Part)
    → i < length xs → x ≡ get_or xs i x → refused (f x) ps ≡ Some qs
    → refused (λ p. any (λ y. f y p) (drop (i + 1) xs)) qs ≡ refused (λ p. any (λ y. f y p) (drop i xs)) ps
refused_more f xs i x ps qs h is e =
    refused_either (f x) (λ p. any (λ y. f y p) (drop (i + 1) xs)) ps qs e
    ∙ ap (λ y. refused (λ p. either (f y p) (any (λ z. f z p) (drop (i + 1) xs))) ps) is
    ∙ sym (at_drop_more (λ l. refused (λ p. any (λ y. f y p) l) ps) xs i x h)

pub all_left : (ps : List Part) → refused (λ p. Some false) ps ≡ Some ps
all_left [] = refl
all_left (p ∷ ps) = ap (taken (Some false) p) (all_left ps)

-- no verdict is left
pub refused_end : {X : Type 0} (f : X → Part → Verdict) (xs : List X) (i : ℕ) (ps : List Part) → length xs ≤ i
    → refused (λ p. any (λ y. f y p) (drop i xs)) ps ≡ Some ps
refused_end f xs i ps h =
    at_drop_all (λ l. refused (λ p. any (λ y. f y p) l) ps) xs i h ∙ all_left ps

every_step : (g : Part → Verdict) (p : Part) (v : Verdict) (r : Option (List Part)) (E : Verdict) (qs : List Part)
    → ((ts : List Part) → r ≡ Some ts → E ≡ every g ts) → taken v p r ≡ Some qs
    → both (either v (g p)) E ≡ every g qs
every_step g p None r E qs h e = cc
every_step g p (Some true) None E qs h e = cc
every_step g p (Some true) (Some ts) E qs h e =
    let same : ts ≡ qs = cc in
    h ts refl ∙ ap (every g) same
every_step g p (Some false) None E qs h e = cc
every_step g p (Some false) (Some ts) E qs h e =
    let same : p ∷ ts ≡ qs = cc in
    ap (both (g p)) (h ts refl) ∙ ap (every g) same

every_either : (f g : Part → Verdict) (ps qs : List Part) → refused f ps ≡ Some qs
    → every (λ p. either (f p) (g p)) ps ≡ every g qs
every_either f g [] qs e =
    let same : [] ≡ qs = cc in
    ap (every g) same
every_either f g (p ∷ ps) qs e =
    every_step g p (f p) (refused f ps) (every (λ q. either (f q) (g q)) ps) qs (every_either f g ps) e

every_to : (j : Judge) (k : ℕ) (qs : List Part)
    → every (λ q. j.valid k (value_of q)) qs ≡ every (passes j) (map (λ q. (k, q)) qs)
every_to j k [] = refl
every_to j k (q ∷ qs) = ap (both (j.valid k (value_of q))) (every_to j k qs)

-- each is evaluated or valid, if each that is not evaluated is valid
pub every_rest : (j : Judge) (f : Part → Verdict) (k : ℕ) (ps qs : List Part) → refused f ps ≡ Some qs
    → every (λ p. either (f p) (j.valid k (value_of p))) ps ≡ every (passes j) (map (λ q. (k, q)) qs)
every_rest j f k ps qs e = every_either f (λ p. j.valid k (value_of p)) ps qs e ∙ every_to j k qs

-- what a loop keeps: `rest` of those before `left`
abbrev pub Kept : (Part → Verdict) → List Part → List Part → List Part → Type 0
Kept f all rest left = (qs : List Part) → refused f left ≡ Some qs → refused f all ≡ Some (rest ++ qs)

next_part : (parts : List Lent) (i : ℕ) (part : Lent) → i < length parts → part ≡ get_or parts i part
    → map part_of (drop i parts) ≡ part_of part ∷ map part_of (drop (i + 1) parts)
next_part parts i part h is =
    at_drop_more (map part_of) parts i part h ∙ ap (λ y. part_of y ∷ map part_of (drop (i + 1) parts)) (sym is)

pub kept_more : (f : Part → Verdict) (parts : List Lent) (i : ℕ) (part : Lent) (rest : List Part)
    → i < length parts → part ≡ get_or parts i part → f (part_of part) ≡ Some false
    → Kept f (map part_of parts) rest (map part_of (drop i parts))
    → Kept f (map part_of parts) (rest ++ part_of part ∷ []) (map part_of (drop (i + 1) parts))
kept_more f parts i part rest h is e before = λ qs k.
    before (part_of part ∷ qs)
    (ap (refused f) (next_part parts i part h is)
    ∙ ap (λ v. taken v (part_of part) (refused f (map part_of (drop (i + 1) parts)))) e
    ∙ ap (taken (Some false) (part_of part)) k)
    ∙ ap (λ l. Some l) (sym (append_assoc rest (part_of part ∷ []) qs))

pub kept_same : (f : Part → Verdict) (parts : List Lent) (i : ℕ) (part : Lent) (rest : List Part)
    → i < length parts → part ≡ get_or parts i part → f (part_of part) ≡ Some true
    → Kept f (map part_of parts) rest (map part_of (drop i parts))
    → Kept f (map part_of parts) rest (map part_of (drop (i + 1) parts))
kept_same f parts i part rest h is e before = λ qs k.
    before qs
    (ap (refused f) (next_part parts i part h is)
    ∙ ap (λ v. taken v (part_of part) (refused f (map part_of (drop (i + 1) parts)))) e
    ∙ ap (taken (Some true) (part_of part)) k)

pub kept_end : (f : Part → Verdict) (parts : List Lent) (i : ℕ) (rest : List Part) → length parts ≤ i
    → Kept f (map part_of parts) rest (map part_of (drop i parts))
    → refused f (map part_of parts) ≡ Some rest
kept_end f parts i rest h before =
    before [] (ap (refused f) (at_drop_all (map part_of) parts i h)) ∙ ap (λ l. Some l) (append-nil rest)

-- two verdicts that are the same everywhere
pub refused_same : (f g : Part → Verdict) → ((p : Part) → f p ≡ g p) → (ps : List Part) → refused f ps ≡ refused g ps
refused_same f g h [] = refl
refused_same f g h (p ∷ ps) =
    ap (λ v. taken v p (refused f ps)) (h p) ∙ ap (taken (g p) p) (refused_same f g h ps)

-- one more pair is known to cover nothing of what is left
pub uncovered_more : (j : Judge) (list : List (ℕ × Lent)) (i : ℕ) (pair : ℕ × Lent) (ps qs : List Part)
    → i < length list → pair ≡ get_or list i pair → refused (λ q. covers j q (applied_of pair)) ps ≡ Some qs
    → refused (λ q. any (covers j q) (map applied_of (drop (i + 1) list))) qs
    ≡ refused (λ q. any (covers j q) (map applied_of (drop i list))) ps
uncovered_more j list i pair ps qs h is e =
    refused_either (λ q. covers j q (applied_of pair)) (λ q. any (covers j q) (map applied_of (drop (i + 1) list))) ps qs e
    ∙ ap (λ y. refused (λ q. either (covers j q (applied_of y)) (any (covers j q) (map applied_of (drop (i + 1) list)))) ps) is
    ∙ sym (at_drop_more (λ l. refused (λ q. any (covers j q) (map applied_of l)) ps) list i pair h)

pub uncovered_end : (j : Judge) (list : List (ℕ × Lent)) (i : ℕ) (ps : List Part) → length list ≤ i
    → refused (λ q. any (covers j q) (map applied_of (drop i list))) ps ≡ Some ps
uncovered_end j list i ps h = at_drop_all (λ l. refused (λ q. any (covers j q) (map applied_of l)) ps) list i h ∙ all_left ps

-- a value that is not valid against a subschema: the subschema covers nothing
pub covers_none : (j : Judge) (a : Applied) → passes j a ≡ Some false → (ps : List Part)
    → refused (λ p. covers j p a) ps ≡ Some ps
covers_none j a e ps =
    refused_same (λ p. covers j p a) (λ p. Some false) (λ p. ap (λ v. both v (j.evaluates a.0 (value_of a.1) p)) e) ps
    ∙ all_left ps

-- whether a keyword applies subschemas to the value itself, except for `not` and `if`
abbrev pub is_in_place : Keyword → Bool
is_in_place (keyword.AllOf ks) = true
is_in_place (keyword.AnyOf ks) = true
is_in_place (keyword.OneOf ks) = true
is_in_place (keyword.DependentSchemas es) = true
is_in_place _ = false

-- whether `reaches` needs no verdicts
abbrev pub is_simple : Keyword → Bool
is_simple (keyword.AllOf ks) = false
is_simple (keyword.AnyOf ks) = false
is_simple (keyword.OneOf ks) = false
is_simple (keyword.DependentSchemas es) = false
is_simple (keyword.If c consequent alternative) = false
is_simple (keyword.Contains k least most evaluates) = not evaluates
is_simple _ = true

reaches_in_place : (s : Schema) (j : Judge) (k : Keyword) (n : Node) → is_in_place k ≡ true → (p : Part)
    → reaches s j k n p ≡ any (covers j p) (applied s k (whole n))
unfolding reaches
reaches_in_place s j (keyword.AllOf ks) n e p = refl
reaches_in_place s j (keyword.AnyOf ks) n e p = refl
reaches_in_place s j (keyword.OneOf ks) n e p = refl
reaches_in_place s j (keyword.DependentSchemas es) n e p = refl
reaches_in_place s j _ n e p = cc

pub left_in_place : (s : Schema) (j : Judge) (k : Keyword) (n : Node) (list slice : List (ℕ × Lent)) (ps rest : List Part)
    → is_in_place k ≡ true → map applied_of list ≡ applied s k (whole n) → slice ≡ list
    → refused (λ p. any (covers j p) (map applied_of slice)) ps ≡ Some rest
    → refused (reaches s j k n) ps ≡ Some rest
left_in_place s j k n list slice ps rest h same whole_list e =
    refused_same (reaches s j k n) (λ p. any (covers j p) (applied s k (whole n))) (reaches_in_place s j k n h) ps
    ∙ ap (λ l. refused (λ p. any (covers j p) l) ps) (sym same ∙ ap (map applied_of) (sym whole_list)) ∙ e

reaches_simple : (s : Schema) (j : Judge) (k : Keyword) (n : Node) → is_simple k ≡ true → (p : Part)
    → reaches s j k n p ≡ Some (reaches_simply s k p)
unfolding reaches reaches_simply
reaches_simple s j (keyword.AllOf ks) n e p = cc
reaches_simple s j (keyword.AnyOf ks) n e p = cc
reaches_simple s j (keyword.OneOf ks) n e p = cc
reaches_simple s j (keyword.DependentSchemas es) n e p = cc
reaches_simple s j (keyword.If c consequent alternative) n e p = cc
reaches_simple s j (keyword.Contains k least most true) n e p = cc
reaches_simple s j (keyword.Contains k least most false) n e p = refl
reaches_simple s j _ n e p = refl

pub left_simply : (s : Schema) (j : Judge) (k : Keyword) (n : Node) (ps rest : List Part) → is_simple k ≡ true
    → refused (λ p. Some (reaches_simply s k p)) ps ≡ Some rest → refused (reaches s j k n) ps ≡ Some rest
left_simply s j k n ps rest h e =
    refused_same (reaches s j k n) (λ p. Some (reaches_simply s k p)) (reaches_simple s j k n h) ps ∙ e

reaches_if : (s : Schema) (j : Judge) (c : ℕ) (consequent alternative : Option ℕ) (n : Node) → j.valid c n ≡ Some true
    → (p : Part) → reaches s j (keyword.If c consequent alternative) n p
    ≡ either (j.evaluates c n p) (optional (λ k. covers j p (k, whole n)) (Some false) consequent)
unfolding reaches
reaches_if s j c consequent alternative n valid p =
    ap (option_and_then (λ b. either (if b then j.evaluates c n p else Some false)
    (optional (λ k. covers j p (k, whole n)) (Some false) (if b then consequent else alternative)))) valid

-- `if`, of a value that is valid against its schema
pub left_if : (s : Schema) (j : Judge) (k : Keyword) (c : ℕ) (consequent alternative : Option ℕ) (n : Node)
    (ps first slice rest : List Lent)
    → k ≡ keyword.If c consequent alternative → j.valid c n ≡ Some true
    → refused (j.evaluates c n) (map part_of ps) ≡ Some (map part_of first) → slice ≡ first
    → refused (λ p. optional (λ m. covers j p (m, whole n)) (Some false) consequent) (map part_of slice) ≡ Some (map part_of rest)
    → refused (reaches s j k n) (map part_of ps) ≡ Some (map part_of rest)
left_if s j k c consequent alternative n ps first slice rest is valid e same f =
    ap (λ x. refused (reaches s j x n) (map part_of ps)) is
    ∙ refused_same (reaches s j (keyword.If c consequent alternative) n)
    (λ p. either (j.evaluates c n p) (optional (λ m. covers j p (m, whole n)) (Some false) consequent))
    (reaches_if s j c consequent alternative n valid) (map part_of ps)
    ∙ sym (refused_either (j.evaluates c n) (λ p. optional (λ m. covers j p (m, whole n)) (Some false) consequent) (map part_of ps) (map part_of first) e)
    ∙ ap (λ l. refused (λ p. optional (λ m. covers j p (m, whole n)) (Some false) consequent) (map part_of l)) (sym same) ∙ f

-- `contains` that evaluates nothing
reaches_contains : (s : Schema) (j : Judge) (m least most : ℕ) (n : Node) (p : Part)
    → reaches s j (keyword.Contains m least most false) n p ≡ Some false
unfolding reaches
reaches_contains s j m least most n p = refl

pub left_contains : (s : Schema) (j : Judge) (k : Keyword) (m least most : ℕ) (evaluates : Bool) (n : Node) (ps rest : List Lent)
    → k ≡ keyword.Contains m least most evaluates → evaluates ≡ false → rest ≡ ps
    → refused (reaches s j k n) (map part_of ps) ≡ Some (map part_of rest)
left_contains s j k m least most evaluates n ps rest is off same =
    ap (λ x. refused (reaches s j x n) (map part_of ps)) (is ∙ ap (keyword.Contains m least most) off)
    ∙ refused_same (reaches s j (keyword.Contains m least most false) n) (λ p. Some false) (reaches_contains s j m least most n) (map part_of ps)
    ∙ all_left (map part_of ps) ∙ ap (λ l. Some (map part_of l)) (sym same)
