-- What holds of subschemas if one more may nest.
use Rattle.std.proofs.Common.{◌≡◌, ℕ, ◌+◌, ◌-◌, ◌<◌, ◌≤◌, zero, suc, true, false, Some, List, length, get_or, drop, arith, sym, ap, ◌∙◌}
use Rattle.std.proofs.lemmas.List.{at_drop_more, at_drop_all}
use Rattle.toml_span_tree.specs.Node.{Node}
use Rattle.toml_span_schema.specs.Parts.{Part}
use Rattle.toml_span_schema.specs.Valid.{Verdict, allows, any, both, every, judged, keywords, reaches, refused}
use Rattle.toml_span_schema.proofs.Rests.{refused_end, refused_more}
use Rattle.toml_span_schema.specs.declared.keyword.Placed.{Placed}
use Rattle.toml_span_schema.specs.declared.schema.Schema.{Schema}

one_less : (d : ℕ) → d ≡ suc d - 1
one_less d = omega arith

pub judged_valid : (s : Schema) (d k : ℕ) (n : Node) → 0 < d
    → (judged s d).valid k n ≡ every (λ p. allows s (judged s (d - 1)) p.keyword n) (keywords s k)
unfolding judged
judged_valid s zero k n h = absurd (omega arith)
judged_valid s (suc d) k n h = ap (λ e. every (λ (p : Placed). allows s (judged s e) p.keyword n) (keywords s k)) (one_less d)

pub judged_evaluates : (s : Schema) (d k : ℕ) (n : Node) → 0 < d
    → (judged s d).evaluates k n ≡ (λ q. any (λ p. reaches s (judged s (d - 1)) p.keyword n q) (keywords s k))
unfolding judged
judged_evaluates s zero k n h = absurd (omega arith)
judged_evaluates s (suc d) k n h = ap (λ e. λ q. any (λ (p : Placed). reaches s (judged s e) p.keyword n q) (keywords s k)) (one_less d)

-- an element that does not pass, at its place
every_refuses : {A : Type 0} (f : A → Verdict) (xs : List A) (i : ℕ) (x : A) → i < length xs → x ≡ get_or xs i x
    → f x ≡ Some false → every f (drop i xs) ≡ Some false
every_refuses f xs i x h is e =
    at_drop_more (every f) xs i x h
    ∙ ap (λ y. both (f y) (every f (drop (i + 1) xs))) (sym is)
    ∙ ap (λ v. both v (every f (drop (i + 1) xs))) e

abbrev allowed : Schema → ℕ → Node → Placed → Verdict
allowed s d n p = allows s (judged s (d - 1)) p.keyword n

-- a keyword refuses the value
pub refused_at : (s : Schema) (d k : ℕ) (n : Node) (ps : List Placed) (i : ℕ) (p : Placed)
    → 0 < d → ps ≡ keywords s k → i < length ps → p ≡ get_or ps i p
    → every (allowed s d n) (drop i (keywords s k)) ≡ every (allowed s d n) (keywords s k)
    → allows s (judged s (d - 1)) p.keyword n ≡ Some false → (judged s d).valid k n ≡ Some false
refused_at s d k n ps i p h same lt is before e =
    judged_valid s d k n h ∙ sym before ∙ ap (λ l. every (allowed s d n) (drop i l)) (sym same)
    ∙ every_refuses (allowed s d n) ps i p lt is e

-- all keywords allow the value
pub allowed_by_all : (s : Schema) (d k : ℕ) (n : Node) (ps : List Placed) (i : ℕ)
    → 0 < d → ps ≡ keywords s k → length ps ≤ i
    → every (allowed s d n) (drop i (keywords s k)) ≡ every (allowed s d n) (keywords s k)
    → (judged s d).valid k n ≡ Some true
allowed_by_all s d k n ps i h same le before =
    judged_valid s d k n h ∙ sym before ∙ ap (λ l. every (allowed s d n) (drop i l)) (sym same)
    ∙ at_drop_all (every (allowed s d n)) ps i le

abbrev reached : Schema → ℕ → Node → Part → Placed → Verdict
reached s d n q p = reaches s (judged s (d - 1)) p.keyword n q

-- one more keyword is known to evaluate nothing of what is left
pub left_more : (s : Schema) (d k : ℕ) (n : Node) (ps : List Placed) (i : ℕ) (p : Placed) (before after : List Part)
    → ps ≡ keywords s k → i < length ps → p ≡ get_or ps i p
    → refused (reaches s (judged s (d - 1)) p.keyword n) before ≡ Some after
    → refused (λ q. any (reached s d n q) (drop (i + 1) (keywords s k))) after
    ≡ refused (λ q. any (reached s d n q) (drop i (keywords s k))) before
left_more s d k n ps i p before after same lt is e =
    ap (λ l. refused (λ q. any (reached s d n q) (drop (i + 1) l)) after) (sym same)
    ∙ refused_more (λ y q. reached s d n q y) ps i p before after lt is e
    ∙ ap (λ l. refused (λ q. any (reached s d n q) (drop i l)) before) same

-- no keyword evaluates what is left
pub left_by_all : (s : Schema) (d k : ℕ) (n : Node) (ps : List Placed) (i : ℕ) (parts rest : List Part)
    → 0 < d → ps ≡ keywords s k → length ps ≤ i
    → refused (λ q. any (reached s d n q) (drop i (keywords s k))) rest
    ≡ refused (λ q. any (reached s d n q) (keywords s k)) parts
    → refused ((judged s d).evaluates k n) parts ≡ Some rest
left_by_all s d k n ps i parts rest h same le before =
    ap (λ f. refused f parts) (judged_evaluates s d k n h) ∙ sym before
    ∙ ap (λ l. refused (λ q. any (reached s d n q) (drop i l)) rest) (sym same)
    ∙ refused_end (λ y q. reached s d n q y) ps i rest le
