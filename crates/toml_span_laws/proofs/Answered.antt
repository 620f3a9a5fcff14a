-- Each text has exactly one outcome: a tree, a first clash or a fault.
use Rattle.toml_span_lex.proofs.Common.{◌≡◌, ℕ, ◌≤◌, arith, List, Some, None, Result, Ok, Err, sym, ap, ◌∙◌, subst, ◌⊎◌, inl, inr, none-some, nat_tests, common_steps}
use Rattle.toml_span_lex.specs.declared.stop.Stop.{Stop}
use Rattle.toml_span_lex.specs.declared.stop.Stop.TheVariants as stops
use Rattle.toml_span_tree.specs.Error.{content_of}
use Rattle.toml_span_tree.specs.Value.{view}
use Rattle.toml_span_tree.specs.declared.error.Error.{Error}
use Rattle.toml_span_tree.specs.declared.value.Value.{Value}
use Rattle.toml_span_read.specs.declared.fault.Fault.{Fault}
use Rattle.toml_span_read.specs.Data.{ParsedSection}
use Rattle.toml_span_read.specs.Read.{document}
use Rattle.toml_span_read.proofs.ReadSound.{document_sound}
use Rattle.toml_span_laws.proofs.Complete.{document_complete}
use Rattle.toml_span_laws.proofs.OneReading.{document_one}
use Rattle.toml_span_laws.proofs.WiderDocument.{document_wider}
use Rattle.toml_span_laws.proofs.OneSpelled.{same_read, not_reported}
use Rattle.toml_span.specs.Claims.{claims}
use Rattle.toml_span.specs.Clashes.{NamedClash, first_clash}
use Rattle.toml_span.specs.Parsing.{IsParseResult, IsTree, IsRefusal}
use Rattle.toml_span_laws.specs.Outcomes.{IsAlike, Outcome, resolved, clashed, refused_at, HasOutcome, IsAnswerOf}
use Rattle.toml_span_laws.proofs.FirstClash.{cases_option}
use Rattle.toml_span_laws.proofs.OneTree.{node-one}

-- ---- one outcome

pub sections-one : (text : List ℕ) (limit : ℕ) (bs cs : List ParsedSection) → document text limit (Ok bs) → document text limit (Ok cs) → bs ≡ cs
sections-one text limit bs cs = same_read (document text limit) bs cs (document_one text limit)

-- within a higher limit the same sections are read
pub read_wider : (text : List ℕ) (limit wider : ℕ) (bs : List ParsedSection) → limit ≤ wider → document text limit (Ok bs) → document text wider (Ok bs)
read_wider text limit wider bs l h = document_complete bs text wider (document_wider bs text limit wider l (document_sound bs text limit h))

sections-or-fault : (text : List ℕ) (limit : ℕ) (bs : List ParsedSection) (e : Fault) → document text limit (Ok bs) → document text limit (Err e) → ⊥
sections-or-fault text limit bs e = not_reported (document text limit) bs e (document_one text limit)

resolved-or-clashed : (text : List ℕ) (limit : ℕ) (bs cs : List ParsedSection) (t : NamedClash) → HasOutcome text limit (resolved bs) → HasOutcome text limit (clashed cs t) → ⊥
resolved-or-clashed text limit bs cs t a b = none-some t (sym a.1 ∙ sym (ap (λ l. first_clash (claims l)) (sections-one text limit cs bs b.0 a.0)) ∙ b.1)

refused-one : (text : List ℕ) (limit : ℕ) (e f : Fault) → document text limit (Err e) → document text limit (Err f) → e ≡ f
refused-one text limit e f a b = let x = document_one text limit (Err e) (Err f) a b in cc

pub one-outcome : (text : List ℕ) (limit : ℕ) (x y : Outcome) → HasOutcome text limit x → HasOutcome text limit y → x ≡ y
one-outcome text limit (resolved bs) (resolved cs) a b = ap (λ l. resolved l) (sections-one text limit bs cs a.0 b.0)
one-outcome text limit (resolved bs) (clashed cs t) a b = absurd (resolved-or-clashed text limit bs cs t a b)
one-outcome text limit (resolved bs) (refused_at f) a b = absurd (sections-or-fault text limit bs f a.0 b)
one-outcome text limit (clashed bs t) (resolved cs) a b = absurd (resolved-or-clashed text limit cs bs t b a)
one-outcome text limit (clashed bs t) (clashed cs u) a b = grind (arith, nat_tests, common_steps, sections-one text limit cs bs b.0 a.0)
one-outcome text limit (clashed bs t) (refused_at f) a b = absurd (sections-or-fault text limit bs f a.0 b)
one-outcome text limit (refused_at e) (resolved cs) a b = absurd (sections-or-fault text limit cs e b.0 a)
one-outcome text limit (refused_at e) (clashed cs t) a b = absurd (sections-or-fault text limit cs e b.0 a)
one-outcome text limit (refused_at e) (refused_at f) a b = ap (λ x. refused_at x) (refused-one text limit e f a b)

pub decides : (text : List ℕ) (limit : ℕ) (x : Outcome) (r : Result Value (Stop Error)) → HasOutcome text limit x → IsParseResult text limit r → IsAnswerOf text x r
decides text limit x (Ok root) h (bs, g, a) = subst (λ z. IsAnswerOf text z (Ok root)) (one-outcome text limit (resolved bs) x g h) a
decides text limit x (Err (stops.Memory e)) h a = grind (arith, nat_tests, common_steps)
decides text limit x (Err (stops.Fault e)) h (inl (fault, g, a)) = subst (λ z. IsAnswerOf text z (Err (stops.Fault e))) (one-outcome text limit (refused_at fault) x g h) a
decides text limit x (Err (stops.Fault e)) h (inr (bs, t, g, a)) = subst (λ z. IsAnswerOf text z (Err (stops.Fault e))) (one-outcome text limit (clashed bs t) x g h) a

-- ---- one answer

pub tree-or-refusal : (text : List ℕ) (limit : ℕ) (root : Value) (error : Error) → IsTree text limit root → IsRefusal text limit (stops.Fault error) → ⊥
tree-or-refusal text limit root error (bs, has, tree) refusal = decides text limit (resolved bs) (Err (stops.Fault error)) has refusal

pub one-tree : (text : List ℕ) (limit : ℕ) (root other : Value) → IsTree text limit root → IsTree text limit other → view root ≡ view other
one-tree text limit root other (bs, has, tree) g =
    grind (arith, nat_tests, common_steps, decides text limit (resolved bs) (Ok other) has g, node-one (view root) (view other) tree.ordered)

pub one-refusal : (text : List ℕ) (limit : ℕ) (e f : Error) → IsRefusal text limit (stops.Fault e) → IsRefusal text limit (stops.Fault f) → content_of e ≡ content_of f
one-refusal text limit e f (inl (fault, h, a)) b =
    grind (arith, nat_tests, common_steps, decides text limit (refused_at fault) (Err (stops.Fault f)) h b)
one-refusal text limit e f (inr (bs, t, h, a)) b = a.1 ∙ sym (decides text limit (clashed bs t) (Err (stops.Fault f)) h b).1

pub alike : (text : List ℕ) (limit : ℕ) (r s : Result Value (Stop Error)) → IsParseResult text limit r → IsParseResult text limit s → IsAlike r s
alike text limit (Ok root) (Ok other) a b = one-tree text limit root other a b
alike text limit (Ok root) (Err (stops.Fault f)) a b = tree-or-refusal text limit root f a b
alike text limit (Err (stops.Memory e)) (Ok other) a b = tt
alike text limit (Err (stops.Memory e)) (Err (stops.Fault f)) a b = tt
alike text limit (Err (stops.Fault e)) (Ok other) a b = tree-or-refusal text limit other e b a
alike text limit (Err (stops.Fault e)) (Err (stops.Fault f)) a b = one-refusal text limit e f a b
alike text limit r s a b = tt

-- ---- every text

read-outcome : (text : List ℕ) (limit : ℕ) (bs : List ParsedSection) → document text limit (Ok bs) → (first_clash (claims bs) ≡ None) ⊎ ((clash : NamedClash) × (first_clash (claims bs) ≡ Some clash))
    → (x : Outcome) × HasOutcome text limit x
read-outcome text limit bs spelled (inl resolves) = (resolved bs, (spelled, resolves))
read-outcome text limit bs spelled (inr (clash, first)) = (clashed bs clash, (spelled, first))

pub some-outcome : (text : List ℕ) (limit : ℕ) → (r : Result (List ParsedSection) Fault) × document text limit r → (x : Outcome) × HasOutcome text limit x
some-outcome text limit (Ok bs, h) = read-outcome text limit bs h (cases_option (first_clash (claims bs)))
some-outcome text limit (Err fault, h) = (refused_at fault, h)
