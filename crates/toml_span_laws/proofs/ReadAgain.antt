-- What is assigned in a document is read again from the text at its span, and its strings are what the text has there.
use Rattle.toml_span_lex.proofs.Common.{◌≡◌, ℕ, List, [], ◌∷◌, Some, length, sym, ◌∙◌, ap, subst, inl, inr, arith, nat_tests, common_steps, ◌⊎◌, suc, ◌+◌, ◌≤◌, Bool, get_or, slice_range, cases_order}
use Rattle.toml_span_lex.specs.declared.span.Span.{Span}
use Rattle.toml_span_tree.specs.Node.{Scalar, text as text_scalar}
use Rattle.toml_span_tree.specs.Path.{Path, Place, shape_scalar, place_at}
use Rattle.toml_span_tree.specs.Value.{view}
use Rattle.toml_span_tree.specs.declared.value.Value.{Value}
use Rattle.toml_span_read.proofs.ReadSound.{document_sound}
use Rattle.toml_span_laws.specs.Again.{ScalarReadsAgain}
use Rattle.toml_span_read.specs.Data.{ParsedValue, parsed, scalar, array, inline, parsed_span, ParsedSection}
use Rattle.toml_span_read.specs.Grammar.{SpellsDocument}
pub use Rattle.toml_span_laws.proofs.AgainLaws.{at-span, scalar-again}
use Rattle.toml_span.specs.Claims.{Claim, value_shape, claims, Claims, no_claims, claimed, scope, followed, value_claims}
use Rattle.toml_span.specs.Flat.{flat}
use Rattle.toml_span.specs.Parsing.{IsTree, IsTreeOf}
use Rattle.toml_span_laws.specs.Outcomes.{HasOutcome, resolved}
use Rattle.toml_span.proofs.EachClaim.{flat-decides}
use Rattle.toml_span_laws.proofs.SpelledClaims.{Spelled, OfText, document-of_text, AllSpelled, Assigns, Makes, document-spelled}
use Rattle.toml_span.specs.declared.claims.ClaimKind.TheVariants.{Assigned}
use Rattle.toml_span_laws.specs.Laws.{AssignsAgain, ValueReadsAgain, ShowsString}
use Rattle.toml_span_lex.specs.Bytes.{quotation_mark}
use Rattle.toml_span_lex.specs.Strings.{content_span, ContentFrom, HasChange, IsEmptyOnOneLine}
use Rattle.toml_span_lex.proofs.Copies.{content_fits}
use Rattle.toml_span_laws.proofs.StringLaws.{span_cuts, unchanged}

-- ---- the flat document

-- the text spells this scalar, with this span
abbrev pub HasScalar : List ℕ → ℕ → List ParsedSection → Scalar → Span → Type 0
HasScalar text limit bs s span = Spelled text limit bs (parsed (scalar s) span)

of-value : (text : List ℕ) (limit : ℕ) (bs : List ParsedSection) (s : Scalar) (v : ParsedValue) (span : Span) → Spelled text limit bs v → value_shape v ≡ shape_scalar s → span ≡ parsed_span v → HasScalar text limit bs s span
of-value text limit bs s (parsed (scalar t) at) span h e f = let same : t ≡ s = cc in rw (f, sym same) h
of-value text limit bs s (parsed (array vs) at) span h e f = absurd (cc)
of-value text limit bs s (parsed (inline ps) at) span h e f = absurd (cc)

scalar-claimed : (text : List ℕ) (limit : ℕ) (bs : List ParsedSection) (c : Claim) (s : Scalar) → OfText text limit bs c → c.place.shape ≡ shape_scalar s → HasScalar text limit bs s c.place.span
scalar-claimed text limit bs c s (inl a) is = of-value text limit bs s a.value c.place.span a.spelled (sym a.shape ∙ is) a.span
scalar-claimed text limit bs c s (inr made) is = absurd (made.shape s is)

pub flat-scalar : (text : List ℕ) (limit n : ℕ) (bs : List ParsedSection) (p : Path) (x : Place) (s : Scalar) → SpellsDocument bs text limit → flat n (claims bs) p ≡ Some x → x.shape ≡ shape_scalar s
    → HasScalar text limit bs s x.span
unfolding flat
flat-scalar text limit n bs [] x s h at is = grind (arith, nat_tests, common_steps)
flat-scalar text limit n bs (t ∷ p) x s h at is =
    let d = flat-decides (OfText text limit bs) n (claims bs) t p x (document-of_text bs text limit h) at in
    subst (λ (y : Place). HasScalar text limit bs s y.span) d.place (scalar-claimed text limit bs d.claim s d.holds (ap (λ y. y.shape) d.place ∙ is))

pub flat-again : (text : List ℕ) (limit n : ℕ) (bs : List ParsedSection) (p : Path) (x : Place) (s : Scalar) → SpellsDocument bs text limit → flat n (claims bs) p ≡ Some x → x.shape ≡ shape_scalar s
    → ScalarReadsAgain text limit s x.span
flat-again text limit n bs p x s h at is =
    let v = flat-scalar text limit n bs p x s h at is in scalar-again s x.span text limit v.depth v.from v.to v.deep v.spells

-- ---- the tree

pub tree-scalar : (text : List ℕ) (limit : ℕ) (root : Value) (p : Path) (x : Place) (s : Scalar) → IsTree text limit root → place_at p (view root) ≡ Some x → x.shape ≡ shape_scalar s
    → (bs : List ParsedSection) × HasOutcome text limit (resolved bs) × IsTreeOf bs (length text) root × HasScalar text limit bs s x.span
tree-scalar text limit root p x s h at is =
    let (bs, has, tree) = h in (bs, has, tree, flat-scalar text limit (length text) bs p x s (document_sound bs text limit has.0) (sym (tree.shows p) ∙ at) is)

pub tree-again : (text : List ℕ) (limit : ℕ) (root : Value) (p : Path) (x : Place) (s : Scalar) → IsTree text limit root → place_at p (view root) ≡ Some x → x.shape ≡ shape_scalar s
    → ScalarReadsAgain text limit s x.span
tree-again text limit root p x s h at is =
    let (bs, has, tree) = h in flat-again text limit (length text) bs p x s (document_sound bs text limit has.0) (sym (tree.shows p) ∙ at) is

-- ---- the claims after a claim are those of its value

spelled-again : (text : List ℕ) (limit : ℕ) (bs : List ParsedSection) (v : ParsedValue) → Spelled text limit bs v → ValueReadsAgain text limit v
spelled-again text limit bs (parsed (scalar s) span) h = scalar-again s span text limit h.depth h.from h.to h.deep h.spells
spelled-again text limit bs (parsed (array vs) span) h = at-span (parsed (array vs) span) text limit h.depth h.from h.to h.deep h.spells h.spells.1.1
spelled-again text limit bs (parsed (inline ps) span) h = at-span (parsed (inline ps) span) text limit h.depth h.from h.to h.deep h.spells h.spells.1.1

claim-again : (text : List ℕ) (limit : ℕ) (bs : List ParsedSection) (c : Claim) (cs : Claims) → ((a : Assigns text limit bs c) × (rest : Claims) × (cs ≡ followed (value_claims a.value c.path) rest)) ⊎ Makes c → c.info.kind ≡ Assigned
    → (v : ParsedValue) × (rest : Claims) × ValueReadsAgain text limit v × (c.place.shape ≡ value_shape v) × (c.place.span ≡ parsed_span v) × (cs ≡ followed (value_claims v c.path) rest)
claim-again text limit bs c cs (inl (a, rest, beyond)) is = (a.value, rest, spelled-again text limit bs a.value a.spelled, a.shape, a.span, beyond)
claim-again text limit bs c cs (inr made) is = absurd (made.kind is)

all-again : (text : List ℕ) (limit : ℕ) (bs : List ParsedSection) (cs : Claims) → AllSpelled text limit bs cs → AssignsAgain text limit cs
all-again text limit bs no_claims h = tt
all-again text limit bs (claimed c cs) h = (claim-again text limit bs c cs h.0, all-again text limit bs cs h.1)
all-again text limit bs (scope inner cs) h = (all-again text limit bs inner h.0, all-again text limit bs cs h.1)

pub document-again : (bs : List ParsedSection) (text : List ℕ) (limit : ℕ) → SpellsDocument bs text limit → AssignsAgain text limit (claims bs)
document-again bs text limit h = all-again text limit bs (claims bs) (document-spelled bs text limit h)

-- ---- two quotes with nothing between them

two-quotes : (multi : Bool) (text : List ℕ) (i j from to : ℕ) (v : List ℕ) → ContentFrom multi text i from → length v + from ≤ to → suc to ≤ j → IsEmptyOnOneLine i j
    → (v ≡ []) × (content_span multi i from to ≡ record { start = i; end = i + 1 })
two-quotes multi text i j from to v begins fits before two = grind (arith, nat_tests, common_steps)

-- ---- each string

shows : (text : List ℕ) (limit : ℕ) (bs : List ParsedSection) (v : List ℕ) (span : Span) → HasScalar text limit bs (text_scalar v) span → ShowsString text v span
shows text limit bs v span h =
    let (source, multi, s) = h.spells.1 in
    let f = content_fits (get_or text h.from 0) multi text v s.from s.to h.to s.content_is in
    record {
      i = h.from;
      j = h.to;
      source = source;
      multi = multi;
      spelled = s;
      content = span_cuts text h.from h.to span source v multi s;
      opening = λ two. let e = two-quotes multi text h.from h.to s.from s.to v s.begins f.0 f.1 two in (e.0, s.span_is ∙ e.1);
    }

pub flat-string : (text : List ℕ) (limit n : ℕ) (bs : List ParsedSection) (p : Path) (x : Place) (v : List ℕ) → SpellsDocument bs text limit → flat n (claims bs) p ≡ Some x
    → x.shape ≡ shape_scalar (text_scalar v) → ShowsString text v x.span
flat-string text limit n bs p x v h at is = shows text limit bs v x.span (flat-scalar text limit n bs p x (text_scalar v) h at is)

pub tree-string : (text : List ℕ) (limit : ℕ) (root : Value) (p : Path) (x : Place) (v : List ℕ) → IsTree text limit root → place_at p (view root) ≡ Some x
    → x.shape ≡ shape_scalar (text_scalar v) → ShowsString text v x.span
tree-string text limit root p x v h at is =
    let (bs, has, tree, z) = tree-scalar text limit root p x (text_scalar v) h at is in shows text limit bs v x.span z

-- ---- strings that are equal to their text

no-change : (q : ℕ) (text : List ℕ) (i j : ℕ) → (HasChange quotation_mark text i j → ⊥) → HasChange q text i j → ⊥
no-change q text i j none h = grind (arith, nat_tests, common_steps)

itself : (text v : List ℕ) (span : Span) → ShowsString text v span → (HasChange quotation_mark text span.start span.end → ⊥) → (v ≡ []) ⊎ (v ≡ slice_range text span.start span.end)
itself text v span h none = elim (cases_order h.j (h.i + 2)) [
  | inl two ↦ inl (h.opening two).0
  | inr (inl less) ↦ inr (whole (λ two. omega (arith, less, two)))
  | inr (inr more) ↦ inr (whole (λ two. omega (arith, more, two)))
]
  where
    whole : (IsEmptyOnOneLine h.i h.j → ⊥) → v ≡ slice_range text span.start span.end
    whole other = unchanged text h.i h.j span h.source v h.multi h.spelled other (no-change (get_or text h.i 0) text span.start span.end none)

pub tree-itself : (text : List ℕ) (limit : ℕ) (root : Value) (p : Path) (x : Place) (v : List ℕ) → IsTree text limit root → place_at p (view root) ≡ Some x
    → x.shape ≡ shape_scalar (text_scalar v) → (HasChange quotation_mark text x.span.start x.span.end → ⊥) → (v ≡ []) ⊎ (v ≡ slice_range text x.span.start x.span.end)
tree-itself text limit root p x v h at is none = itself text v x.span (tree-string text limit root p x v h at is) none
