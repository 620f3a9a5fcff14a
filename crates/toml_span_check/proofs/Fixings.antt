-- One more fix, and one more statement.
use Rattle.toml_span_lex.proofs.Common.{◌≡◌, ◌<◌, ℕ, List, length, drop, get_or, ◌+◌, Option, Some, None, Result, Ok, Err, IfOk, AllocError, Global, String, string_bytes, option_map, subst, sym, refl, inl, inr, Bool, true, false}
use Rattle.toml_span_lex.specs.declared.stop.Stop.TheVariants as stops
use Rattle.toml_span_read.specs.Data.{depth_limit}
use Rattle.toml_span_tree.specs.declared.error.Error.{Error}
use Rattle.toml_span_tree.specs.Error.{content_of}
use Rattle.toml_span.specs.Parsing.{IsRefusal}
use Rattle.toml_span_syntax.specs.declared.pieces.Piece.{Piece}
use Rattle.toml_span_syntax.specs.declared.statements.Statement.{Statement}
use Rattle.toml_span_check.specs.declared.fixing.FixLevel.{FixLevel}
use Rattle.toml_span_check.specs.Drafts.{Parts, empty}
use Rattle.toml_span_check.specs.Fixing.{AddsStatement, AddsUnit, CanFix, Checks, Drafts, FixOf, FixesError, IsUnit, Leads, Mends, NextFix, Progress, another, fix, fixed, nothing, one_more, start, way_of}
use Rattle.toml_span_check.specs.Safety.{kept, may_fix, may_head}
use Rattle.toml_span_check.specs.Statements.{own_bytes, own_pieces}
use Rattle.toml_span_check.specs.declared.fixing.Fix.{Fix}
use Rattle.toml_span_check.specs.declared.fixing.Fixed.{Fixed}
use Rattle.toml_span_check.specs.declared.fixing.Step.{Step}
use Rattle.toml_span_check.specs.declared.fixing.Step.TheVariants as steps
use Rattle.toml_span_check.specs.declared.fixing.Way.{Way}

-- the first error is fixed, or is not
pub next_some : (text : List ℕ) (way : Way) (error : Error) (field : Option (String Global)) (new : String Global) → IsRefusal text depth_limit (stops.Fault error) →
    FixesError text (content_of error) way (option_map string_bytes field) → field ≡ Some new → NextFix text way (steps.Fixed new)
next_some text way error field new refusal fixes is =
    (error, refusal, subst (λ (f : Option (String Global)). FixesError text (content_of error) way (option_map string_bytes f)) is fixes)

pub next_none : (text : List ℕ) (way : Way) (error : Error) (field : Option (String Global)) → IsRefusal text depth_limit (stops.Fault error) →
    FixesError text (content_of error) way (option_map string_bytes field) → field ≡ None → NextFix text way steps.Stuck
next_none text way error field refusal fixes is =
    (error, refusal, subst (λ (f : Option (String Global)). FixesError text (content_of error) way (option_map string_bytes f)) is fixes)

-- what is found at a copy of the text
pub step_of : (copy mid : List ℕ) (way : Way) (field step : Step) → copy ≡ mid → NextFix copy way field → field ≡ step →
    NextFix mid way step
step_of copy mid way field step same next is =
    subst (λ (m : List ℕ). NextFix m way step) same (subst (λ (f : Step). NextFix copy way f) is next)

pub leads_more : (text copy mid : List ℕ) (way : Way) (n : ℕ) (field : Step) (new : String Global) → Leads text way n mid → copy ≡ mid →
    NextFix copy way field → field ≡ steps.Fixed new → Leads text way (n + 1) (string_bytes new)
leads_more text copy mid way n field new before same next is =
    one_more n mid new before (step_of copy mid way field (steps.Fixed new) same next is)

-- no statement yet
pub drafts_none : (text : List ℕ) (pieces : List Piece) (ss : List Statement) (way : Way) (parts : Parts) → parts ≡ empty →
    Drafts text pieces ss way 0 (record { parts = parts; count = 0; end = 0; is_fixed = false })
drafts_none text pieces ss way parts is =
    subst (λ (q : Parts). Drafts text pieces ss way 0 (record { parts = q; count = 0; end = 0; is_fixed = false })) (sym is) (nothing start refl)

-- a unit that can't be fixed, whose first statement is kept
pub unit_kept : (text : List ℕ) (pieces : List Piece) (s unit : Statement) (way : Way) (old : Progress) (field : Option Fix) (parts : Parts) →
    FixOf text pieces unit way (option_map fix field) → field ≡ None → parts ≡ kept old.parts text pieces s →
    AddsUnit text pieces s unit way old (record { parts = parts; count = old.count; end = unit.end; is_fixed = false })
unit_kept text pieces s unit way old field parts made is same =
    let not_fixed : FixOf text pieces unit way None = subst (λ (o : Option Fix). FixOf text pieces unit way (option_map fix o)) is made in
    subst (λ (q : Parts). AddsUnit text pieces s unit way old (record { parts = q; count = old.count; end = unit.end; is_fixed = false })) (sym same) (inr (not_fixed, refl))

-- one more statement of a list
pub drafts_more : (text : List ℕ) (pieces : List Piece) (ss rest : List Statement) (way : Way) (i : ℕ) (d : Statement) (p q : Progress) →
    i < length ss → Drafts text pieces ss way i p → rest ≡ drop i ss → AddsStatement text pieces rest (get_or ss i d) way p q → Drafts text pieces ss way (i + 1) q
drafts_more text pieces ss rest way i d p q below before is adds =
    another i p q d before below (subst (λ (xs : List Statement). AddsStatement text pieces xs (get_or ss i d) way p q) is adds)

-- a statement whose new text was checked
pub fix_checked : (text : List ℕ) (pieces : List Piece) (s : Statement) (way : Way) (old : List ℕ) (own : List Piece) (heads : Bool) (field : Option Fixed) (made : Fixed) (r : Result (Option Fix) AllocError) →
    old ≡ own_bytes text pieces s → own ≡ own_pieces pieces s → heads ≡ may_head pieces s → Mends old way (option_map fixed field) → field ≡ Some made →
    IfOk r (λ f. Checks text own heads (fixed made) (option_map fix f)) → may_fix text pieces s way ≡ true → IfOk r (λ f. FixOf text pieces s way (option_map fix f))
fix_checked text pieces s way old own heads field made (Err e) same_text same_own same_heads mends is checks within = tt
fix_checked text pieces s way old own heads field made (Ok f) same_text same_own same_heads mends is checks within =
    inl (
      fixed made,
      subst (λ (m : Option Fixed). Mends (own_bytes text pieces s) way (option_map fixed m)) is
          (subst (λ (t : List ℕ). Mends t way (option_map fixed field)) same_text mends),
      subst (λ (h : Bool). Checks text (own_pieces pieces s) h (fixed made) (option_map fix f)) same_heads
          (subst (λ (ps : List Piece). Checks text ps heads (fixed made) (option_map fix f)) same_own checks),
      within,
    )

-- a unit that fixes of this level fix, or not
pub can_fix : (text : List ℕ) (pieces : List Piece) (ss : List Statement) (s unit : Statement) (level : FixLevel) (way : Way) (field : Option Fix) (f : Fix) (r : Result Bool AllocError) →
    way ≡ way_of pieces level → IsUnit text pieces ss s unit → FixOf text pieces unit way (option_map fix field) → field ≡ Some f → r ≡ Ok true →
    IfOk r (λ fixes. CanFix text pieces ss s level fixes)
can_fix text pieces ss s unit level way field f r same of made is answer =
    let yes : CanFix text pieces ss s level true =
    (unit, of, (fix f, subst (λ (w : Way). FixOf text pieces unit w (Some (fix f))) same (subst (λ (o : Option Fix). FixOf text pieces unit way (option_map fix o)) is made))) in
    subst (λ (a : Result Bool AllocError). IfOk a (λ fixes. CanFix text pieces ss s level fixes)) (sym answer) yes

pub cannot_fix : (text : List ℕ) (pieces : List Piece) (ss : List Statement) (s unit : Statement) (level : FixLevel) (way : Way) (field : Option Fix) (r : Result Bool AllocError) →
    way ≡ way_of pieces level → IsUnit text pieces ss s unit → FixOf text pieces unit way (option_map fix field) → field ≡ None → r ≡ Ok false →
    IfOk r (λ fixes. CanFix text pieces ss s level fixes)
cannot_fix text pieces ss s unit level way field r same of made is answer =
    let no : CanFix text pieces ss s level false =
    (unit, of, subst (λ (w : Way). FixOf text pieces unit w None) same (subst (λ (o : Option Fix). FixOf text pieces unit way (option_map fix o)) is made)) in
    subst (λ (a : Result Bool AllocError). IfOk a (λ fixes. CanFix text pieces ss s level fixes)) (sym answer) no
