use Rattle.toml_span_lex.proofs.Common.{◌≡◌, ℕ, Bool, true, false, List, inl, inr, subst}
use Rattle.toml_span_check.specs.declared.newer.Version.{Version}
use Rattle.toml_span_check.specs.declared.schemas.Chooser.{Chooser}
use Rattle.toml_span_editor.specs.Diagnostics.{Diagnoses, DiagnosesWithoutSchema}
use Rattle.toml_span_editor.specs.declared.diagnostics.Diagnosed.{Diagnosed}
use Rattle.toml_span_editor.specs.declared.positions.Encoding.{Encoding}
use Rattle.toml_span_lookup.specs.Findings.{MayHaveSchema, MayLackSchema, TellsNoSchema, chooser_of, file_says}
use Rattle.toml_span_lookup.specs.declared.lookup.Lookup.{Lookup}
use Rattle.toml_span_lsp.proofs.publish.diagnosed.Goals as goal

lacks : (lookup : Lookup) (b : Bool) (t text : List ℕ) → t ≡ text → b ≡ true → TellsNoSchema lookup t b → MayLackSchema lookup text
lacks lookup b t text same is x = subst (λ u. MayLackSchema lookup u) same (subst (TellsNoSchema lookup t) is x)

has : (lookup : Lookup) (b : Bool) (t text : List ℕ) → t ≡ text → b ≡ false → TellsNoSchema lookup t b → MayHaveSchema (chooser_of lookup) text
has lookup b t text same is x = subst (λ u. MayHaveSchema (chooser_of lookup) u) same (subst (TellsNoSchema lookup t) is x)

without : (version : Version) (n name : List ℕ) (encoding : Encoding) (t text : List ℕ) (made : Diagnosed)
    → n ≡ name → t ≡ text → DiagnosesWithoutSchema version n encoding t made → DiagnosesWithoutSchema version name encoding text made
without version n name encoding t text made hn ht x = rw (← hn, ← ht) x

with : (version : Version) (c chooser : Chooser) (n name : List ℕ) (encoding : Encoding) (t text : List ℕ) (made : Diagnosed)
    → c ≡ chooser → n ≡ name → t ≡ text → Diagnoses file_says version c n encoding t made → Diagnoses file_says version chooser name encoding text made
with version c chooser n name encoding t text made hc hn ht x = rw (← hc, ← hn, ← ht) x

pub returns-then-branch : goal.returns-then-branch
returns-then-branch c = inl (
  lacks _ _ _ _ c.as_str-text.ensures.value c.if-branch.true c.in_ok-has_no_schema.ensures,
  without _ _ _ _ _ _ c.in_ok-made.made c.as_str-name.ensures.value c.as_str-text.ensures.value c.in_ok-made.ensures,
)

pub returns : goal.returns
returns c = inr (
  has _ _ _ _ c.as_str-text.ensures.value c.if-branch.false c.in_ok-has_no_schema.ensures,
  with _ _ _ _ _ _ _ _ c.in_ok-made-2.made c.chooser-chooser.ensures c.as_str-name.ensures.value c.as_str-text.ensures.value c.in_ok-made-2.ensures,
)
