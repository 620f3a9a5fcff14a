use Rattle.toml_span_lex.proofs.Common.{◌≡◌, ◌∙◌, ℕ, List, Global, ap, map, refl, subst, sym}
use Rattle.std.specs.Borrow.{Bor}
use Rattle.std.specs.Cow.{cow_str_bytes}
use Rattle.toml_span_edit.specs.Drafts.{AreSegments}
use Rattle.toml_span_edit.proofs.EditedAt.{edited, refused}
use Rattle.toml_span_edit.proofs.draft.edited_at.Goals as goal

pub returns-clause-made : goal.returns-clause-made
returns-clause-made c =
    let names : map (λ (s : Bor (List ℕ)). s.now) c.as_slice-2.result.now ≡ map (cow_str_bytes {Z = Global}) c.in_ok-segments.segments.items =
    ap (map (λ (s : Bor (List ℕ)). s.now)) c.as_slice-2.ensures.value ∙ c.in_ok-names.ensures
    ∙ ap (map (cow_str_bytes {Z = Global})) c.as_slice.ensures.value in
    let segments = subst (AreSegments c.args.path.now) (sym names) c.in_ok-segments.ensures.segments in
    edited c.args.path.now c.args.change c.args.text.now (record { path = c.as_slice-2.result; change = c.args.change })
    c.made_at.result segments refl c.made_at.ensures.made

pub returns-clause-refused : goal.returns-clause-refused
returns-clause-refused c =
    let names : map (λ (s : Bor (List ℕ)). s.now) c.as_slice-2.result.now ≡ map (cow_str_bytes {Z = Global}) c.in_ok-segments.segments.items =
    ap (map (λ (s : Bor (List ℕ)). s.now)) c.as_slice-2.ensures.value ∙ c.in_ok-names.ensures
    ∙ ap (map (cow_str_bytes {Z = Global})) c.as_slice.ensures.value in
    let segments = subst (AreSegments c.args.path.now) (sym names) c.in_ok-segments.ensures.segments in
    refused c.args.index c.args.path.now c.args.change c.args.text.now
    (record { path = c.as_slice-2.result; change = c.args.change }) c.made_at.result segments refl c.made_at.ensures.refused
