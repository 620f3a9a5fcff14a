use Rattle.toml_span_lex.proofs.Common.{◌∙◌, ◌++◌, ap, [], inl, map, None, Some, option_map, refl, string_bytes, subst, sym, cow_str_bytes, Appends-nil}
use Rattle.toml_span_tree.specs.Value.{view}
use Rattle.toml_span_check.specs.Answer.{IsNames, found}
use Rattle.toml_span_check.specs.code.Judged.{Judges}
use Rattle.toml_span_check.specs.declared.answer.Judged.{Judged}
use Rattle.toml_span_check.proofs.Judged.{shows-bytes}
use Rattle.toml_span_check.proofs.run.collect_bytes.Goals as goal

pub returns-in-Text : goal.returns-in-Text
returns-in-Text g c =
    let judges = subst (λ (j : Judged). Judges g.S.Schemas.says c.args.question.format c.args.question.task c.args.question.pointer.now c.args.name.now c.args.bytes.now j) c.in-Text.is (c.in_ok-verdict.ensures c.args.question.pointer.now) in
    let items = c.in_ok-extend_from_slice-in-Text.ensures.items ∙ ap (λ t. c.args.held.now.items ++ t) c.as_bytes.ensures.value in
    (c.requires, inl refl, (string_bytes c.in-Text.text, judges, (([], Appends-nil _, items), inl items)))

pub returns-in-Some : goal.returns-in-Some
returns-in-Some g c =
    let judges = subst (λ (j : Judged). Judges g.S.Schemas.says c.args.question.format c.args.question.task c.args.question.pointer.now c.args.name.now c.args.bytes.now j) c.in-Document.is (c.in_ok-verdict.ensures c.args.question.pointer.now) in
    let names = map cow_str_bytes c.as_slice.result.now in
    let is = ap (option_map (λ s. map cow_str_bytes s.items)) c.in-Some.is ∙ ap (λ s. Some (map cow_str_bytes s)) (sym c.as_slice.ensures.value) in
    let found_names = subst (IsNames c.args.question.pointer.now) is c.in_ok-segments-in-Document.ensures in
    shows-bytes g.S.Schemas.says c.args.question.format c.args.question.task c.args.question.pointer.now c.args.name.now c.args.bytes.now c.in-Document.document.printing
    (found c.args.question.format c.in-Document.document.printing c.args.question.pointer.now c.args.name.now c.in-Document.document.text.now (Some names) (view c.in-Document.document.root))
    c.show.result _ _ _ _ _ judges.0 (judges.1 _ (Some names, found_names, refl)) c.show.ensures.verdict c.show.ensures.out

pub returns : goal.returns
returns g c =
    let judges = subst (λ (j : Judged). Judges g.S.Schemas.says c.args.question.format c.args.question.task c.args.question.pointer.now c.args.name.now c.args.bytes.now j) c.in-Document.is (c.in_ok-verdict.ensures c.args.question.pointer.now) in
    let found_names = subst (IsNames c.args.question.pointer.now) (ap (option_map (λ s. map cow_str_bytes s.items)) c.in-None.is) c.in_ok-segments-in-Document.ensures in
    shows-bytes g.S.Schemas.says c.args.question.format c.args.question.task c.args.question.pointer.now c.args.name.now c.args.bytes.now c.in-Document.document.printing
    (found c.args.question.format c.in-Document.document.printing c.args.question.pointer.now c.args.name.now c.in-Document.document.text.now None (view c.in-Document.document.root))
    c.show-in-None.result _ _ _ _ _ judges.0 (judges.1 _ (None, found_names, refl)) c.show-in-None.ensures.verdict c.show-in-None.ensures.out
