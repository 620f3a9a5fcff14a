use Rattle.toml_span_lex.proofs.Common.{◌≡◌, ◌∙◌, ◌++◌, ap, map, subst}
use Rattle.std.specs.List.Sorted.{IsPermutation}
use Rattle.std.proofs.lemmas.List.Sorted.{IsPermutation-map}
use Rattle.toml_span_edit.specs.Comments.{comments}
use Rattle.toml_span_edit.proofs.Steps.{now_of}
use Rattle.toml_span_edit.proofs.comments.sorted_comments.Goals as goal

pub returns : goal.returns
returns c =
    let (ps, whole, one) = c.in_ok-push_all.ensures in
    let (qs, given, two) = c.in_ok-push_all-2.ensures in
    let first = comments c.args.text.now ps in
    let more = comments c.args.value.now qs in
    let before = c.push_all-2.new.found.items in
    let same : map now_of before ≡ first ++ more =
    two ∙ ap (λ l. l ++ more) (one ∙ ap (λ l. map now_of l ++ first) c.new-found.ensures.items) in
    (ps, qs, whole, given, subst (λ l. IsPermutation l (map now_of c.sort.new.self.items)) same (IsPermutation-map now_of before c.sort.new.self.items c.sort.ensures.permutation))
