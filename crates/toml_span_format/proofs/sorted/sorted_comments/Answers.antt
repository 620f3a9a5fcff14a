use Rattle.toml_span_lex.proofs.Common.{◌≡◌, ◌∙◌, Bor, List, ap, filter, length, map, refl, subst, ℕ}
use Rattle.std.specs.List.Sorted.{IsPermutation}
use Rattle.std.proofs.lemmas.List.Sorted.{IsPermutation-map}
use Rattle.toml_span_format.specs.Tokens.{is_comment, tokens}
use Rattle.toml_span_format.proofs.PieceLemmas.{spans_in}
use Rattle.toml_span_format.proofs.sorted.sorted_comments.Goals as goal

abbrev now : Bor (List ℕ) → List ℕ
now a = a.now

pub tokens_of-requires : goal.tokens_of-requires
tokens_of-requires c =
    let text = c.args.text.now in
    rw (c.as_bytes.ensures.value, c.as_slice.ensures.value) (spans_in text 0 c.in_ok-pieces.pieces.items (length text) c.in_ok-pieces.ensures)

pub returns : goal.returns
returns c =
    let text = c.args.text.now in
    let ps = c.in_ok-pieces.pieces.items in
    let all = rw (c.as_bytes.ensures.value, c.as_slice.ensures.value) at c.in_ok-tokens.ensures in
    let same : map now c.in_ok-found.found.items ≡ filter is_comment (tokens text ps) =
    c.in_ok-found.ensures ∙ ap (λ l. filter is_comment (map now l)) c.as_slice-2.ensures.value ∙ ap (filter is_comment) all in (
      tokens text ps,
      (ps, c.in_ok-pieces.ensures, refl),
      subst (λ l. IsPermutation l (map now c.sort.new.self.items)) same (IsPermutation-map now c.in_ok-found.found.items c.sort.new.self.items c.sort.ensures.permutation),
    )
