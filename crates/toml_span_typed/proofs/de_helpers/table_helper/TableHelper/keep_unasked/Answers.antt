use Rattle.toml_span_lex.proofs.Common.{◌≡◌, [], ◌∷◌, List, sym, subst, ap, ◌∙◌, OnOk, OnErr, Result, Ok, Err, false≢true}
use Rattle.toml_span_tree.specs.Error.{ErrorContent}
use Rattle.toml_span_typed.specs.TableHelper.{State, keeping, state_of, unasked, unexpected_entries}
use Rattle.toml_span_typed.proofs.Tables.{filled-of_entries, unasked-of_entries}
use Rattle.toml_span_typed.proofs.de_helpers.table_helper.TableHelper.keep_unasked.Goals as goal

pub returns-clause-ok : goal.returns-clause-ok
returns-clause-ok c =
    let before = state_of c.args.self.now in
    let some = unasked-of_entries c.args.self.now.table.entries (unexpected_entries before ∷ []) (λ none. false≢true (sym c.if-is_empty.false ∙ c.is_empty.ensures.1 none)) in
    let same : keeping (_ ∷ []) before ≡ keeping (unasked before) before = ap (λ (fs : List ErrorContent). keeping fs before) (ap (λ (f : ErrorContent). f ∷ []) c.in_ok-error.ensures ∙ sym some) in
    let P = λ (s : State). OnOk c.keep.result (state_of c.keep.new.self ≡ s) in
    subst P same c.keep.ensures.ok

-- what holds in any case holds of an error
on_error : {T E : Type 0} {P : Type 0} → (r : Result T E) → P → OnErr r P
on_error (Ok x) p = tt
on_error (Err e) p = p

pub returns-in_err-error-clause-some : goal.returns-in_err-error-clause-some
returns-in_err-error-clause-some c =
    on_error c.from_residual.result (filled-of_entries c.args.self.now.table.entries (λ none. false≢true (sym c.if-is_empty.false ∙ c.is_empty.ensures.1 none)))

pub returns-clause-some : goal.returns-clause-some
returns-clause-some c =
    on_error c.keep.result (filled-of_entries c.args.self.now.table.entries (λ none. false≢true (sym c.if-is_empty.false ∙ c.is_empty.ensures.1 none)))
