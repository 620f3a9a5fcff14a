use Rattle.toml_span_lex.proofs.Common.{◌≡◌, ℕ, Bor, List, None, ap, none-some}
use Rattle.toml_span_lsp.proofs.Phases.{id_kind, is_string}
use Rattle.toml_span_lsp.proofs.incoming.message_of.Goals as goal

pub returns-in_default-clause-request : goal.returns-in_default-clause-request
returns-in_default-clause-request c = λ id is. absurd (none-some _ (c.in_default.ensures.some id is.1))

pub returns-in-Some-String-clause-request : goal.returns-in-Some-String-clause-request
returns-in-Some-String-clause-request c = λ id is. c.in-Ok.ensures.some id is.1

pub returns-in-Some-String-clause-read : goal.returns-in-Some-String-clause-read
returns-in-Some-String-clause-read c =
    let name = is_string _ _ _ c.in-Some-String.field-0-is c.in-Some-String.ensures in
    let same = ap (λ (text : Bor (List ℕ)). text.now) c.in-Some-String.method-is in (
      cc (name, same),
      id_kind c.in-Ok.id _ (λ e. c.in-Ok.ensures.absent (cc e)) (λ e. let none : c.in-Ok.id ≡ None = cc (c.in-Ok.ensures.none e) in none),
    )
