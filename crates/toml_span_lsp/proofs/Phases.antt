-- Which messages change the phase of the server.
use Rattle.toml_span_lex.proofs.Common.{◌≡◌, ◌≢◌, ℕ, List, Option, None, Some, Bor, Global, rules, ap, Result, Ok, Err, IfOk, MatchOption, codes, same_Some, subst, sym, refl, ◌∙◌, inl, inr}
use Rattle.json.specs.Find.{get}
use Rattle.json.specs.Json.{Json, document}
use Rattle.json.specs.Json as json
use Rattle.json.specs.Value.{value_view}
use Rattle.json.specs.declared.value.Value.{String, Value, the_lemmas}
use Rattle.toml_span_lsp.specs.Phases.{AfterContent, AfterMessage, AfterNotification, AfterText, AfterRequest, Follows, HasName, IsReadAs}
use Rattle.toml_span_lsp.specs.Messages.{IsText}
use Rattle.toml_span_lsp.specs.declared.incoming.Id.{Id}
use Rattle.toml_span_lsp.specs.declared.incoming.Message.{Message}
use Rattle.toml_span_lsp.specs.declared.incoming.Message.TheVariants.{Call, Response, Invalid}
use Rattle.toml_span_lsp.specs.declared.state.Phase.{Phase}

-- a string of JSON
value_view-String : (s : Bor (List ℕ)) → let v : Value Global = String s in value_view v ≡ json.string s.now
value_view-String s = search (rules, the_lemmas)

pub is_string : (v : Value Global) (s : Bor (List ℕ)) (found : Option Json) → v ≡ String s → Some (value_view v) ≡ found → found ≡ Some (json.string s.now)
is_string v s found is e = sym e ∙ ap (λ (w : Value Global). Some (value_view w)) is ∙ ap (λ (j : Json). Some j) (value_view-String s)

-- whether there is an id
pub id_kind : (id : Option Id) (found : Option Json) → (id ≡ None → found ≡ None) → (found ≡ None → id ≡ None) → MatchOption id (found ≡ None) (λ _. found ≢ None)
id_kind None found absent none = absent refl
id_kind (Some id) found absent none = λ e. let wrong : Some id ≡ None = none e in absurd cc

call_follows : (id : Option Id) (json : Json) (method : List ℕ) (p q : Phase) → HasName json method → MatchOption id (get (codes "id") json ≡ None) (λ _. get (codes "id") json ≢ None)
    → MatchOption id (AfterNotification method p q) (λ _. AfterRequest method p q) → Follows json p q
call_follows None json method p q name is (inl (exit, next)) = inl ((is, subst (HasName json) exit name), next)
call_follows None json method p q name is (inr (other, next)) = inr ((λ e. other (cc (name, e.1.1))), inl next)
call_follows (Some id) json method p q name some (inl next) = inr ((λ e. some e.1.0), inl next)
call_follows (Some id) json method p q name some (inr moves) = inr ((λ e. some e.1.0), inr (method, name, moves))

follows : (json : Json) (message : Message) (p q : Phase) → IsReadAs json message → AfterMessage message p q → Follows json p q
follows json (Call call) p q (name, kind) after = call_follows call.id json call.method.now p q name kind after
follows json (Response id result) p q not next = inr ((λ e. not e.0), inl next)
follows json (Invalid id) p q not next = inr ((λ e. not e.0), inl next)

pub after_content : {A E : Type 0} (r : Result A E) (content : List ℕ) (json : Json) (message : Message) (p q : Phase) → document content ≡ Some json → IsReadAs json message
    → IfOk r (λ _. AfterMessage message p q) → IfOk r (λ _. AfterContent content p q)
after_content (Ok a) content json message p q is read after = λ other text.
    let P : Json → Type 0 = λ j. Follows j p q in
    subst P (same_Some _ _ (sym is ∙ text.1)) (follows json message p q read after)
after_content (Err e) content json message p q is read after = tt

pub after_text : {A E : Type 0} (r : Result A E) (content : List ℕ) (json : Json) (message : Message) (p q : Phase) → IsText content json → IsReadAs json message
    → IfOk r (λ _. AfterMessage message p q) → IfOk r (λ _. AfterText content p q)
after_text (Ok a) content json message p q text is after = inr (json, text, follows json message p q is after)
after_text (Err e) content json message p q text is after = tt
