-- The messages that the server sends.
use Rattle.toml_span_lex.proofs.Common.{◌≡◌, ℕ, List, [], ◌∷◌, ◌++◌, Option, None, Some, Result, Ok, Err, IfOk, ◌∙◌, map, option_map, same_Some, Vec, Global, ap, inl, inr, subst, sym, codes}
use Rattle.std.specs.List.{All}
use Rattle.std.specs.Option.{option_to_list}
use Rattle.std.proofs.lemmas.List.Elements.{All-append, All-from_recursion, All-nil}
use Rattle.json.specs.Token.{Token}
use Rattle.json.specs.Json.{Json, document}
use Rattle.toml_span_lsp.specs.Messages.{Answers, IsAnswer, IsCall, IsMessage, IsNotification, IsRequest, IsResponse, Responds, Sends, call_head, response_head}

pub is_result : {E : Type 0} (r : Result (Vec ℕ Global) E) (tokens : List Token) (id : Token) → IfOk r (λ m. IsMessage tokens m.items) → tokens ≡ response_head id (codes "result") → IfOk r (λ m. IsResponse id m.items)
is_result (Ok m) tokens id h same = inl (subst (λ (ts : List Token). IsMessage ts m.items) same h)
is_result (Err e) tokens id h same = tt

pub is_error : {E : Type 0} (r : Result (Vec ℕ Global) E) (tokens : List Token) (id : Token) → IfOk r (λ m. IsMessage tokens m.items) → tokens ≡ response_head id (codes "error") → IfOk r (λ m. IsResponse id m.items)
is_error (Ok m) tokens id h same = inr (subst (λ (ts : List Token). IsMessage ts m.items) same h)
is_error (Err e) tokens id h same = tt

pub is_call : {E : Type 0} (r : Result (Vec ℕ Global) E) (tokens : List Token) (id : Option (List ℕ)) (method : List ℕ) → IfOk r (λ m. IsMessage tokens m.items) → tokens ≡ call_head id method → IfOk r (λ m. IsCall m.items)
is_call (Ok m) tokens id method h same = (id, method, subst (λ (ts : List Token). IsMessage ts m.items) same h)
is_call (Err e) tokens id method h same = tt

-- the response alone
pub sends_first : (response : Option (List ℕ)) (messages : List (List ℕ)) → messages ≡ option_to_list response → Sends response messages
sends_first None messages is = subst (All IsCall) (sym is) (All-nil IsCall)
sends_first (Some text) messages is = ([], is, All-nil IsCall)

-- one call more
pub sends_more : (response : Option (List ℕ)) (messages : List (List ℕ)) (call : List ℕ) → Sends response messages → IsCall call → Sends response (messages ++ call ∷ [])
sends_more None messages call sent is = All-append IsCall messages (call ∷ []) sent (All-from_recursion IsCall (call ∷ []) (is, tt))
sends_more (Some text) messages call (calls, are, sent) is =
    (calls ++ call ∷ [], ap (λ xs. xs ++ call ∷ []) are, All-append IsCall calls (call ∷ []) sent (All-from_recursion IsCall (call ∷ []) (is, tt)))

-- a message that is JSON
pub responds_to : {E : Type 0} (r : Result (Option (Vec ℕ Global)) E) (content : List ℕ) (json : Json) (awaits : Option Token) → document content ≡ Some json
    → ((id : Token) → IsRequest json id → awaits ≡ Some id) → (IsNotification json → awaits ≡ None)
    → IfOk r (λ response. IsAnswer awaits (option_map (λ text. text.items) response)) → IfOk r (λ response. Responds content (option_map (λ text. text.items) response))
responds_to (Ok response) content json awaits is asks tells answer = record {
  request = λ message id text request.
      let same : message ≡ json = same_Some _ _ (sym text.1 ∙ is) in
      subst (λ (a : Option Token). IsAnswer a (option_map (λ text. text.items) response)) (asks id (subst (λ (j : Json). IsRequest j id) same request)) answer;
  notification = λ message text notification.
      let same : message ≡ json = same_Some _ _ (sym text.1 ∙ is) in
      subst (λ (a : Option Token). IsAnswer a (option_map (λ text. text.items) response)) (tells (subst IsNotification same notification)) answer;
}
responds_to (Err e) content json awaits is asks tells answer = tt

-- the response and what else is sent
pub answers : {E : Type 0} (r : Result (Vec (Vec ℕ Global) Global) E) (content : List ℕ) (response : Option (List ℕ)) → Responds content response
    → IfOk r (λ messages. Sends response (map (λ text. text.items) messages.items)) → IfOk r (λ messages. Answers content (map (λ text. text.items) messages.items))
answers (Ok messages) content response responds sends =
    let P : Option (List ℕ) → Type 0 = λ sent. Sends sent (map (λ text. text.items) messages.items) in
    record {
      request = λ message id text request.
          let answer = responds.request message id text request in
          (answer.0, answer.2, subst P answer.1 sends);
      notification = λ message text notification. subst P (responds.notification message text notification) sends;
    }
answers (Err e) content response responds sends = tt
