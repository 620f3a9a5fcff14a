-- Messages (JSON-RPC 2.0), and which of them are answered.
use Rattle.std.specs.Prelude.{◌≡◌, ℕ, List, [], ◌∷◌, ◌++◌, Option, Some, None, Result, Ok, Err, IsUtf8, codes, option_map, ◌⊎◌, FitsSigned}
use Rattle.std.specs.List.{All}
use Rattle.std.specs.Fmt.{signed_decimal}
use Rattle.std.specs.Int.{w64}
use Rattle.std.specs.Str.Parse.{IsNumeral, signed_digits_value, without_leading_sign}
use Rattle.json.specs.Find.{get}
use Rattle.json.specs.Json.{Json, document}
use Rattle.json.specs.Json as json
use Rattle.json.specs.Print.{print}
use Rattle.json.specs.Token.{Token, begin_object, key, string, number, null}
use Rattle.toml_span_lsp.specs.declared.incoming.Id.{Id}
use Rattle.toml_span_lsp.specs.declared.incoming.Id.TheVariants.{Null, Number, Text}
use Rattle.toml_span_lsp.specs.declared.incoming.Message.{Message}
use Rattle.toml_span_lsp.specs.declared.incoming.Message.TheVariants.{Call, Response, Invalid}

-- the first member of each message that the server sends, after the opening brace
abbrev pub version_member : List Token
version_member = begin_object ∷ key (codes "jsonrpc") ∷ string (codes "2.0") ∷ []

abbrev pub id_member : Token → List Token
id_member id = key (codes "id") ∷ id ∷ []

-- the member `id` of a request of the server, or nothing for a notification
abbrev pub optional_id : Option (List ℕ) → List Token
optional_id None = []
optional_id (Some id) = id_member (string id)

-- These tokens, the value of the last member, and a closing brace.
abbrev pub IsMessage : List Token → List ℕ → Type 0
IsMessage head message = (value : List ℕ) × (message ≡ print head ++ (value ++ codes "}"))

-- the beginning of a response to the request with this id
abbrev pub response_head : Token → List ℕ → List Token
response_head id name = version_member ++ id_member id ++ key name ∷ []

-- a response to the request with this id: a result, or an error
abbrev pub IsResponse : Token → List ℕ → Type 0
IsResponse id message =
    IsMessage (response_head id (codes "result")) message ⊎ IsMessage (response_head id (codes "error")) message

-- the beginning of a notification or a request of the server
abbrev pub call_head : Option (List ℕ) → List ℕ → List Token
call_head id method =
    version_member ++ optional_id id ++ key (codes "method") ∷ [] ++ string method ∷ [] ++ key (codes "params") ∷ []

-- a notification, or a request of the server
abbrev pub IsCall : List ℕ → Type 0
IsCall message = (id : Option (List ℕ)) × (method : List ℕ) × IsMessage (call_head id method) message

-- The messages are the response, if there is one, and then notifications and requests of the server.
abbrev pub Sends : Option (List ℕ) → List (List ℕ) → Type 0
Sends None messages = All IsCall messages
Sends (Some response) messages = (calls : List (List ℕ)) × (messages ≡ response ∷ calls) × All IsCall calls

-- `id` is this value, as the server writes it. A number must be an integer that fits into 64 bits.
abbrev pub IsIdOf : Token → Json → Type 0
IsIdOf id json.null = id ≡ null
IsIdOf id (json.boolean _) = ⊥
IsIdOf id (json.number s) = IsNumeral 10 (without_leading_sign s) × FitsSigned w64 (signed_digits_value 10 s)
    × (id ≡ number (signed_decimal (signed_digits_value 10 s)))
IsIdOf id (json.string s) = id ≡ string s
IsIdOf id (json.array _) = ⊥
IsIdOf id (json.object _) = ⊥

-- a message that has this id
abbrev pub HasId : Json → Token → Type 0
HasId message id = (value : Json) × (get (codes "id") message ≡ Some value) × IsIdOf id value

-- a request or a notification
abbrev pub HasMethod : Json → Type 0
HasMethod message = (method : List ℕ) × (get (codes "jsonrpc") message ≡ Some (json.string (codes "2.0")))
    × (get (codes "method") message ≡ Some (json.string method))

abbrev pub IsRequest : Json → Token → Type 0
IsRequest message id = HasMethod message × HasId message id

abbrev pub IsNotification : Json → Type 0
IsNotification message = HasMethod message × (get (codes "id") message ≡ None)

-- the content of a frame is this JSON value
abbrev pub IsText : List ℕ → Json → Type 0
IsText content message = IsUtf8 content × (document content ≡ Some message)

-- The messages answer this content of a frame: a request has one response, which comes first, and a notification has
-- none.
pub record Answers (content : List ℕ) (messages : List (List ℕ)) : Type 0 where
  pub request : (message : Json) (id : Token) → IsText content message → IsRequest message id →
      (response : List ℕ) × IsResponse id response × Sends (Some response) messages
  pub notification : (message : Json) → IsText content message → IsNotification message → Sends None messages

-- an id as the server writes it
abbrev pub id_token : Id → Token
id_token Null = null
id_token (Number n) = number (signed_decimal n)
id_token (Text s) = string s.now

abbrev pub read_id : {E : Type 0} → Result (Option Id) E → Option Token
read_id (Ok id) = option_map id_token id
read_id (Err e) = None

-- the id of the response to a message, if it has one
abbrev pub awaited : Message → Option Token
awaited (Call call) = option_map id_token call.id
awaited (Response id result) = None
awaited (Invalid id) = Some (id_token id)

-- a response with this id, or none
abbrev pub IsAnswer : Option Token → Option (List ℕ) → Type 0
IsAnswer None response = response ≡ None
IsAnswer (Some id) response = (text : List ℕ) × (response ≡ Some text) × IsResponse id text

-- The response to this content of a frame: a request has one, and a notification has none.
pub record Responds (content : List ℕ) (response : Option (List ℕ)) : Type 0 where
  pub request : (message : Json) (id : Token) → IsText content message → IsRequest message id → IsAnswer (Some id) response
  pub notification : (message : Json) → IsText content message → IsNotification message → IsAnswer None response
