-- The phases of the server, and the messages that change them (LSP 3.17, Lifecycle Messages).
use Rattle.std.specs.Prelude.{◌≡◌, ◌≢◌, ◌⊎◌, ℕ, Bool, true, false, List, Option, None, Some, MatchOption, codes}
use Rattle.json.specs.Find.{get}
use Rattle.json.specs.Json.{Json}
use Rattle.json.specs.Json as json
use Rattle.toml_span_lsp.specs.declared.incoming.Message.{Message}
use Rattle.toml_span_lsp.specs.declared.incoming.Message.TheVariants.{Call, Response, Invalid}
use Rattle.toml_span_lsp.specs.declared.state.Phase.{Phase}
use Rattle.toml_span_lsp.specs.declared.state.Phase.TheVariants.{New, Running, Shut, Ended}
use Rattle.toml_span_lsp.specs.Messages.{IsNotification, IsText}

-- the exit status: 0 if `shutdown` came before `exit`, otherwise 1, and none before `exit`
abbrev pub exit_status : Phase → Option ℕ
exit_status New = None
exit_status Running = None
exit_status Shut = None
exit_status (Ended true) = Some 0
exit_status (Ended false) = Some 1

-- the phase after `exit`
abbrev pub ended : Phase → Phase
ended New = Ended false
ended Running = Ended false
ended Shut = Ended true
ended (Ended after_shutdown) = Ended false

-- A request with this method, if it is not refused, moves the server to the next phase.
abbrev pub Moves : List ℕ → Phase → Phase → Type 0
Moves method phase next = ((method ≡ codes "initialize") × (phase ≡ New) × (next ≡ Running))
    ⊎ ((method ≡ codes "shutdown") × (phase ≡ Running) × (next ≡ Shut))

-- the phase after a request and after a notification with this method
abbrev pub AfterRequest : List ℕ → Phase → Phase → Type 0
AfterRequest method phase next = (next ≡ phase) ⊎ Moves method phase next

abbrev pub AfterNotification : List ℕ → Phase → Phase → Type 0
AfterNotification method phase next =
    ((method ≡ codes "exit") × (next ≡ ended phase)) ⊎ ((method ≢ codes "exit") × (next ≡ phase))

-- the phase after a message as the server reads it
abbrev pub AfterMessage : Message → Phase → Phase → Type 0
AfterMessage (Call call) phase next = MatchOption call.id (AfterNotification call.method.now phase next)
    (λ _. AfterRequest call.method.now phase next)
AfterMessage (Response id result) phase next = next ≡ phase
AfterMessage (Invalid id) phase next = next ≡ phase

-- The message has this method.
abbrev pub HasName : Json → List ℕ → Type 0
HasName message method = get (codes "method") message ≡ Some (json.string method)

-- A notification is read as a call without an id, and each such call has this method and no id.
abbrev pub IsReadAs : Json → Message → Type 0
IsReadAs value (Call call) = HasName value call.method.now
    × MatchOption call.id (get (codes "id") value ≡ None) (λ _. get (codes "id") value ≢ None)
IsReadAs value (Response id result) = ¬ IsNotification value
IsReadAs value (Invalid id) = ¬ IsNotification value

-- The message is `exit`. Other members than `id` and `method` are left open.
abbrev pub IsExit : Json → Type 0
IsExit message = (get (codes "id") message ≡ None) × HasName message (codes "exit")

-- The phase after a message: the notification `exit` ends the server, and nothing else does.
abbrev pub Follows : Json → Phase → Phase → Type 0
Follows message phase next = (IsExit message × (next ≡ ended phase))
    ⊎ ((¬ (IsNotification message × IsExit message))
    × ((next ≡ phase) ⊎ ((method : List ℕ) × HasName message method × Moves method phase next)))

-- The phase after a text that is read as a message: it stays the same if the text is not JSON.
abbrev pub AfterText : List ℕ → Phase → Phase → Type 0
AfterText text phase next = (next ≡ phase) ⊎ ((message : Json) × IsText text message × Follows message phase next)

-- the phase after this content of a frame, if it is JSON
abbrev pub AfterContent : List ℕ → Phase → Phase → Type 0
AfterContent content phase next = (message : Json) → IsText content message → Follows message phase next
