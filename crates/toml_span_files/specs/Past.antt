-- What an edit has done to a file.
use Rattle.std.specs.Prelude.{◌≡◌, ◌≤◌, ℕ, Bool, true, false, List, [], ◌∷◌, ◌++◌, length, Option, option_map}
use Rattle.std.specs.Prelude.{Result, Ok, String, string_bytes}
use Rattle.std.specs.Global.{Global}
use Rattle.toml_span_files.specs.declared.TheConstants.{LIMIT}

-- The bytes that the last read returned, the new text that is prepared, and each replacement so far: the bytes that
-- were read last before it, and the text that replaced them.
pub record Texts : Type 0 where
  pub seen : List ℕ
  pub ready : List ℕ
  pub replaced : List (List ℕ × List ℕ)

-- Whether the file is locked against other runs, whether it has been read since the new text was prepared, and the
-- texts, if they are known.
pub record Past : Type 0 where
  pub locked : Bool
  pub fresh : Bool
  pub texts : Option Texts

abbrev pub seen_in : List ℕ → Texts → Texts
seen_in bytes texts = record texts { seen = bytes }

abbrev pub ready_in : List ℕ → Texts → Texts
ready_in text texts = record texts { ready = text }

-- the texts after the prepared one has replaced the file's content
abbrev pub replaced_in : Texts → Texts
replaced_in texts = record texts { replaced = texts.replaced ++ (texts.seen, texts.ready) ∷ [] }

abbrev pub with_lock : Past → Past
with_lock past = record past { locked = true }

abbrev pub without_lock : Past → Past
without_lock past = record past { locked = false }

abbrev pub with_seen : List ℕ → Past → Past
with_seen bytes past = record past { fresh = true; texts = option_map (seen_in bytes) past.texts }

abbrev pub with_ready : List ℕ → Past → Past
with_ready text past = record past { fresh = false; texts = option_map (ready_in text) past.texts }

abbrev pub with_replaced : Past → Past
with_replaced past = record past { fresh = false; texts = option_map replaced_in past.texts }

abbrev pub IsLocked : Past → Type 0
IsLocked past = past.locked ≡ true

-- The content of the file may be replaced: the file is locked, and has been read since the new text was prepared.
abbrev pub IsReplaceable : Past → Type 0
IsReplaceable past = (past.locked ≡ true) × (past.fresh ≡ true)

abbrev pub replacements : Option Texts → Option (List (List ℕ × List ℕ))
replacements texts = option_map (λ t. t.replaced) texts

-- Nothing was replaced.
abbrev pub Keeps : Option Texts → Option Texts → Type 0
Keeps old new = replacements new ≡ replacements old

-- There was one replacement, of these bytes with this text.
abbrev pub Replaces : Option Texts → Option Texts → List ℕ → List ℕ → Type 0
Replaces old new bytes text = replacements new ≡ option_map (λ all. all ++ (bytes, text) ∷ []) (replacements old)

-- A function, whose results `makes` describes, was called with the bytes of the file. Either the text that it returned,
-- which is within the limit, has replaced these bytes; or the text equals the bytes, and nothing was replaced.
pub record Edits {X : Type 0} (makes : List ℕ → Result (String Global) X → Type 0) (is_changed : Bool)
    (old new : Option Texts) : Type 0 where
  pub bytes : List ℕ
  pub text : String Global
  pub made : makes bytes (Ok text)
  pub changed : is_changed ≡ true → Replaces old new bytes (string_bytes text) × (length (string_bytes text) ≤ LIMIT)
  pub same : is_changed ≡ false → Keeps old new × (string_bytes text ≡ bytes)
