-- The kinds that were expected in failed attempts to read a piece.
use Rattle.std.specs.Prelude.{ℕ, Bool, true, false, not, ◌&&◌, ◌==◌, List, [], ◌∷◌, ◌++◌, if◌then◌else◌}
use Rattle.std.specs.List.{list_any}
use Rattle.std.specs.Str.{bytes_eq}
use Rattle.toml_span_serde.specs.Misfits.{words_of}
use Rattle.toml_span_serde.specs.declared.misfit.Expected.{Expected}
use Rattle.toml_span_serde.specs.declared.tried.Tried.{Tried}

-- the position of the piece, whether one of the attempts has read it, and which kinds the others expected
pub record Tries : Type 0 where
  pub at : ℕ
  pub is_read : Bool
  pub kinds : List Expected

abbrev pub tries : Tried → Tries
tries t = record { at = t.at; is_read = t.is_read; kinds = t.kinds.items }

-- whether the kind is among these
abbrev pub is_among : Expected → List Expected → Bool
is_among e kinds = list_any (λ kind. bytes_eq (words_of kind) (words_of e)) kinds

-- the kinds with this one added, unless it is among them
abbrev pub with_kind : Expected → List Expected → List Expected
with_kind e kinds = if is_among e kinds then kinds else kinds ++ (e ∷ [])

-- the record after an attempt that expected this kind at this piece
abbrev pub missed : ℕ → Expected → Tries → Tries
missed at e t =
    if t.at == at then record t { kinds = with_kind e t.kinds }
    else record { at = at; is_read = false; kinds = e ∷ [] }

-- the record after an attempt that has read this piece, and failed later
abbrev pub noted_read : ℕ → Tries
noted_read at = record { at = at; is_read = true; kinds = [] }

-- The kinds that failed attempts expected at the position `at`. The list is empty if the attempts were at another
-- position, or if one of them has read the piece, whose kind was thus accepted.
abbrev pub kinds_at : ℕ → Tries → List Expected
kinds_at at t = if (t.at == at) && not t.is_read then t.kinds else []
