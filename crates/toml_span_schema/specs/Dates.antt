-- Dates and times as RFC 3339 writes them.
use Rattle.std.specs.Prelude.{ℕ, ◌==◌, List, [], ◌∷◌, ◌++◌, Bool, ◌&&◌, ◌||◌, not, if◌then◌else◌, codes, chars}
use Rattle.std.specs.Char.{encode_utf8}

-- TOML also allows a blank or `t` instead of `T`, and `z` instead of `Z`
abbrev pub upper : ℕ → ℕ
upper c = if c == 32 || c == 116 then 84 else (if c == 122 then 90 else c)

-- The state is 0 before the colon of a time, 1 and 2 in its minutes, 3 after them, and 4 from the next character on.
abbrev pub next_place : ℕ → ℕ → ℕ
next_place place c =
    if place == 0 then (if c == 58 then 1 else 0)
    else (if place == 1 then 2 else (if place == 2 then 3 else 4))

abbrev pub date_piece : ℕ → ℕ → List ℕ
date_piece place c = (if place == 3 && not (c == 58) then codes ":00" else []) ++ encode_utf8 (upper c)

abbrev pub rfc3339_from : ℕ → List ℕ → List ℕ
rfc3339_from place [] = if place == 3 then codes ":00" else []
rfc3339_from place (c ∷ cs) = date_piece place c ++ rfc3339_from (next_place place c) cs

-- a date, a time, or a date and a time of TOML, with seconds, and with `T` and `Z`
unfoldable pub rfc3339 : List ℕ → List ℕ
rfc3339 text = rfc3339_from 0 (chars text)
