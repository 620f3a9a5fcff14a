-- When a reader and a writer count as failed.
use Rattle.std.specs.Prelude.{ℕ, Bool, true, ◌||◌, ◌&&◌, nat_eq, nat_lt, List, length, Result, Ok, Err}

-- A reader has failed once a read has returned an error.
abbrev pub after_read : {X E : Type 0} → Bool → Result X E → Bool
after_read failed (Ok n) = failed
after_read failed (Err e) = true

-- A writer has failed once a write has returned an error, or has accepted no byte of a buffer that was not empty.
abbrev pub after_write : {E : Type 0} → Bool → Result ℕ E → List ℕ → Bool
after_write failed (Ok n) bytes = failed || (nat_eq n 0 && nat_lt 0 (length bytes))
after_write failed (Err e) bytes = true
