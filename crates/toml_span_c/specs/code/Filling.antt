-- How the arrays are filled, one part after another.
use Rattle.std.specs.Prelude.{◌≡◌, ◌≤◌, ℕ, zero, suc, ◌+◌, List, [], ◌∷◌, length}
use Rattle.toml_span_c.specs.declared.records.Counts.{Counts}
use Rattle.toml_span_c.specs.declared.records.Record.{Record}
use Rattle.toml_span_c.specs.Records.{Entry, records_of, strings_of}
use Rattle.toml_span_c.specs.declared.records.TheConstants.{NONE}

-- the array with the list `xs` written from the index `at` on, as much of the list as fits
abbrev pub laid : {A : Type 0} → ℕ → List A → List A → List A
laid at xs [] = []
laid zero [] (y ∷ ys) = y ∷ ys
laid zero (x ∷ xs) (y ∷ ys) = x ∷ laid zero xs ys
laid (suc at) xs (y ∷ ys) = y ∷ laid at xs ys

-- The bytes `added` were written after the first `m` bytes, as many as fit. `total` counts the first `m` bytes and all
-- of `added`.
pub record PutsBytes (m : ℕ) (added old new : List ℕ) (total : ℕ) : Type 0 where
  pub bytes : new ≡ laid m added old
  pub count : total ≡ m + length added

-- So far, there are `k` records and `m` bytes, counting those that did not fit.
pub record IsAt (k m : ℕ) (counts : Counts) : Type 0 where
  pub nodes : counts.nodes ≡ k
  pub strings : counts.strings ≡ m

-- If the records and bytes of the entries `es` follow `k` records and `m` bytes, the total numbers still fit into a
-- `usize`.
pub record Fits (document : List ℕ) (k m : ℕ) (es : List Entry) : Type 0 where
  pub few : k + length es ≤ NONE
  pub short : m + length (strings_of document es) ≤ NONE

-- The records and the bytes of the entries `es` were written after the first `k` records and `m` bytes, as many as fit.
-- `total` counts the first `k` records and `m` bytes, and all records and bytes of `es`.
pub record Puts (document : List ℕ) (k m : ℕ) (es : List Entry) (old new : List Record) (bytes bytes' : List ℕ)
    (total : Counts) : Type 0 where
  pub nodes : new ≡ laid k (records_of document m es) old
  pub strings : bytes' ≡ laid m (strings_of document es) bytes
  pub counts : IsAt (k + length es) (m + length (strings_of document es)) total
