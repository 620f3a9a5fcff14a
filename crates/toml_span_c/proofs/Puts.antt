-- Entries that are written one after the other.
use Rattle.toml_span_lex.proofs.Common.{◌≡◌, ◌≤◌, ℕ, suc, ◌+◌, List, [], ◌∷◌, ◌++◌, length, refl, ap, subst, ◌∙◌, arith, length-append, nat_tests, common_steps}
use Rattle.toml_span_c.specs.declared.records.Counts.{Counts}
use Rattle.toml_span_c.specs.declared.records.Record.{Record}
use Rattle.toml_span_c.specs.declared.records.TheConstants.{NONE}
use Rattle.toml_span_c.specs.Records.{Entry, entry_strings, record_of, records_of, strings_of}
use Rattle.toml_span_c.specs.code.Filling.{laid, Fits, IsAt, Puts, PutsBytes}
use Rattle.toml_span_c.proofs.Arrays.{laid-none, laid-append, laid-before}

pub strings-append : (document : List ℕ) (es fs : List Entry) → strings_of document (es ++ fs) ≡ strings_of document es ++ strings_of document fs
strings-append document [] fs = refl
strings-append document (e ∷ es) fs = grind (arith, nat_tests, common_steps, strings-append document es fs)

pub records-append : (document : List ℕ) (m n : ℕ) (es fs : List Entry) → n ≡ m + length (strings_of document es)
    → records_of document m (es ++ fs) ≡ records_of document m es ++ records_of document n fs
records-append document m n [] fs e = grind (arith, nat_tests, common_steps)
records-append document m n (f ∷ es) fs e =
    let long = length-append (entry_strings document f) (strings_of document es) in
    ap (λ l. record_of document m f ∷ l) (records-append document (m + length (entry_strings document f)) n es fs (omega (arith, e, long)))

pub length-records : (document : List ℕ) (m : ℕ) (es : List Entry) → length (records_of document m es) ≡ length es
length-records document m [] = refl
length-records document m (e ∷ es) = ap (λ n. suc n) (length-records document (m + length (entry_strings document e)) es)

pub at-moved : (k l m n : ℕ) (counts : Counts) → k ≡ l → m ≡ n → IsAt k m counts → IsAt l n counts
at-moved k l m n counts e f at = record { nodes = at.nodes ∙ e; strings = at.strings ∙ f }

pub puts-none : (document : List ℕ) (k m : ℕ) (ns : List Record) (bytes : List ℕ) (counts : Counts) → IsAt k m counts → Puts document k m [] ns ns bytes bytes counts
puts-none document k m ns bytes counts at = grind (arith, nat_tests, common_steps, at-moved, laid-none)

-- the entries of one value, followed by those after it
pub puts-append : (document : List ℕ) (k m : ℕ) (es fs : List Entry) (a b c : List Record) (x y z : List ℕ) (t u : Counts) → Puts document k m es a b x y t
    → Puts document (k + length es) (m + length (strings_of document es)) fs b c y z u → Puts document k m (es ++ fs) a c x z u
puts-append document k m es fs a b c x y z t u p q = grind (arith, nat_tests, common_steps, at-moved, laid-append, length-records, records-append, strings-append)

-- the entry of a value whose record is written last, and those of the values inside it
pub puts-own : (document : List ℕ) (j k m n : ℕ) (e : Entry) (es : List Entry) (r : Record) (a b c : List Record) (x y z : List ℕ) (t : Counts)
    → n ≡ m + length (entry_strings document e) → r ≡ record_of document m e → y ≡ laid m (entry_strings document e) x
    → Puts document (suc k) n es a b y z t → c ≡ laid j (r ∷ []) b → j ≡ k → Puts document k m (e ∷ es) a c x z t
puts-own document j k m n e es r a b c x y z t at own first p last same = grind (arith, nat_tests, common_steps, at-moved, laid-append, laid-before)

pub bytes-append : (m : ℕ) (xs ys a b c : List ℕ) (t u : ℕ) → PutsBytes m xs a b t → PutsBytes (m + length xs) ys b c u → PutsBytes m (xs ++ ys) a c u
bytes-append m xs ys a b c t u p q = grind (arith, nat_tests, common_steps, laid-append)

-- ---- what can be counted

-- an entry, and those after it
pub fits-own : (document : List ℕ) (k m : ℕ) (e : Entry) (es : List Entry) → Fits document k m (e ∷ es)
    → (m + length (entry_strings document e) ≤ NONE) × Fits document (suc k) (m + length (entry_strings document e)) es
fits-own document k m e es h = grind (arith, nat_tests, common_steps)

-- a part
pub fits-part : (document : List ℕ) (k m : ℕ) (es fs gs : List Entry) → Fits document k m (es ++ (fs ++ gs))
    → Fits document (k + length es) (m + length (strings_of document es)) fs
fits-part document k m es fs gs h = grind (arith, nat_tests, common_steps)

pub fits-same : (document : List ℕ) (k m : ℕ) (es fs : List Entry) → es ≡ fs → Fits document k m es → Fits document k m fs
fits-same document k m es fs e h = subst (λ (l : List Entry). Fits document k m l) e h
