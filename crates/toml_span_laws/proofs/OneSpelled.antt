-- At most one form is spelled at an offset, and then reading has no fault: a spelled form is read, and reading has one
-- result.
use Rattle.toml_span_lex.proofs.Common.{◌≡◌, ℕ, zero, ◌+◌, ◌-◌, Bool, false, List, [], length, arith, refl, sym, ap, map, Result, Ok, Err, Vec, Global}
use Rattle.toml_span_lex.specs.declared.stop.Stop.{Stop}
use Rattle.toml_span_lex.specs.declared.stop.Stop.TheVariants as stops
use Rattle.toml_span_tree.specs.Node.{Scalar}
use Rattle.toml_span_tree.specs.declared.error.Error.{Error}
use Rattle.toml_span_read.specs.declared.fault.Fault.{Fault}
use Rattle.toml_span_read.specs.declared.section.Section.{Section}
use Rattle.toml_span_read.specs.Data.{ParsedValue, ParsedSection, parsed_section, SimpleKey}
use Rattle.toml_span_read.specs.Grammar.{Spells, SpellsHeader, SpellsDocument}
use Rattle.toml_span_read.specs.Keys.{SpellsKey}
use Rattle.toml_span_read.specs.Numbers.{IsNumber}
use Rattle.toml_span_read.specs.Numerals.{number}
use Rattle.toml_span_read.specs.Read as read
use Rattle.toml_span_read.specs.Read.{Reading, HeaderEnd}
use Rattle.toml_span_read.specs.Reading.{ReadsDocument, AreRead}
use Rattle.toml_span_read.proofs.NumberComplete.{number_complete}
use Rattle.toml_span_lex.proofs.One.{One, one_is}
use Rattle.toml_span_laws.proofs.OneReading.{key_one, value_one, header_one, document_one}
use Rattle.toml_span_laws.proofs.Complete.{key_complete, value_complete, header_complete, document_complete}

pub same_read : {A : Type 0} (m : Reading A) (a b : A) → One m → m (Ok a) → m (Ok b) → a ≡ b
same_read m a b one h g = let e = one (Ok a) (Ok b) h g in cc

same_place : {A : Type 0} (m : Reading (A × ℕ)) (a b : A) (j k : ℕ) → One m → m (Ok (a, j)) → m (Ok (b, k)) → (a ≡ b) × (j ≡ k)
same_place m a b j k one h g = let e = same_read m (a, j) (b, k) one h g in (ap (λ p. p.0) e, ap (λ p. p.1) e)

pub not_reported : {A : Type 0} (m : Reading A) (a : A) (e : Fault) → One m → m (Ok a) → m (Err e) → ⊥
not_reported m a e one h g = let x = one (Ok a) (Err e) h g in absurd cc

-- ---- one form

pub number_unique : (text : List ℕ) (i j k : ℕ) (s t : Scalar) → IsNumber s text i j → IsNumber t text i k → (s ≡ t) × (j ≡ k)
number_unique text i j k s t a b = same_place (λ r. r ≡ number text i) s t j k one_is (sym (number_complete s text i j a)) (sym (number_complete t text i k b))

pub key_unique : (text : List ℕ) (i j k : ℕ) (ps qs : List SimpleKey) → SpellsKey ps text i j → SpellsKey qs text i k → (ps ≡ qs) × (j ≡ k)
key_unique text i j k ps qs a b =
    let n : ℕ = length ps + length qs in
    same_place (read.key false text n [] i) ps qs j k (key_one false text n [] i) (key_complete ps false text n i j a (omega arith)) (key_complete qs false text n i k b (omega arith))

pub value_unique : (text : List ℕ) (limit d i j k : ℕ) (v w : ParsedValue) → Spells v text limit d i j → Spells w text limit d i k → (v ≡ w) × (j ≡ k)
value_unique text limit d i j k v w a b =
    let left : ℕ = limit + 1 - d in
    same_place (read.value text limit left zero i) v w j k (value_one text limit left zero i) (value_complete v text limit left d i j refl a) (value_complete w text limit left d i k refl b)

pub header_unique : (text : List ℕ) (limit i j k : ℕ) (ps qs : List SimpleKey) (b c : Bool) → SpellsHeader ps b text limit i j → SpellsHeader qs c text limit i k → (ps ≡ qs) × (b ≡ c) × (j ≡ k)
header_unique text limit i j k ps qs b c x y =
    let g : HeaderEnd = record { parts = ps; array = b; end = j } in
    let h : HeaderEnd = record { parts = qs; array = c; end = k } in
    let e : g ≡ h = same_read (read.header text limit i) g h (header_one text limit i) (header_complete ps b text limit i j x) (header_complete qs c text limit i k y) in
    (ap (λ z. z.parts) e, ap (λ z. z.array) e, ap (λ z. z.end) e)

pub document_unique : (text : List ℕ) (limit : ℕ) (bs cs : List ParsedSection) → SpellsDocument bs text limit → SpellsDocument cs text limit → bs ≡ cs
document_unique text limit bs cs x y = same_read (read.document text limit) bs cs (document_one text limit) (document_complete bs text limit x) (document_complete cs text limit y)

-- ---- or a fault

pub header_excluded : (text : List ℕ) (limit i j : ℕ) (ps : List SimpleKey) (b : Bool) (e : Fault) → SpellsHeader ps b text limit i j → read.header text limit i (Err e) → ⊥
header_excluded text limit i j ps b e x h = not_reported (read.header text limit i) (record { parts = ps; array = b; end = j }) e (header_one text limit i) (header_complete ps b text limit i j x) h

pub document_excluded : (text : List ℕ) (limit : ℕ) (bs : List ParsedSection) (e : Fault) → SpellsDocument bs text limit → read.document text limit (Err e) → ⊥
document_excluded text limit bs e x h = not_reported (read.document text limit) bs e (document_one text limit) (document_complete bs text limit x) h

-- a spelled document is read
pub document_read : (text : List ℕ) (limit : ℕ) (r : Result (Vec Section Global) (Stop Error)) (bs : List ParsedSection) → ReadsDocument text limit r → SpellsDocument bs text limit → AreRead bs r
document_read text limit (Ok found) bs h x =
    same_read (read.document text limit) (map parsed_section found.items) bs (document_one text limit) h (document_complete bs text limit x)
document_read text limit (Err (stops.Memory e)) bs h x = tt
document_read text limit (Err (stops.Fault error)) bs (fault, reported, t) x = document_excluded text limit bs fault x reported
