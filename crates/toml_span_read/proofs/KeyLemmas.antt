-- How dotted keys are composed.
use Rattle.toml_span_lex.proofs.Common.{common_steps, nat_tests, ◌≡◌, ℕ, zero, suc, ◌+◌, ◌-◌, ◌<◌, ◌≤◌, ◌⊎◌, Bool, true, false, List, [], ◌∷◌, ◌++◌, length, map, get_or, arith, inl, inr, refl, ◌∙◌, ap, length-append, append_assoc, Result, Ok, Err, IsErrAnd, map-append}
use Rattle.toml_span_lex.specs.declared.key.Key.{Key}
use Rattle.toml_span_lex.specs.declared.stop.Stop.{Stop}
use Rattle.toml_span_lex.specs.Bytes.{is_keylike}
use Rattle.toml_span_read.proofs.FaultPlaces.{so_told}
use Rattle.toml_span_read.proofs.KeyOrder.{key_inside}
use Rattle.toml_span_read.specs.declared.fault.ExpectedToken.TheVariants as expected_tokens
use Rattle.toml_span_read.specs.Faults.{StartsInside}
use Rattle.toml_span_read.specs.declared.fault.Fault.{Fault}
use Rattle.toml_span_read.specs.Gaps.{Dot, NoDot}
use Rattle.toml_span_read.specs.Keys.{SpellsSimpleKey, SpellsKey, opens_string}
use Rattle.toml_span_read.specs.Data.{SimpleKey, simple_key}
use Rattle.toml_span_read.specs.Read as read
use Rattle.toml_span_read.specs.Read.{NextToken, IsNextToken, token, no_token, key_result, one_too_many, Parts}
use Rattle.toml_span_read.specs.code.Keys.{key_found, PartGives}
use Rattle.toml_span_read.specs.code.Faults.{MatchesReading, IsPlacedStop}
use Rattle.toml_span_read.specs.code.Strings.{StringReads}
use Rattle.toml_span_read.specs.code.Wanted.{WantedGives}

-- the error that `?` returns
pub handed_on : {T E : Type 0} (r : Result T E) (x : E) → IsErrAnd r (λ y. y ≡ x) → r ≡ Err x
handed_on r x h = grind (arith, nat_tests, common_steps)

pub one_more : {A : Type 0} (xs ys : List A) (x : A) → ys ≡ xs ++ (x ∷ []) → length ys ≡ length xs + 1
one_more xs ys x e = rw e (length-append xs (x ∷ []))

-- ---- spans

pub key_placed : (text : List ℕ) (i j : ℕ) (p : SimpleKey) → SpellsSimpleKey p text i j → StartsInside text p.span
key_placed text i j p h = let l = (key_inside p text i j h).0 in record { within = omega (arith, l.forward, l.ends, l.within); forward = l.forward }

-- ---- simple keys as they are read

pub string_stops : (stop : Stop Fault) (text : List ℕ) (i : ℕ) → StringReads text i (Err stop) → MatchesReading key_found (read.simple_key_at text i) (Err stop)
string_stops stop text i h = so_told _ _ stop h (λ e (j, x, bad, is). (no_token x, (j, bad), ap (λ y. Err y) is))

pub wanted_stops : (stop : Stop Fault) (text : List ℕ) (i : ℕ) → WantedGives text i expected_tokens.TableKey stop → is_keylike (get_or text i 0) ≡ false → opens_string (get_or text i 0) ≡ false
    → MatchesReading key_found (read.simple_key_at text i) (Err stop)
wanted_stops stop text i h k o = grind (arith, nat_tests, common_steps)

-- ---- keys as they are read

key_stops : (header : Bool) (text : List ℕ) (left i : ℕ) (e : Fault) → read.simple_key_at text i (Err e) → (ps : List SimpleKey) → read.key header text left ps i (Err e)
unfolding read.key
key_stops header text left i e h ps = grind (arith, nat_tests, common_steps)

pub key_past : (header : Bool) (text : List ℕ) (left i j : ℕ) (s : SimpleKey) → left ≡ 0 → read.simple_key_at text i (Ok (s, j)) → (ps : List SimpleKey) → read.key header text left ps i (Err (one_too_many header i s))
unfolding read.key
key_past header text left i j s z h ps = rw z (inl ((s, j), h, refl))

pub part_stops : (stop : Stop Fault) (header : Bool) (text : List ℕ) (limit n i : ℕ) → MatchesReading key_found (read.simple_key_at text i) (Err stop) → IsPlacedStop text stop → PartGives header text limit n i (Err stop)
part_stops stop header text limit n i h placed = grind (arith, key_stops)

pub part_placed : (stop : Stop Fault) (header : Bool) (text : List ℕ) (limit n i : ℕ) → PartGives header text limit n i (Err stop) → IsPlacedStop text stop
part_placed stop header text limit n i h = grind (arith, nat_tests, common_steps)

-- whatever is read at m after these parts is read from i on
abbrev pub AfterElement : Bool → List ℕ → ℕ → ℕ → List Key → ℕ → Type 0
AfterElement header text limit i ps m =
    (n : ℕ) (r : Result Parts Fault) → length ps + n ≡ limit → read.key header text n (map simple_key ps) m r → read.key header text limit [] i r

pub none_after : (header : Bool) (text : List ℕ) (limit i : ℕ) (ps : List Key) → ps ≡ [] → AfterElement header text limit i ps i
none_after header text limit i ps h = grind (arith, nat_tests, common_steps)

pub more_after : (header : Bool) (text : List ℕ) (limit i m k p : ℕ) (ps qs : List Key) (s : Key) → qs ≡ ps ++ (s ∷ []) → read.simple_key_at text m (Ok (simple_key s, k)) → Dot text k p → AfterElement header text limit i ps m
    → AfterElement header text limit i qs p
unfolding read.key
more_after header text limit i m k p ps qs s e h d beyond n r few o =
    let l = one_more ps qs s e in
    beyond (suc n) r (omega arith) (inl ((simple_key s, k), h, inr (p, d, (rw (e, map-append simple_key ps (s ∷ [])) at o))))

pub last_after : (header : Bool) (text : List ℕ) (limit i m k : ℕ) (ps : List Key) (s : Key) → length ps < limit → read.simple_key_at text m (Ok (simple_key s, k)) → NoDot text k → AfterElement header text limit i ps m
    → read.key header text limit [] i (Ok (map simple_key ps ++ (simple_key s ∷ []), k))
unfolding read.key
last_after header text limit i m k ps s few h none beyond =
    beyond (suc (limit - (length ps + 1))) (Ok (map simple_key ps ++ (simple_key s ∷ []), k)) (omega arith) (inl ((simple_key s, k), h, inl (none, refl)))

pub stops_after : {A : Type 0} (view : A → Parts) (stop : Stop Fault) (header : Bool) (text : List ℕ) (limit i m n : ℕ) (ps : List Key) → n ≡ length ps → length ps ≤ limit → AfterElement header text limit i ps m
    → PartGives header text limit n m (Err stop) → MatchesReading view (read.key header text limit [] i) (Err stop)
stops_after view stop header text limit i m n ps is few beyond h = so_told _ _ stop h (λ e g. beyond (limit - n) (Err e) (omega arith) (g.0 (map simple_key ps)))

pub parts_length : (inner : List Key) (last : Key) → length (map simple_key inner ++ (simple_key last ∷ [])) ≡ length inner + 1
parts_length inner last = grind (arith, nat_tests, common_steps)

-- ---- what is read is spelled

-- what is read after something else is read after its result
pub after_gives : {X B : Type 0} {Q : Fault → Type 0} {b : B} → X ⊎ ((e : Fault) × Q e × (◌≡◌ {A = Result B Fault} (Ok b) (Err e))) → X
after_gives h = grind (arith)

-- if something is read, nothing is missing
pub not_missing : {A X N : Type 0} {S : NextToken → Type 0} {f : NextToken → Fault} {a : A} → X ⊎ (N × ((next_token : NextToken) × S next_token × (◌≡◌ {A = Result A Fault} (Ok a) (Err (f next_token))))) → X
not_missing h = grind (arith)

-- what is read is the result
pub same_read : {A : Type 0} (P : A → Type 0) {x y : A} → ◌≡◌ {A = Result A Fault} (Ok x) (Ok y) → P y → P x
same_read P u h = grind arith

pub simple_sound : (s : SimpleKey) (text : List ℕ) (i m : ℕ) → read.simple_key_at text i (Ok (s, m)) → SpellsSimpleKey s text i m
simple_sound s text i m h = grind (arith, nat_tests, common_steps)

-- other parts are spelled after these
abbrev KeyAfter : List SimpleKey → List ℕ → ℕ → ℕ → Parts → Type 0
KeyAfter ps text left i f = (ts : List SimpleKey) × (f.0 ≡ ps ++ ts) × SpellsKey ts text i f.1 × (length ts ≤ left)

dotted_more : (s : SimpleKey) (ss : List SimpleKey) (text : List ℕ) (i m p j : ℕ) → SpellsSimpleKey s text i m → Dot text m p → SpellsKey ss text p j → SpellsKey (s ∷ ss) text i j
dotted_more s ss text i m p j k d h = grind (arith, nat_tests, common_steps)

after_sound : (header : Bool) (text : List ℕ) (left : ℕ) (ps : List SimpleKey) (i : ℕ) (f : Parts) → read.key header text left ps i (Ok f) → KeyAfter ps text left i f
unfolding read.key
after_sound header text zero ps i f (inl (s, h, u)) = absurd cc
after_sound header text zero ps i f (inr (e, h, u)) = absurd cc
after_sound header text (suc n) ps i f (inl ((s, m), h, inl (none, u))) =
    same_read (KeyAfter ps text (suc n) i) u (s ∷ [], refl, (m, simple_sound s text i m h, (refl, none)), omega arith)
after_sound header text (suc n) ps i f (inl ((s, m), h, inr (p, d, k))) =
    let (ts, is, spelled, few) = after_sound header text n (ps ++ (s ∷ [])) p f k in
    (s ∷ ts, is ∙ append_assoc ps (s ∷ []) ts, dotted_more s ts text i m p f.1 (simple_sound s text i m h) d spelled, omega (arith, few))
after_sound header text (suc n) ps i f (inr (e, h, u)) = absurd cc

pub key_sound : (header : Bool) (text : List ℕ) (limit i j : ℕ) (ss : List SimpleKey) → read.key header text limit [] i (Ok (ss, j)) → SpellsKey ss text i j × (length ss ≤ limit)
key_sound header text limit i j ss h = grind (arith, after_sound header text limit [] i (ss, j))

pub past_placed : (header : Bool) (text : List ℕ) (i j : ℕ) (s : SimpleKey) → i ≤ length text → SpellsSimpleKey s text i j → StartsInside text (one_too_many header i s).span
past_placed true text i j s within h = key_placed text i j s h
past_placed false text i j s within h = record { within = within; forward = omega arith }
