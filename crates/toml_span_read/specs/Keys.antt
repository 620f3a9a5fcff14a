-- Simple keys and dotted keys (TOML 1.1, "Keys").
use Rattle.std.specs.Prelude.{◌≡◌, ℕ, ◌⊎◌, Bool, false, ◌||◌, ◌==◌, List, [], ◌∷◌}
use Rattle.toml_span_lex.specs.Bytes.{is_keylike, apostrophe, quotation_mark}
use Rattle.toml_span_lex.specs.Strings.{IsString}
use Rattle.toml_span_lex.specs.Tokens.{RunAt}
use Rattle.toml_span_read.specs.Data.{SimpleKey}
use Rattle.toml_span_read.specs.Gaps.{Dot, NoDot}

-- The text from i to j is this key.
--
-- `simple-key = quoted-key / unquoted-key`, `unquoted-key = 1*( ALPHA / DIGIT / %x2D / %x5F )`,
-- `quoted-key = basic-string / literal-string`
abbrev pub SpellsSimpleKey : SimpleKey → List ℕ → ℕ → ℕ → Type 0
SpellsSimpleKey p text i j =
    (RunAt is_keylike text i j p.name × (p.span ≡ record { start = i; end = j }))
    ⊎ ((source : List ℕ) × IsString text i j p.span source p.name false)

-- whether this byte opens a string: `quotation-mark = %x22`, `apostrophe = %x27`
abbrev pub opens_string : ℕ → Bool
opens_string c = c == quotation_mark || c == apostrophe

-- `*( dot-sep simple-key )`: after a key that ends at m these keys follow, up to j, each after a dot; no other dot
-- follows
abbrev pub Onward : List SimpleKey → List ℕ → ℕ → ℕ → Type 0
Onward [] text m j = (j ≡ m) × NoDot text m
Onward (s ∷ ss) text m j = (p q : ℕ) × Dot text m p × SpellsSimpleKey s text p q × Onward ss text q j

-- The text from i to j is a key with these parts. A simple key has one part, a dotted key two or more.
--
-- `key = simple-key / dotted-key`, `dotted-key = simple-key 1*( dot-sep simple-key )`
abbrev pub SpellsKey : List SimpleKey → List ℕ → ℕ → ℕ → Type 0
SpellsKey [] text i j = ⊥
SpellsKey (s ∷ ss) text i j = (m : ℕ) × SpellsSimpleKey s text i m × Onward ss text m j
