-- Paths as text: a pointer, or a dotted key with positions in brackets, such as `a."b/c"[0]`.
use Rattle.std.specs.Prelude.{◌≡◌, ◌<◌, ◌≤◌, ◌+◌, ◌⊎◌, ℕ, Bool, true, false, ◌&&◌, ◌||◌, ◌==◌, not, List, [], ◌∷◌}
use Rattle.std.specs.Prelude.{length}
use Rattle.std.specs.Prelude.{slice_index, Option, Some, None, option_and_then, Result, Ok, Err, Vec, map}
use Rattle.std.specs.List.{list_all}
use Rattle.std.specs.Char.{is_ascii_digit}
use Rattle.std.specs.Cow.{cow_str_bytes}
use Rattle.std.specs.Global.{Global}
use Rattle.std.specs.declared.borrow.CowStr.{CowStr}
use Rattle.toml_span_lex.specs.Bytes.{digit_zero, is_keylike, left_bracket, right_bracket}
use Rattle.toml_span_lex.specs.Strings.{IsNoString, IsString}
use Rattle.toml_span_lex.specs.Tokens.{RunAt}
use Rattle.toml_span_lex.specs.declared.span.Span.{Span}
use Rattle.toml_span_lex.specs.declared.stop.Stop.{Stop}
use Rattle.toml_span_lex.specs.declared.stop.Stop.TheVariants as memory_or
use Rattle.toml_span_lex.specs.declared.tokens.Error.{Error}
use Rattle.toml_span_lex.specs.declared.tokens.Error.TheVariants as errors
use Rattle.toml_span_read.specs.Gaps.{Dot, NoDot}
use Rattle.toml_span_read.specs.Keys.{opens_string}
use Rattle.toml_span_tree.specs.Node.{Node}
use Rattle.toml_span_tree.specs.Path.{node_at}
use Rattle.toml_span_tree.specs.Pointer.{path_named, pointer_segments}
use Rattle.toml_span_places.specs.declared.dotted.PathError.{PathError}
use Rattle.toml_span_places.specs.declared.dotted.PathFault.{PathFault}
use Rattle.toml_span_places.specs.declared.dotted.PathFault.TheVariants as faults

abbrev pub error : ℕ → PathFault → PathError
error at fault = record { at = at; fault = fault }

-- ---- keys

-- The text from i to j is a key with the name `name`: `simple-key = quoted-key / unquoted-key`
abbrev pub IsKey : List ℕ → ℕ → ℕ → List ℕ → Type 0
IsKey text i j name =
    RunAt is_keylike text i j name
    ⊎ ((span : Span) × (source : List ℕ) × IsString text i j span source name false)

-- the error of a string that begins at i and is read up to j
abbrev pub string_error : ℕ → ℕ → Error → PathError
string_error i j (errors.UnterminatedString at) = error i faults.Open
string_error i j other = error j faults.Quoted

-- No key can be read at i, and the error says why: neither a bare key nor a quote is there, or the string there is a
-- multi-line string, or it is not valid.
abbrev pub NoKey : List ℕ → ℕ → PathError → Type 0
NoKey text i e =
    ((is_keylike (slice_index text i) ≡ false) × (opens_string (slice_index text i) ≡ false) × (e ≡ error i faults.Key))
    ⊎ ((j : ℕ) × (span : Span) × (source name : List ℕ) × IsString text i j span source name true
    × (e ≡ error i faults.Quoted))
    ⊎ ((j : ℕ) × (fault : Error) × IsNoString text i j fault × (e ≡ string_error i j fault))

-- ---- positions

-- whether `digits`, which are not empty, are ASCII digits without a leading zero, or `0`
abbrev pub is_position : List ℕ → Bool
is_position digits =
    list_all is_ascii_digit digits && (length digits == 1 || not (slice_index digits 0 == digit_zero))

-- whether the digits are a position, and a closing bracket is at k
abbrev pub is_closed : List ℕ → List ℕ → ℕ → Bool
is_closed text digits k = is_position digits && slice_index text k == right_bracket

-- the text from i to j is a position in brackets with the digits `digits`
abbrev pub IsPosition : List ℕ → ℕ → ℕ → List ℕ → Type 0
IsPosition text i j digits =
    (k : ℕ) × (slice_index text i ≡ left_bracket) × RunAt is_keylike text (i + 1) k digits
    × (is_closed text digits k ≡ true) × (j ≡ k + 1)

-- No position in brackets can be read at i, and the error says why.
abbrev pub NoPosition : List ℕ → ℕ → PathError → Type 0
NoPosition text i e =
    (((slice_index text i == left_bracket) ≡ false) × (e ≡ error i faults.Step))
    ⊎ ((slice_index text i ≡ left_bracket) × (is_keylike (slice_index text (i + 1)) ≡ false)
    × (e ≡ error (i + 1) faults.Position))
    ⊎ ((k : ℕ) × (digits : List ℕ) × (slice_index text i ≡ left_bracket) × RunAt is_keylike text (i + 1) k digits
    × (is_closed text digits k ≡ false) × (e ≡ error (i + 1) faults.Position))

-- ---- steps

-- the text from i to j is a step with this segment: a dot and a key, or a position in brackets
abbrev pub IsStep : List ℕ → ℕ → ℕ → List ℕ → Type 0
IsStep text i j segment =
    ((m : ℕ) × Dot text i m × IsKey text m j segment) ⊎ (NoDot text i × IsPosition text i j segment)

abbrev pub NoStep : List ℕ → ℕ → PathError → Type 0
NoStep text i e = ((m : ℕ) × Dot text i m × NoKey text m e) ⊎ (NoDot text i × NoPosition text i e)

-- the segments of a path, or its error
abbrev pub Outcome : Type 0
Outcome = Result (List (List ℕ)) PathError

abbrev pub onto : List ℕ → Outcome → Outcome
onto segment (Ok segments) = Ok (segment ∷ segments)
onto segment (Err e) = Err e

-- the segments of the steps from i to the end of the text, or the first error
pub data Steps (text : List ℕ) : ℕ → Outcome → Type 0 where
  ends : (i : ℕ) → length text ≤ i → Steps text i (Ok [])
  stops : (i : ℕ) (e : PathError) → i < length text → NoStep text i e → Steps text i (Err e)
  goes_on : (i j : ℕ) (segment : List ℕ) (rest all : Outcome) → i < length text → IsStep text i j segment
      → Steps text j rest → all ≡ onto segment rest → Steps text i all

-- the segments of a dotted key with positions, or its first error
abbrev pub IsDotted : List ℕ → Outcome → Type 0
IsDotted text all =
    ((j : ℕ) × (name : List ℕ) × (rest : Outcome) × IsKey text 0 j name × Steps text j rest × (all ≡ onto name rest))
    ⊎ ((e : PathError) × NoKey text 0 e × (all ≡ Err e))

-- ---- paths

abbrev pub IsPathOf : Option (List (List ℕ)) → List ℕ → Outcome → Type 0
IsPathOf (Some names) text all = all ≡ Ok names
IsPathOf None text all = IsDotted text all

-- `all` is what reading the path `text` yields: the segments of a pointer if it is one, otherwise the segments or the
-- first error of a dotted key with positions
abbrev pub IsPath : List ℕ → Outcome → Type 0
IsPath text all = IsPathOf (pointer_segments text) text all

-- The outcome satisfies `is`, unless an allocation failed.
abbrev pub Reads : {Z : Type 0} → (Outcome → Type 0) → Result (Vec (CowStr Z) Global) (Stop PathError) → Type 0
Reads is (Ok parts) = is (Ok (map cow_str_bytes parts.items))
Reads is (Err (memory_or.Fault e)) = is (Err e)
Reads is (Err (memory_or.Memory e)) = Unit {0}

-- the value that the segments name, beginning at the value `n`
abbrev pub named : List (List ℕ) → Node → Option Node
named segments n = option_and_then (λ path. node_at path n) (path_named segments n)

abbrev pub named_by : Outcome → Node → Option Node
named_by (Ok segments) n = named segments n
named_by (Err e) n = None

-- the value that a path names in a tree; None if the path names nothing, or can't be read
abbrev pub Locates : List ℕ → Node → Option Node → Type 0
Locates path n place = (all : Outcome) × IsPath path all × (place ≡ named_by all n)
