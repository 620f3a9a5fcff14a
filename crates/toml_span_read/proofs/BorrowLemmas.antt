-- What consists of parts is borrowed correctly if its parts are.
use Rattle.toml_span_lex.proofs.Common.{arith, common_steps, nat_tests, ◌≡◌, ℕ, true, false, List, [], ◌∷◌, ◌++◌, map, get_or, rules, sym, ap, ◌∙◌, Ok, false≢true, cow_str_bytes, AllByRecursion}
use Rattle.toml_span_lex.specs.declared.key.Key.{Key}
use Rattle.toml_span_lex.specs.declared.span.Span.{Span}
use Rattle.toml_span_tree.specs.Node.{text as text_scalar, Scalar}
use Rattle.toml_span_read.specs.declared.section.Section.{Section}
use Rattle.toml_span_read.specs.declared.value.Val.{Val}
use Rattle.toml_span_read.specs.declared.value.ValKind.{ValKind, the_lemmas}
use Rattle.toml_span_read.specs.declared.value.ValKind.TheOpen.{ValKind-F}
use Rattle.toml_span_read.specs.declared.value.ValKind.TheViews.{out-ValKind, roll-ValKind}
use Rattle.toml_span_read.specs.declared.value.Assignment.{Assignment}
use Rattle.toml_span_read.specs.declared.value.DottedKey.{DottedKey}
use Rattle.toml_span_read.specs.Borrowed.{Written, IsWrittenRight, AreWrittenRight, joined, key_written, keys_written, dotted_written, written, kind_written, assignment_written, section_written, sections_written}
use Rattle.toml_span_read.specs.Data.{ParsedInner, scalar, parsed_kind, from_to}
use Rattle.toml_span_read.specs.code.Values.{is_scalar, ScalarGives}
use Rattle.toml_span_read.specs.Read as read
use Rattle.toml_span_read.proofs.ReadSound.{bare_sound}
use Rattle.toml_span_read.specs.Grammar.{SpellsScalar}
use Rattle.toml_span_read.specs.Faults.{begins_bare}

-- ---- lists

pub all_append : {A : Type 0} (P : A → Type 0) (xs ys : List A) → AllByRecursion P xs → AllByRecursion P ys → AllByRecursion P (xs ++ ys)
all_append P xs ys h k = grind (arith, nat_tests, common_steps)

pub all_front : {A : Type 0} (P : A → Type 0) (xs ys : List A) → AllByRecursion P (xs ++ ys) → AllByRecursion P xs
all_front P [] ys h = tt
all_front P (x ∷ xs) ys h = (h.0, all_front P xs ys h.1)

pub all_after : {A : Type 0} (P : A → Type 0) (xs ys : List A) → AllByRecursion P (xs ++ ys) → AllByRecursion P ys
all_after P [] ys h = h
all_after P (x ∷ xs) ys h = all_after P xs ys h.1

joined_push : {A : Type 0} (P : Written → Type 0) (f : A → List Written) (xs : List A) (x : A) → AllByRecursion P (joined (map f xs)) → AllByRecursion P (f x) → AllByRecursion P (joined (map f (xs ++ (x ∷ []))))
joined_push P f [] x h k = all_append P (f x) [] k tt
joined_push P f (y ∷ ys) x h k = grind (arith, all_append, all_front, all_after, joined_push P f ys x)

-- one more at the end
pub joined_more : {A : Type 0} (P : Written → Type 0) (f : A → List Written) (xs ys : List A) (x : A) → ys ≡ xs ++ (x ∷ []) → AllByRecursion P (joined (map f xs)) → AllByRecursion P (f x) → AllByRecursion P (joined (map f ys))
joined_more P f xs ys x e h k = rw e (joined_push P f xs x h k)

pub keys_more : (P : Written → Type 0) (xs ys : List Key) (x : Key) → ys ≡ xs ++ (x ∷ []) → AllByRecursion P (keys_written xs) → P (key_written x) → AllByRecursion P (keys_written ys)
keys_more P xs ys x e h k = grind (arith, nat_tests, common_steps)

-- ---- values

pub written_is : (v : Val) → written v ≡ kind_written v.kind v.span
written_is v = search (rules, the_lemmas)

pub assignment_written_is : (a : Assignment) → assignment_written a ≡ dotted_written a.parts ++ written a.value
assignment_written_is a = search (rules, the_lemmas)

no_array : (k : ParsedInner) (s : Scalar) → is_scalar k ≡ false → k ≡ scalar s → ⊥
no_array k s a e = false≢true (sym a ∙ ap is_scalar e)

-- a scalar that is not a string contains none
plain_written : (kind : ValKind) (s : Scalar) (span : Span) → parsed_kind kind ≡ scalar s → ((v : List ℕ) → s ≡ text_scalar v → ⊥) → kind_written kind span ≡ []
plain_written kind s span e other = go (out-ValKind kind) (search (rules, the_lemmas))
  where
    go : (x : ValKind-F ValKind Assignment Val) → kind ≡ roll-ValKind x → kind_written kind span ≡ []
    go (ValKind-F.String c) is =
        let seen : parsed_kind kind ≡ scalar (text_scalar (cow_str_bytes c)) = rw is (search (rules, the_lemmas)) in
        let same : scalar s ≡ scalar (text_scalar (cow_str_bytes c)) = sym e ∙ seen in
        absurd (other (cow_str_bytes c) cc)
    go (ValKind-F.Integer n) is = rw is (search (rules, the_lemmas))
    go (ValKind-F.Float x) is = rw is (search (rules, the_lemmas))
    go (ValKind-F.Boolean b) is = rw is (search (rules, the_lemmas))
    go (ValKind-F.Datetime d) is = rw is (search (rules, the_lemmas))
    go (ValKind-F.Array vs) is =
        let seen : is_scalar (parsed_kind kind) ≡ false = rw is (search (rules, the_lemmas)) in
        absurd (no_array _ s seen e)
    go (ValKind-F.Inline ps) is =
        let seen : is_scalar (parsed_kind kind) ≡ false = rw is (search (rules, the_lemmas)) in
        absurd (no_array _ s seen e)

not_text : (v text : List ℕ) (s : Scalar) (span : Span) (i j : ℕ) → begins_bare (get_or text i 0) ≡ true → s ≡ text_scalar v → SpellsScalar s span text i j → ⊥
not_text v text s span i j b e h = grind (arith, nat_tests, common_steps)

-- neither does a number, a boolean or a date
pub scalar_right : (ws : List Written) (kind : ValKind) (span : Span) (text : List ℕ) (i j : ℕ) → begins_bare (get_or text i 0) ≡ true → ScalarGives (read.bare text i) (Ok (kind, j)) → ws ≡ kind_written kind span → AreWrittenRight text ws
scalar_right ws kind span text i j b (s, e, h) is = rw (is, plain_written kind s span e (λ v same. not_text v text s (from_to i j) i j b same (bare_sound s text i j b h))) tt

-- ---- sections

pub assignment_right : (text : List ℕ) (ws : List Written) (key : DottedKey) (value : Val) → ws ≡ dotted_written key ++ written value → AreWrittenRight text (dotted_written key) → AreWrittenRight text (written value) → AreWrittenRight text ws
assignment_right text ws key value e h k = rw e (all_append (IsWrittenRight text) (dotted_written key) (written value) h k)

pub sections_more : (text : List ℕ) (xs ys : List Section) (s : Section) → ys ≡ xs ++ (s ∷ []) → AreWrittenRight text (sections_written xs) → AreWrittenRight text (section_written s) → AreWrittenRight text (sections_written ys)
sections_more text xs ys s e h k = joined_more (IsWrittenRight text) section_written xs ys s e h k
