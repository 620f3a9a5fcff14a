-- A pointer, one segment at a time.
use Rattle.toml_span_lex.proofs.Common.{common_steps, nat_tests, ◌≡◌, ◌≢◌, ℕ, zero, suc, ◌<◌, List, [], ◌∷◌, ◌++◌, length, get_or, Option, Some, None, option_map, option_and_then, refl, sym, ap, ◌∙◌, arith, ne_eqb, true, false, ◌≤◌, ◌^◌, Bor, MutBor, ◌||◌, ◌==◌, not, nat_lt, IsNumeralModel, numerals_by_value, tells_all_ascii_digits, IfSome, MatchOption, Result, OkIff, all_ascii_digits, digits_value}
use Rattle.std.specs.Result.{result_ok}
use Rattle.std.specs.Slice.{IsItemAt}
use Rattle.toml_span_lex.specs.declared.span.Span.{Span}
use Rattle.toml_span_tree.specs.declared.value.Value.{Value}
use Rattle.toml_span_tree.specs.Node.{Node, Items, get_item}
use Rattle.toml_span_tree.specs.Value.{view, items_view}
use Rattle.toml_span_tree.specs.Path.{Step, Path, child, reached, node_at}
use Rattle.toml_span_tree.specs.Pointer.{push_front, segments, pointer_segments, pointed, is_decimal_form, position_of}
use Rattle.toml_span_tree.specs.code.Pointer.{segments_after, SplitAtSlash, entry, untaken_entry, value_named, PositionIs}

abbrev pub Lacks : ℕ → List ℕ → Type 0
Lacks c xs = (i : ℕ) → i < length xs → get_or xs i 0 ≢ c

pub segments-last : (xs : List ℕ) → Lacks 47 xs → segments xs ≡ xs ∷ []
unfolding segments
segments-last [] h = refl
segments-last (x ∷ xs) h = rw (ne_eqb x 47 (h 0 (omega arith))) (ap (push_front x) (segments-last xs (λ i less. h (suc i) (omega arith))))

pub segments-more : (xs rest : List ℕ) → Lacks 47 xs → segments (xs ++ 47 ∷ rest) ≡ xs ∷ segments rest
unfolding segments
segments-more [] rest h = refl
segments-more (x ∷ xs) rest h = rw (ne_eqb x 47 (h 0 (omega arith))) (ap (push_front x) (segments-more xs rest (λ i less. h (suc i) (omega arith))))

-- the text of a pointer
pub pointer-empty : (p : List ℕ) → length p ≡ 0 → pointer_segments p ≡ Some []
unfolding pointer_segments
pointer-empty p h = grind (arith, nat_tests, common_steps)

pub pointer-slash : (p rest : List ℕ) → p ≡ 47 ∷ rest → pointer_segments p ≡ Some (segments rest)
unfolding pointer_segments
pointer-slash p rest e = grind (arith, nat_tests, common_steps)

pub pointer-other : (p : List ℕ) → 0 < length p → ((rest : List ℕ) → p ≢ 47 ∷ rest) → pointer_segments p ≡ None
unfolding pointer_segments
pointer-other p h lacks = grind (arith, nat_tests, common_steps)

-- the span of the key before a path does not matter to the value at its end
reached-key : (path : Path) (key other : Option Span) (n : Node) → option_map (λ m. m.1) (reached path (key, n)) ≡ option_map (λ m. m.1) (reached path (other, n))
reached-key [] key other n = refl
reached-key (s ∷ path) key other n = refl

-- a path is followed one step at a time
pub node_at-more : (s : Step) (path : Path) (n : Node) → node_at (s ∷ path) n ≡ option_and_then (node_at path) (child s n)
node_at-more s path n = grind (arith, nat_tests, common_steps, reached-key)

-- segments are followed one at a time
pub found-more : (segment : List ℕ) (names : List (List ℕ)) (n : Node) → value_named (segment ∷ names) n ≡ option_and_then (value_named names) (untaken_entry segment n)
found-more segment names n = grind (arith, nat_tests, common_steps, node_at-more)

-- a text that is split at its first slash
pub found-cut : (path segment : List ℕ) (rest : Option (List ℕ)) (n : Node) → SplitAtSlash path segment rest → value_named (segments path) n ≡ option_and_then (value_named (segments_after rest)) (untaken_entry segment n)
found-cut path segment rest n c = ap (λ names. value_named names n) c.parts ∙ found-more segment (segments_after rest) n

-- a pointer names what its segments name
pub pointed-found : (p : List ℕ) (n : Node) → pointed p n ≡ option_and_then (λ names. value_named names n) (pointer_segments p)
pointed-found p n = grind (arith, nat_tests, common_steps)

pub pointed-empty : (p : List ℕ) (n : Node) → length p ≡ 0 → pointed p n ≡ Some n
pointed-empty p n h = grind (arith, nat_tests, common_steps, pointed-found p n, pointer-empty p)

pub pointed-slash : (p rest : List ℕ) (n : Node) → p ≡ 47 ∷ rest → pointed p n ≡ value_named (segments rest) n
pointed-slash p rest n e = grind (arith, nat_tests, common_steps, pointed-found p n, pointer-slash p rest)

pub pointed-other : (p : List ℕ) (n : Node) → 0 < length p → ((rest : List ℕ) → p ≢ 47 ∷ rest) → pointed p n ≡ None
pointed-other p n h lacks = pointed-found p n ∙ ap (option_and_then (λ names. value_named names n)) (pointer-other p h lacks)

-- what a segment names in an array
pub entry-array : (segment : List ℕ) (ns : Items) → entry segment (Rattle.toml_span_tree.specs.Node.array ns) ≡ option_and_then (λ i. get_item i ns) (position_of segment)
entry-array segment ns = grind (arith, nat_tests, common_steps)

pub get_item-within : (vs : List Value) (i : ℕ) (d : Value) → i < length vs → get_item i (items_view vs) ≡ Some (view (get_or vs i d))
get_item-within [] i d h = absurd (omega arith)
get_item-within (v ∷ vs) zero d h = refl
get_item-within (v ∷ vs) (suc i) d h = get_item-within vs i d (omega arith)

pub get_item-past : (vs : List Value) (i : ℕ) → length vs ≤ i → get_item i (items_view vs) ≡ None
get_item-past [] i h = refl
get_item-past (v ∷ vs) zero h = absurd (omega arith)
get_item-past (v ∷ vs) (suc i) h = get_item-past vs i (omega arith)

-- a position that exceeds any length names nothing
pub past_all : (vs : List Value) (o : Option ℕ) → PositionIs None o → length vs ≤ 2 ^ 64 → None ≡ option_and_then (λ i. get_item i (items_view vs)) o
past_all vs None h small = refl
past_all vs (Some i) h small = sym (get_item-past vs i (omega (arith, h, small)))

-- positions
pub numerals : IsNumeralModel (λ ds. all_ascii_digits ds ≡ true) (digits_value 10)
numerals = numerals_by_value _ tells_all_ascii_digits

pub no_position : (text : List ℕ) → is_decimal_form text ≡ false → position_of text ≡ None
unfolding position_of
no_position text h = grind (arith, nat_tests, common_steps)

pub some_position : (text : List ℕ) → is_decimal_form text ≡ true → position_of text ≡ Some (digits_value 10 text)
unfolding position_of
some_position text h = grind (arith, nat_tests, common_steps)

pub form_parts : (text : List ℕ) → is_decimal_form text ≡ true
    → (nat_lt 0 (length text) ≡ true) × (all_ascii_digits text ≡ true) × (length text == 1 || not (get_or text 0 0 == 48) ≡ true)
form_parts text h = grind (arith, nat_tests, common_steps)

pub no_form-empty : (text : List ℕ) → length text ≡ 0 → is_decimal_form text ≡ false
no_form-empty text h = grind (arith, nat_tests, common_steps)

pub no_form-plus : (text : List ℕ) → get_or text 0 0 ≡ 43 → 0 < length text → is_decimal_form text ≡ false
no_form-plus text h some = grind (arith, nat_tests, common_steps)

pub no_form-zero : (text : List ℕ) → get_or text 0 0 ≡ 48 → 1 < length text → is_decimal_form text ≡ false
no_form-zero text h more = grind (arith, nat_tests, common_steps)

-- there is no leading zero, unless it is the only digit
pub lead-one : (text : List ℕ) → length text ≡ 1 → length text == 1 || not (get_or text 0 0 == 48) ≡ true
lead-one text h = grind (arith, nat_tests, common_steps)

pub lead-other : (text : List ℕ) → get_or text 0 0 ≢ 48 → length text == 1 || not (get_or text 0 0 == 48) ≡ true
lead-other text h = grind (arith, nat_tests, common_steps)

pub PositionIs-none : (text : List ℕ) (o : Option ℕ) → o ≡ None → is_decimal_form text ≡ false → PositionIs o (position_of text)
PositionIs-none text o e h = rw (e, no_position text h) tt

-- the number that std parses is the position, or there is none, or it exceeds any length
pub spelt : {E : Type 0} (text : List ℕ) → length text == 1 || not (get_or text 0 0 == 48) ≡ true → (r : Result ℕ E) (o : Option ℕ)
    → OkIff r ((all_ascii_digits text ≡ true) × (0 < length text) × (digits_value 10 text < 2 ^ 64)) (digits_value 10 text) → o ≡ result_ok r → PositionIs o (position_of text)
spelt text lead r o h e = grind (arith, nat_tests, common_steps, some_position text, no_position text, form_parts text)

-- what `get` of an array returns
pub get_item-got : (r : Option (Bor Value)) (vs : List Value) (i : ℕ) → IsItemAt vs i r → option_map (λ v. view v.now) r ≡ get_item i (items_view vs)
get_item-got r vs i h = grind (arith, nat_tests, common_steps, get_item-past vs i, get_item-within vs i)

pub mapped-none : (r : Option (Bor Value)) (o : Option Node) → r ≡ None → None ≡ o → option_map (λ v. view v.now) r ≡ o
mapped-none r o h is = grind (arith, nat_tests, common_steps)

pub view-of_mut : (r : Option (MutBor Value)) → option_map (λ x. view x.now) r ≡ option_map view (option_map (λ x. x.now) r)
view-of_mut r = grind (arith, nat_tests, common_steps)

pub get_item-lent : (r : Option (MutBor Value)) (Q : MutBor Value → Type 0) (vs : List Value) (i : ℕ) → IfSome r (λ x. x.now ≡ get_or vs i x.now) → MatchOption r (length vs ≤ i) (λ x. (i < length vs) × Q x)
    → option_map (λ v. view v.now) r ≡ get_item i (items_view vs)
get_item-lent r Q vs i value is = grind (arith, nat_tests, common_steps, get_item-past vs i, get_item-within vs i)
