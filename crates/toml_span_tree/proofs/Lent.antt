-- What is lent, and the tree after the borrow has ended.
use Rattle.toml_span_lex.proofs.Common.{common_steps, nat_tests, ◌≡◌, ℕ, ◌<◌, ◌^◌, [], ◌∷◌, length, drop, arith, rules, ◌⊎◌, inl, inr, BTreeMap, Vec, Global, vec_len, slice_index_or, List, Option, Some, None, IsSome, option_map, option_and_then, refl, sym, ap, subst, ◌∙◌, MutBor, lookup, with_item, cow_str_bytes, unwrap_or}
use Rattle.toml_span_tree.specs.declared.value.Value.{Value}
use Rattle.toml_span_tree.specs.declared.value.ValueInner.{ValueInner, Array, Table, the_lemmas}
use Rattle.toml_span_tree.specs.declared.value.ValueInner.TheOpen.{ValueInner-F}
use Rattle.toml_span_tree.specs.declared.value.ValueInner.TheViews.{out-ValueInner, roll-ValueInner, roll-out-ValueInner, rolls-String, rolls-Integer, rolls-Float, rolls-Boolean, rolls-Datetime, rolls-Array, rolls-Table}
use Rattle.toml_span_lex.specs.declared.key.Key.{Key}
use Rattle.toml_span_tree.specs.code.Lending.{IsTable, IsArray}
use Rattle.toml_span_tree.specs.Node.{Node, node, Scalar, taken, scalar, array, table, get_member, get_item}
use Rattle.toml_span_tree.specs.Value.{view, inner_view, items_view, members_view, inner_of, span_of, float_value, date_bytes}
use Rattle.toml_span_tree.specs.Pointer.{pointer_segments, pointed, put_pointed, segments, position_of}
use Rattle.toml_span_tree.specs.code.Pointer.{SplitAtSlash, segments_after, value_named, put_named, entry, untaken_entry, set_named, set_where_named}
use Rattle.toml_span_tree.specs.Path.{position, set_entry}
use Rattle.toml_span_tree.proofs.Values.{Entry, view_is, inner_view-Array, inner_view-Table, at_name}
use Rattle.toml_span_tree.proofs.Pointers.{pointer-slash, found-more, entry-array, get_item-past, get_item-within}
use Rattle.toml_span_tree.proofs.Puts.{put_pointed-found, member-lent, view-set, view-made}

pub member-some : (y : Option (MutBor Value)) (name : List ℕ) (es : List Entry) → option_map (λ x. x.now) y ≡ lookup (at_name name) es → IsSome (get_member name (members_view es)) → (x : MutBor Value) × (y ≡ Some x)
member-some y name es e h = grind (arith, nat_tests, common_steps, member-lent y name es e)

-- a value and its content
pub view-held : (s : Value) (i : ValueInner) → s.value ≡ Some i → view s ≡ node (inner_view i) s.span
view-held s i is = view_is s ∙ ap (λ (o : Option ValueInner). node (unwrap_or (option_map inner_view o) taken) s.span) is

view-empty : (s : Value) → s.value ≡ None → view s ≡ node taken s.span
view-empty s is = view_is s ∙ ap (λ (o : Option ValueInner). node (unwrap_or (option_map inner_view o) taken) s.span) is

pub held-of : (s : Value) (text : List ℕ) → IsSome (untaken_entry text (view s)) → (i : ValueInner) × (s.value ≡ Some i)
held-of s text h = grind (arith, nat_tests, common_steps, view-empty s)

pub entry-under : (s : Value) (i : ValueInner) (text : List ℕ) → s.value ≡ Some i → IsSome (untaken_entry text (view s)) → IsSome (entry text (inner_view i))
entry-under s i text is h = grind (arith, nat_tests, common_steps, view-held s i is)

pub child-is : (s : Value) (i : ValueInner) (text : List ℕ) (m : Node) → s.value ≡ Some i → IsSome (untaken_entry text (view s)) → entry text (inner_view i) ≡ Some m → untaken_entry text (view s) ≡ Some m
child-is s i text m is h e = grind (arith, nat_tests, common_steps, view-held s i is)

pub child-set : (s : Value) (i : ValueInner) (text : List ℕ) (w : Value) (t : ValueInner) → s.value ≡ Some i → inner_view t ≡ set_named text (view w) (inner_view i)
    → view (record { value = Some t; span = s.span }) ≡ node (set_named text (view w) (inner_of (view s))) (span_of (view s))
child-set s i text w t is q = view-made t s.span ∙ ap (λ j. node j s.span) q ∙ sym (ap (λ m. node (set_named text (view w) (inner_of m)) (span_of m)) (view-held s i is))

no-entry : (i : ValueInner) (x : Scalar) (text : List ℕ) → inner_view i ≡ scalar x → IsSome (entry text (inner_view i)) → ⊥
no-entry i x text e h = grind (arith, nat_tests, common_steps)

-- a value that is a table, and one that is an array
kind-at : (i : ValueInner) (o : ValueInner-F ValueInner Value) (text : List ℕ) → i ≡ roll-ValueInner o → IsSome (entry text (inner_view i)) → IsTable i ⊎ IsArray i
kind-at i (ValueInner-F.String s) text e h = absurd (no-entry i (Scalar.text (cow_str_bytes s)) text (ap inner_view (e ∙ rolls-String s) ∙ search (rules, the_lemmas)) h)
kind-at i (ValueInner-F.Integer z) text e h = absurd (no-entry i (Scalar.integer z) text (ap inner_view (e ∙ rolls-Integer z) ∙ search (rules, the_lemmas)) h)
kind-at i (ValueInner-F.Float x) text e h = absurd (no-entry i (Scalar.float (float_value x)) text (ap inner_view (e ∙ rolls-Float x) ∙ search (rules, the_lemmas)) h)
kind-at i (ValueInner-F.Boolean b) text e h = absurd (no-entry i (Scalar.boolean b) text (ap inner_view (e ∙ rolls-Boolean b) ∙ search (rules, the_lemmas)) h)
kind-at i (ValueInner-F.Datetime d) text e h = absurd (no-entry i (Scalar.datetime (date_bytes d)) text (ap inner_view (e ∙ rolls-Datetime d) ∙ search (rules, the_lemmas)) h)
kind-at i (ValueInner-F.Array v) text e h = inr (v, e ∙ rolls-Array v)
kind-at i (ValueInner-F.Table m) text e h = inl (m, e ∙ rolls-Table m)

pub kind-of : (i : ValueInner) (text : List ℕ) → IsSome (entry text (inner_view i)) → IsTable i ⊎ IsArray i
kind-of i text h = kind-at i (out-ValueInner i) text (sym (roll-out-ValueInner i)) h

-- in a table
pub table-entry : (i : ValueInner) (m : BTreeMap Key Value) (text : List ℕ) → i ≡ Table m → entry text (inner_view i) ≡ get_member text (members_view m.entries)
table-entry i m text e = ap (entry text) (ap inner_view e ∙ inner_view-Table m)

pub table-set : (i : ValueInner) (m : BTreeMap Key Value) (text : List ℕ) (w : Value) (t : BTreeMap Key Value) → i ≡ Table m → members_view t.entries ≡ set_entry text (view w) (members_view m.entries)
    → inner_view (Table t) ≡ set_named text (view w) (inner_view i)
table-set i m text w t e q = inner_view-Table t ∙ ap table q ∙ sym (ap (set_named text (view w)) (ap inner_view e ∙ inner_view-Table m))

-- in an array
array-entry : (i : ValueInner) (v : Vec Value Global) (text : List ℕ) → i ≡ Array v → entry text (inner_view i) ≡ option_and_then (λ p. get_item p (items_view v.items)) (position_of text)
array-entry i v text e = ap (entry text) (ap inner_view e ∙ inner_view-Array v) ∙ entry-array text (items_view v.items)

item-some : (vs : List Value) (p : ℕ) → IsSome (get_item p (items_view vs)) → p < length vs
item-some vs p h = grind (arith, nat_tests, common_steps, get_item-past vs p)

at-position : (o : Option ℕ) (vs : List Value) → IsSome (option_and_then (λ p. get_item p (items_view vs)) o) → (p : ℕ) × (o ≡ Some p) × (p < length vs)
at-position None vs h =
    let no : ⊥ = cc h in
    absurd no
at-position (Some p) vs h = (p, refl, item-some vs p h)

pub array-asks : (i : ValueInner) (v : Vec Value Global) (text : List ℕ) → i ≡ Array v → IsSome (entry text (inner_view i)) → (p : ℕ) × (position_of text ≡ Some p) × (p < length v.items)
array-asks i v text e h = at-position (position_of text) v.items (subst IsSome (array-entry i v text e) h)

pub within : (v : Vec Value Global) (p : ℕ) → p < length v.items → (p < vec_len v) × (p < 2 ^ 64)
within v p h = grind (arith, nat_tests, common_steps)

pub array-is : (i : ValueInner) (v : Vec Value Global) (text : List ℕ) (p : ℕ) (x : Value) → i ≡ Array v → position_of text ≡ Some p → p < length v.items → x ≡ slice_index_or v.items p x → entry text (inner_view i) ≡ Some (view x)
array-is i v text p x e at less is =
    array-entry i v text e ∙ ap (option_and_then (λ p. get_item p (items_view v.items))) at ∙ get_item-within v.items p x less ∙ ap (λ y. Some (view y)) (sym is)

pub array-set : (i : ValueInner) (v : Vec Value Global) (text : List ℕ) (p : ℕ) (w : Value) → i ≡ Array v → position_of text ≡ Some p → inner_view (Array (with_item v p w)) ≡ set_named text (view w) (inner_view i)
array-set i v text p w e at =
    inner_view-Array (with_item v p w) ∙ ap array (view-set v.items p w)
    ∙ sym (ap (λ o. set_where_named (option_map position o) (view w) (array (items_view v.items))) at)
    ∙ sym (ap (set_named text (view w)) (ap inner_view e ∙ inner_view-Array v))

-- the first segment, and the others
pub path-asks : (n : Node) (path segment : List ℕ) (more : List (List ℕ)) → segments path ≡ segment ∷ more → IsSome (value_named (segments path) n) → IsSome (untaken_entry segment n)
path-asks n path segment more e h = grind (arith, nat_tests, common_steps)

pub found-child : (n m : Node) (path segment : List ℕ) (more : List (List ℕ)) → segments path ≡ segment ∷ more → untaken_entry segment n ≡ Some m → value_named (segments path) n ≡ value_named more m
found-child n m path segment more e there = ap (λ names. value_named names n) e ∙ found-more segment more n ∙ ap (option_and_then (value_named more)) there

pub path-last : (n m : Node) (path segment : List ℕ) (more : List (List ℕ)) → segments path ≡ segment ∷ more → more ≡ [] → untaken_entry segment n ≡ Some m → value_named (segments path) n ≡ Some m
path-last n m path segment more e last there = grind (arith, nat_tests, common_steps)

pub path-set-more : (n m old w t r : Node) (path segment : List ℕ) (more : List (List ℕ)) → segments path ≡ segment ∷ more → untaken_entry segment n ≡ Some m → value_named more m ≡ Some old
    → t ≡ put_named more w m → r ≡ node (set_named segment t (inner_of n)) (span_of n) → r ≡ put_named (segments path) w n
path-set-more n m old w t r path segment more e there h q p = grind (arith, nat_tests, common_steps)

pub path-set-last : (n m w r : Node) (path segment : List ℕ) (more : List (List ℕ)) → segments path ≡ segment ∷ more → more ≡ [] → untaken_entry segment n ≡ Some m
    → r ≡ node (set_named segment w (inner_of n)) (span_of n) → r ≡ put_named (segments path) w n
path-set-last n m w r path segment more e last there p = grind (arith, nat_tests, common_steps)

segments-some : (path : List ℕ) → 0 < length (segments path)
unfolding segments
segments-some [] = omega arith
segments-some (x ∷ xs) = grind (arith, nat_tests, common_steps)

pub more-some : (path segment : List ℕ) (o : Option (List ℕ)) (rest : List ℕ) → SplitAtSlash path segment o → o ≡ Some rest → 0 < length (drop 1 (segments path))
more-some path segment o rest c e = subst (λ names. 0 < length (drop 1 names)) (sym (c.parts ∙ ap (λ o. segment ∷ segments_after o) e)) (segments-some rest)

pub slash-of : (p : List ℕ) (n : Node) → 0 < length p → IsSome (pointed p n) → (path : List ℕ) × (p ≡ 47 ∷ path)
unfolding pointer_segments
slash-of p n more h = grind (arith, nat_tests, common_steps)

pub slash-set : (p path : List ℕ) (n w r : Node) → p ≡ 47 ∷ path → r ≡ put_named (segments path) w n → r ≡ put_pointed p w n
slash-set p path n w r e h = h ∙ sym (put_pointed-found p (segments path) w n (pointer-slash p path e))
