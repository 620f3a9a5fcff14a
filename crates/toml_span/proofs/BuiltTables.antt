-- Tables under construction, with the table of one more section.
use Rattle.toml_span_lex.proofs.Common.{◌≡◌, ℕ, Bool, true, false, cond, List, [], ◌∷◌, ◌++◌, length, Option, Some, None, option_map, option_and_then, if◌then◌else◌, bytes_eq, cow_str_bytes, lookup_entry, AllByRecursion, rules, refl, sym, ap, ◌∙◌, subst, inl, inr, arith, none-some, same_Some, IfSome, IsBorrowedStr, Greater, unwrap_or, insert_entry, is_eq, keys_of, nat_cmp, slice_cmp, nat_tests, common_steps}
use Rattle.std.specs.Prelude.{IsSomeAnd}
use Rattle.toml_span_lex.specs.declared.key.Key.{Key}
use Rattle.toml_span_lex.specs.declared.span.Span.{Span}
use Rattle.toml_span_tree.specs.Node as tree
use Rattle.toml_span_tree.specs.Path.{Path, key, position, Place, shape_table, reached, place_of as tree_place}
use Rattle.toml_span_tree.specs.Value.{view, inner_view, items_view, members_view}
use Rattle.toml_span_tree.specs.declared.value.Value.{Value}
use Rattle.toml_span_tree.specs.declared.value.ValueInner.{ValueInner, the_lemmas as tree_lemmas}
use Rattle.toml_span_tree.specs.declared.value.ValueInner.TheOpen.{ValueInner-F}
use Rattle.toml_span_tree.specs.declared.value.ValueInner.TheViews.{out-ValueInner}
use Rattle.toml_span_tree.specs.declared.value.ValueInner.TheVariants.{Table as table_inner, Array as array_inner}
use Rattle.toml_span_tree.proofs.Values.{inner_view-Table, inner_view-Array, entry_at-lookup, view_is}
use Rattle.toml_span_read.specs.Borrowed.{key_written, keys_written, AreWrittenRight, IsWrittenRight}
use Rattle.toml_span_read.specs.Data.{SimpleKey}
use Rattle.toml_span_read.proofs.BorrowLemmas.{all_append}
use Rattle.toml_span_read.proofs.EarlierTree.{key_cmp, same_name}
use Rattle.toml_span.specs.declared.claims.ClaimInfo.{ClaimInfo}
use Rattle.toml_span.specs.declared.claims.ClaimKind.{ClaimKind}
use Rattle.toml_span.specs.declared.claims.ClaimKind.TheVariants.{Passed, StandardTable, TableElement}
use Rattle.toml_span.specs.declared.claims.HeaderInfo.{HeaderInfo}
use Rattle.toml_span.specs.Borrowed.{KeySpans, IsBorrowedRight, strings_and_keys, AreBorrowedRight}
use Rattle.toml_span.specs.Claims.{Claim, Claims, array_claims, claimed, header_claim}
use Rattle.toml_span.specs.Clashes.{clash_kind}
use Rattle.toml_span.specs.Ordered.{IsOrdered, HoldsOrdered}
use Rattle.toml_span_read.specs.Paths.{same_path}
use Rattle.toml_span.specs.code.Borrowed.{table_held}
use Rattle.toml_span.specs.code.Built.{BuildsOn, EntryAt, EntryBuilt, EntryBuildsOn, EntryRight, EntryShows, IsBuilt, built, IsByHeader, IsKeyFor, IsOpenTable, IsSection, IsTableCell, MakesEntry, Placed, is_assigned}
use Rattle.toml_span.specs.code.ClaimInfos.{earliest_clash_info, with_name}
use Rattle.toml_span.specs.code.Machine.{Cell, CellMap, Decided, change, clash_found, decide, earliest_clash, graft, key_spans, no_cell, no_cells, put_all, with_claim}
use Rattle.toml_span.specs.code.Placing.{Array, NamesAscend, ShowsBelow, Table, place_shown}
use Rattle.toml_span.specs.code.Relative.{adding, counts_after, counts_after_adding, counts_after_entered, counts_after_through, entered, opening, passing, section_at, through}
use Rattle.toml_span_lex.specs.Key.{is_named}
use Rattle.toml_span.proofs.Absolute.{counts_after-through, section_at-through}
use Rattle.toml_span.proofs.Claimed.{remember-cases}
use Rattle.toml_span.proofs.Grafts.{fun_ext, put_all-under, reported-under}
use Rattle.toml_span.proofs.HeldValues.{table-held}
use Rattle.toml_span.proofs.KeyMaps.{holds-insert, insert_by, named-by}
use Rattle.toml_span.proofs.Ordered.{each-named, members-ordered}

-- ---- what a table shows

entry-shows : (text : List ℕ) (o : Option (Key × Value)) (f : CellMap) (e : Path → ℕ) (p : Path) → EntryAt text o f e
    → option_map tree_place (option_and_then (reached p) (option_map (λ x. (Some x.0.span, view x.1)) o)) ≡ place_shown (f p)
entry-shows text None f e p h = rw h.0 refl
entry-shows text (Some x) f e p h = h.0.places p

pub built-shows : (text : List ℕ) (t : Table) (st : CellMap) (e : Path → ℕ) → IsBuilt text t st e → ShowsBelow (inner_view (table_inner t)) st
built-shows text t st e (built u f c positions at inside) (key name) p =
    rw (inner_view-Table t, ← entry_at-lookup name t.entries) (entry-shows text (lookup_entry (is_named name) t.entries) (λ q. st (key name ∷ q)) (λ q. e (key name ∷ q)) p (at name))
built-shows text t st e (built u f c positions at inside) (position i) p = rw (inner_view-Table t, positions i p) refl

entry-of : (text : List ℕ) (o : Option (Key × Value)) (x : Key × Value) (f : CellMap) (e : Path → ℕ) → o ≡ Some x → EntryAt text o f e → EntryShows text x f
entry-of text o x f e is h = (rw is at h).0

pub built-ordered : (text : List ℕ) (t : Table) (st : CellMap) (e : Path → ℕ) → NamesAscend t → IsBuilt text t st e → HoldsOrdered (inner_view (table_inner t))
built-ordered text t st e ascend (built u f c positions at inside) =
    rw (inner_view-Table t) (members-ordered t.entries ascend
    (each-named (λ x. IsOrdered (view x.1)) t.entries ascend (λ x is. (entry-of text _ x _ _ is (at (cow_str_bytes x.0.name))).ordered)))

table-right : (text : List ℕ) (es : List (Key × Value)) (spans : KeySpans) → AllByRecursion (λ x. EntryRight text (λ p. spans (key (cow_str_bytes x.0.name) ∷ p)) x) es → AreBorrowedRight text (table_held es spans)
table-right text [] spans each = tt
table-right text (x ∷ es) spans each =
    (each.0.0, all_append (IsBorrowedRight text) (strings_and_keys x.1 (λ p. spans (key (cow_str_bytes x.0.name) ∷ p))) (table_held es spans) each.0.1 (table-right text es spans each.1))

pub built-right : (text : List ℕ) (t : Table) (st : CellMap) (e : Path → ℕ) → NamesAscend t → IsBuilt text t st e → AreBorrowedRight text (table_held t.entries (key_spans st))
built-right text t st e ascend (built u f c positions at inside) =
    table-right text t.entries (key_spans st)
    (each-named (λ x. EntryRight text (λ p. key_spans st (key (cow_str_bytes x.0.name) ∷ p)) x) t.entries ascend (λ x is. (entry-of text _ x _ _ is (at (cow_str_bytes x.0.name))).right))

-- ---- values that are tables or arrays

view-held : (v : Value) (i : ValueInner) → v.value ≡ Some i → view v ≡ tree.node (inner_view i) v.span
view-held v i is = view_is v ∙ ap (λ (o : Option ValueInner). tree.node (unwrap_or (option_map inner_view o) tree.taken) v.span) is

pub view-table : (v : Value) (t : Table) → v.value ≡ Some (table_inner t) → view v ≡ tree.node (tree.table (members_view t.entries)) v.span
view-table v t is = view-held v (table_inner t) is ∙ ap (λ i. tree.node i v.span) (inner_view-Table t)

pub view-array : (v : Value) (a : Array) → v.value ≡ Some (array_inner a) → view v ≡ tree.node (tree.array (items_view a.items)) v.span
view-array v a is = view-held v (array_inner a) is ∙ ap (λ i. tree.node i v.span) (inner_view-Array a)

abbrev table_in : Table → ValueInner-F ValueInner Value → Table
table_in d (ValueInner-F.Table t) = t
table_in d _ = d

abbrev array_in : Array → ValueInner-F ValueInner Value → Array
array_in d (ValueInner-F.Array a) = a
array_in d _ = d

pub table-same : (v : Value) (t u : Table) → v.value ≡ Some (table_inner t) → v.value ≡ Some (table_inner u) → t ≡ u
table-same v t u is also =
    let same : table_inner t ≡ table_inner u = same_Some (table_inner t) (table_inner u) (sym is ∙ also) in
    let one : out-ValueInner (table_inner t) ≡ ValueInner-F.Table t = search (rules, tree_lemmas) in
    let other : out-ValueInner (table_inner u) ≡ ValueInner-F.Table u = search (rules, tree_lemmas) in
    ap (table_in t) (sym one ∙ ap out-ValueInner same ∙ other)

pub array-same : (v : Value) (t u : Array) → v.value ≡ Some (array_inner t) → v.value ≡ Some (array_inner u) → t ≡ u
array-same v t u is also =
    let same : array_inner t ≡ array_inner u = same_Some (array_inner t) (array_inner u) (sym is ∙ also) in
    let one : out-ValueInner (array_inner t) ≡ ValueInner-F.Array t = search (rules, tree_lemmas) in
    let other : out-ValueInner (array_inner u) ≡ ValueInner-F.Array u = search (rules, tree_lemmas) in
    ap (array_in t) (sym one ∙ ap out-ValueInner same ∙ other)

pub kinds-apart : (v : Value) (t : Table) (a : Array) → v.value ≡ Some (table_inner t) → v.value ≡ Some (array_inner a) → ⊥
kinds-apart v t a is also =
    let same : tree.node (tree.table (members_view t.entries)) v.span ≡ tree.node (tree.array (items_view a.items)) v.span = sym (view-table v t is) ∙ view-array v a also in cc

-- the table of a section, or one through which a header passes
value-shows : (text : List ℕ) (o : Option Span) (v : Value) (t : Table) (st : CellMap) (e : Path → ℕ) → v.value ≡ Some (table_inner t)
    → place_shown (st []) ≡ Some (record { shape = shape_table; key_span = o; span = v.span }) → IsBuilt text t st e → (p : Path) → option_map tree_place (reached p (o, view v)) ≡ place_shown (st p)
value-shows text o v t st e is here h [] = rw (view-table v t is) (sym here)
value-shows text o v t st e is here h (s ∷ p) = rw (view-table v t is) (rw (inner_view-Table t) at (built-shows text t st e h s p))

value-ordered : (text : List ℕ) (v : Value) (t : Table) (st : CellMap) (e : Path → ℕ) → v.value ≡ Some (table_inner t) → NamesAscend t → IsBuilt text t st e → IsOrdered (view v)
value-ordered text v t st e is ascend h = rw (view-table v t is) (rw (inner_view-Table t) at (built-ordered text t st e ascend h))

value-right : (text : List ℕ) (v : Value) (t : Table) (st : CellMap) (e : Path → ℕ) → v.value ≡ Some (table_inner t) → NamesAscend t → IsBuilt text t st e → AreBorrowedRight text (strings_and_keys v (key_spans st))
value-right text v t st e is ascend h = rw (table-held v t v.span (is, refl)) (built-right text t st e ascend h)

-- a table has no open table except itself
only-table : (text : List ℕ) (v : Value) (t u : Table) (st : CellMap) (e : Path → ℕ) (q : Path) → v.value ≡ Some (table_inner t) → IsBuilt text t st e → IsOpenTable v q u → IsBuilt text u (λ p. st (q ++ p)) (λ p. e (q ++ p))
only-table text v t u st e [] is h has = subst (λ w. IsBuilt text w st e) (table-same v t u is has) h
only-table text v t u st e (key l ∷ q) is h has = absurd has
only-table text v t u st e (position i ∷ []) is h (a, before, w, held, items, last, table) = absurd (kinds-apart v t a is held)
only-table text v t u st e (position i ∷ s ∷ q) is h has = absurd has

entry-table : (text : List ℕ) (k : Key) (v : Value) (t : Table) (st : CellMap) (e : Path → ℕ) → v.value ≡ Some (table_inner t) → NamesAscend t
    → place_shown (st []) ≡ Some (record { shape = shape_table; key_span = Some k.span; span = v.span }) → IsTableCell (st []) → e [] ≡ 0 → IsBorrowedRight text (k.name, key_spans st []) → IsBuilt text t st e
    → EntryBuilt text (k, v) st e
entry-table text k v t st e is ascend here cell count name h = record {
  shows = record {
    places = value-shows text (Some k.span) v t st e is here h;
    ordered = value-ordered text v t st e is ascend h;
    right = (name, value-right text v t st e is ascend h);
  };
  made = record { table = λ u also. (count, cell); array = λ a also. absurd (kinds-apart v t a is also) };
  inside = λ q u has. only-table text v t u st e q is h has;
}

-- ---- an entry at a name

entry-there : (text : List ℕ) (b : Bool) (x : Key × Value) (o : Option (Key × Value)) (st sub : CellMap) (e c : Path → ℕ) → EntryBuilt text x sub c → EntryAt text o st e
    → EntryAt text (cond b (Some x) o) (λ p. if b then sub p else st p) (λ p. if b then c p else e p)
entry-there text true x o st sub e c h old = (h.shows, λ by. h.made)
entry-there text false x o st sub e c h old = old

inside-there : (text : List ℕ) (b : Bool) (x y : Key × Value) (q : Path) (u : Table) (o : Option (Key × Value)) (st sub : CellMap) (e c : Path → ℕ) → EntryBuilt text x sub c → cond b (Some x) o ≡ Some y → IsOpenTable y.1 q u
    → (o ≡ Some y → IsBuilt text u (λ p. st (q ++ p)) (λ p. e (q ++ p))) → IsBuilt text u (λ p. if b then sub (q ++ p) else st (q ++ p)) (λ p. if b then c (q ++ p) else e (q ++ p))
inside-there text true x y q u o st sub e c h is has old = h.inside q u (subst (λ (z : Key × Value). IsOpenTable z.1 q u) (sym (same_Some x y is)) has)
inside-there text false x y q u o st sub e c h is has old = old is

pub built-at : (text : List ℕ) (t new : Table) (st sub : CellMap) (e c : Path → ℕ) (name : List ℕ) (x : Key × Value)
    → ((l : List ℕ) → lookup_entry (is_named l) new.entries ≡ cond (bytes_eq name l) (Some x) (lookup_entry (is_named l) t.entries)) → EntryBuilt text x sub c → IsBuilt text t st e
    → IsBuilt text new (graft (key name) st sub) (graft (key name) e c)
unfolding graft
built-at text t new st sub e c name x found h (built u f d positions at inside) =
    built new (graft (key name) st sub) (graft (key name) e c) positions
    (λ l. rw (found l) (entry-there text (bytes_eq name l) x (lookup_entry (is_named l) t.entries) (λ p. st (key l ∷ p)) sub (λ p. e (key l ∷ p)) c h (at l)))
    (λ l y q w is by has.
    inside-there text (bytes_eq name l) x y q w (lookup_entry (is_named l) t.entries) (λ p. st (key l ∷ p)) sub (λ p. e (key l ∷ p)) c h (sym (found l) ∙ is) has
    (λ old. inside l y q w old by has))

-- the part of a header, in a table
pub placed-at : (text : List ℕ) (h : HeaderInfo) (tail : Claims) (part : SimpleKey) (rest : List SimpleKey) (t new : Table) (st : CellMap) (e : Path → ℕ) (x : Key × Value)
    → ((l : List ℕ) → lookup_entry (is_named l) new.entries ≡ cond (bytes_eq part.name l) (Some x) (lookup_entry (is_named l) t.entries)) → IsBuilt text t st e
    → (clash_found (λ p. st (key part.name ∷ p)) (through (λ p. e (key part.name ∷ p)) h part rest tail) ≡ None)
    × EntryBuilt text x (put_all (λ p. st (key part.name ∷ p)) (through (λ p. e (key part.name ∷ p)) h part rest tail)) (counts_after_through (λ p. e (key part.name ∷ p)) h rest)
    → (clash_found st (section_at e h (part ∷ rest) tail) ≡ None) × IsBuilt text new (put_all st (section_at e h (part ∷ rest) tail)) (counts_after e h (part ∷ rest))
placed-at text h tail part rest t new st e x found before made =
    let cs = through (λ p. e (key part.name ∷ p)) h part rest tail in
    rw (section_at-through e h part rest tail, counts_after-through e h part rest) (
      reported-under (key part.name) st cs ∙ made.0,
      rw (put_all-under (key part.name) st cs) (built-at text t new st (put_all (λ p. st (key part.name ∷ p)) cs) e (counts_after_through (λ p. e (key part.name ∷ p)) h rest) part.name x found made.1 before),
    )

-- ---- the entry in the map

twice : {A : Type 0} (b : Bool) (x y z : A) → cond b x z ≡ cond b x (cond b y z)
twice true x y z = refl
twice false x y z = refl

later : (l : List ℕ) (k : Key) (e x : Key × Value) (o : Option (Key × Value)) (b : Bool) → is_named l k ≡ b → key_cmp k e.0 ≡ Greater → cond (is_named l e.0) (Some e) (cond b (Some x) o) ≡ cond b (Some x) (cond (is_named l e.0) (Some e) o)
later l k e x o true at more = let apart : is_named l e.0 ≡ false = rw (same_name l (cow_str_bytes k.name) at) (ap is_eq more) in rw apart
later l k e x o false at more = refl

-- the value is replaced at a name that the map has
found-again : (k : Key) (x : Key × Value) (w : Value) (l : List ℕ) (es : List (Key × Value)) → lookup_entry (is_named (cow_str_bytes k.name)) es ≡ Some x → keys_of (insert_entry key_cmp es k w) ≡ keys_of es
    → lookup_entry (is_named l) (insert_entry key_cmp es k w) ≡ cond (is_named l k) (Some (x.0, w)) (lookup_entry (is_named l) es)
found-again k x w l [] found same = absurd (none-some x found)
found-again k x w l (e ∷ es) found same =
    insert_by (λ made. keys_of made ≡ keys_of (e ∷ es) → lookup_entry (is_named l) made ≡ cond (is_named l k) (Some (x.0, w)) (lookup_entry (is_named l) (e ∷ es))) k w e es
    (λ less same. absurd (omega (arith, ap length same)))
    (λ tie same.
    let is : e ≡ x = same_Some e x (rw tie at found) in
    let here : is_named l e.0 ≡ is_named l k = ap (λ n. is_eq (slice_cmp nat_cmp l n)) (sym (same_name (cow_str_bytes k.name) (cow_str_bytes e.0.name) (ap is_eq tie))) in
    rw here (ap (λ (y : Key × Value). cond (is_named l k) (Some (y.0, w)) (lookup_entry (is_named l) es)) is ∙ twice (is_named l k) (Some (x.0, w)) (Some e) (lookup_entry (is_named l) es)))
    (λ more same.
    ap (cond (is_named l e.0) (Some e)) (found-again k x w l es (rw more at found) (cc)) ∙ later l k e (x.0, w) (lookup_entry (is_named l) es) (is_named l k) refl more) same

-- the entry that the map has at the name of a part
module _ (text : List ℕ) (h : HeaderInfo) (tail : Claims) (part : SimpleKey) (rest : List SimpleKey) (t new : Table) (k : Key) (name : cow_str_bytes k.name ≡ part.name) where
  named-part : (l : List ℕ) → is_named l k ≡ bytes_eq part.name l
  named-part l = named-by l k ∙ ap (λ n. bytes_eq n l) name

  pub occupied : (x : Key × Value) (w : Value) → lookup_entry (is_named (cow_str_bytes k.name)) t.entries ≡ Some x → IsByHeader x → new.entries ≡ insert_entry key_cmp t.entries k w → keys_of new.entries ≡ keys_of t.entries
      → EntryBuildsOn text x.0 x.1 w (λ e. through e h part rest tail) (λ e. counts_after_through e h rest)
      → BuildsOn text t new (λ e. section_at e h (part ∷ rest) tail) (λ e. counts_after e h (part ∷ rest))
  occupied x w found by written stay on st e (built u f c positions at inside) =
      let here : lookup_entry (is_named part.name) t.entries ≡ Some x = ap (λ n. lookup_entry (is_named n) t.entries) (sym name) ∙ found in
      let entry = rw here at (at part.name) in
      placed-at text h tail part rest t new st e (x.0, w)
      (λ l. ap (lookup_entry (is_named l)) written ∙ found-again k x w l t.entries found (ap keys_of (sym written) ∙ stay) ∙ ap (λ b. cond b (Some (x.0, w)) (lookup_entry (is_named l) t.entries)) (named-part l))
      (built t st e positions at inside)
      (on (λ p. st (key part.name ∷ p)) (λ p. e (key part.name ∷ p)) (record { shows = entry.0; made = entry.1 by; inside = λ q w has. inside part.name x q w here by has }))

  pub vacant : (v : Value) → lookup_entry (is_named (cow_str_bytes k.name)) t.entries ≡ None → new.entries ≡ insert_entry key_cmp t.entries k v
      → MakesEntry text (k, v) (through (λ p. 0) h part rest tail) (counts_after_through (λ p. 0) h rest)
      → BuildsOn text t new (λ e. section_at e h (part ∷ rest) tail) (λ e. counts_after e h (part ∷ rest))
  vacant v free written made st e (built u f c positions at inside) =
      let none = rw (ap (λ n. lookup_entry (is_named n) t.entries) (sym name) ∙ free) at (at part.name) in
      placed-at text h tail part rest t new st e (k, v)
      (λ l. ap (lookup_entry (is_named l)) written ∙ holds-insert k v t.entries free l ∙ ap (λ n. cond (bytes_eq n l) (Some (k, v)) (lookup_entry (is_named l) t.entries)) name)
      (built t st e positions at inside)
      (subst (λ (g : CellMap). (clash_found g (through (λ p. e (key part.name ∷ p)) h part rest tail) ≡ None) × EntryBuilt text (k, v) (put_all g (through (λ p. e (key part.name ∷ p)) h part rest tail)) (counts_after_through (λ p. e (key part.name ∷ p)) h rest)) (sym none.0)
      (subst (λ (d : Path → ℕ). (clash_found no_cells (through d h part rest tail) ≡ None) × EntryBuilt text (k, v) (put_all no_cells (through d h part rest tail)) (counts_after_through d h rest)) (sym none.1) made))

-- ---- claims on the entry itself

claimed-built : (text : List ℕ) (t : Table) (st : CellMap) (e : Path → ℕ) (f : Cell → Cell) → IsBuilt text t st e → IsBuilt text t (change st [] f) e
unfolding change same_path
claimed-built text t st e f (built u g c positions at inside) = built t (change st [] f) e positions at inside

empty-built : (text : List ℕ) (t : Table) → t.entries ≡ [] → IsBuilt text t no_cells (λ p. 0)
empty-built text t none =
    built t no_cells (λ p. 0) (λ i p. refl) (λ name. rw none (refl, refl)) (λ name x q u is by has. absurd (none-some x (ap (lookup_entry (is_named name)) (sym none) ∙ is)))

section-here : (st : CellMap) (e : Path → ℕ) (h : HeaderInfo) (k : SimpleKey) (rest : List SimpleKey) (tail : Claims) → put_all st (section_at e h (k ∷ rest) tail) [] ≡ st []
unfolding graft
section-here st e h k rest tail = rw (section_at-through e h k rest tail) (ap (λ f. f []) (put_all-under (key k.name) st (through (λ p. e (key k.name ∷ p)) h k rest tail)))

pub counts-here : (e : Path → ℕ) (h : HeaderInfo) (k : SimpleKey) (rest : List SimpleKey) → counts_after e h (k ∷ rest) [] ≡ e []
unfolding graft
counts-here e h k rest = ap (λ f. f []) (counts_after-through e h k rest)

decide-header : (o : Option Decided) (d : Decided) → IsSomeAnd o (λ x. x.header ≡ true) → decide o d ≡ o
decide-header o d h = grind (arith, nat_tests, common_steps)

kind-free : (a b : ClaimKind) → is_assigned a ≡ false → b ≡ Passed → clash_kind a b ≡ None
kind-free a b h is = grind (arith, nat_tests, common_steps)

pass-free : (ms : List ClaimInfo) (m : ClaimInfo) → AllByRecursion (λ x. is_assigned x.kind ≡ false) ms → m.kind ≡ Passed → earliest_clash_info ms m ≡ None
pass-free [] m h is = refl
pass-free (x ∷ ms) m h is = grind (arith, nat_tests, common_steps, kind-free, pass-free ms m)

cell-passed : (x : Cell) (c : Claim) → c.info.kind ≡ Passed → IsTableCell x → IsTableCell (with_claim c x) × ((with_claim c x).shown ≡ x.shown)
cell-passed x c is h =
    let same = decide-header x.shown _ h.header in (
      record {
        free = elim (remember-cases x.infos c.info) [
          | inl had ↦ rw had.1 h.free
          | inr new ↦ rw new.1 (all_append (λ (m : ClaimInfo). is_assigned m.kind ≡ false) x.infos (c.info ∷ []) h.free (ap is_assigned is, tt))
        ];
        header = rw same h.header;
      },
      same,
    )

-- ---- through a table

module _ (text : List ℕ) (h : HeaderInfo) (tail : Claims) (part : SimpleKey) (l : SimpleKey) (more : List SimpleKey) where
  abbrev passed : Claim
  passed = header_claim h Passed [] part

  through-is : (e : Path → ℕ) → e [] ≡ 0 → through e h part (l ∷ more) tail ≡ claimed passed (section_at e h (l ∷ more) tail)
  through-is e none = ap (λ n. entered n e (passing h part (l ∷ more) tail)) none

  counts-is : (e : Path → ℕ) → e [] ≡ 0 → counts_after_through e h (l ∷ more) ≡ counts_after e h (l ∷ more)
  counts-is e none = ap (λ n. counts_after_entered n e (λ f. counts_after f h (l ∷ more))) none

  through-table : (k : Key) (v : Value) (t u : Table) (st : CellMap) (e : Path → ℕ) → e [] ≡ 0 → v.value ≡ Some (table_inner u) → NamesAscend u → earliest_clash (st []).infos passed.info part.name ≡ None
      → IsTableCell (with_claim passed (st [])) → place_shown (with_claim passed (st [])) ≡ Some (record { shape = shape_table; key_span = Some k.span; span = v.span })
      → IsBorrowedRight text (k.name, option_map (λ d. d.key) (with_claim passed (st [])).shown) → IsBuilt text t st e
      → BuildsOn text t u (λ e. section_at e h (l ∷ more) tail) (λ e. counts_after e h (l ∷ more))
      → (clash_found st (through e h part (l ∷ more) tail) ≡ None) × EntryBuilt text (k, v) (put_all st (through e h part (l ∷ more) tail)) (counts_after_through e h (l ∷ more))
  unfolding change same_path clash_found put_all
  through-table k v t u st e none held ascend free cell place name before on =
      let st1 = change st [] (with_claim passed) in
      let cs = section_at e h (l ∷ more) tail in
      let done = on st1 e (claimed-built text t st e (with_claim passed) before) in
      let here : put_all st1 cs [] ≡ with_claim passed (st []) = section-here st1 e h l more tail in
      rw (through-is e none, counts-is e none) (
        rw free done.0,
        entry-table text k v u (put_all st1 cs) (counts_after e h (l ∷ more)) held ascend (ap place_shown here ∙ place) (subst IsTableCell (sym here) cell) (counts-here e h l more ∙ none)
            (subst (λ (x : Cell). IsBorrowedRight text (k.name, option_map (λ d. d.key) x.shown)) (sym here) name) done.1,
      )

-- the branch at a name through which the header passes
pub pass-table : (text : List ℕ) (h : HeaderInfo) (tail : Claims) (part : SimpleKey) (rest : List SimpleKey) (k : Key) (old new : Value) (t u : Table) (st : CellMap) (e : Path → ℕ) → (rest ≡ [] → ⊥)
    → old.value ≡ Some (table_inner t) → (new.value ≡ Some (table_inner u)) × (new.span ≡ old.span) → NamesAscend u → BuildsOn text t u (λ e. section_at e h rest tail) (λ e. counts_after e h rest) → EntryBuilt text (k, old) st e
    → (clash_found st (through e h part rest tail) ≡ None) × EntryBuilt text (k, new) (put_all st (through e h part rest tail)) (counts_after_through e h rest)
pass-table text h tail part [] k old new t u st e some was held ascend on entry = absurd (some refl)
pass-table text h tail part (l ∷ more) k old new t u st e some was held ascend on entry =
    let m = entry.made.table t was in
    let c = header_claim h Passed [] part in
    let cell = cell-passed (st []) c refl m.1 in
    let place : place_shown (st []) ≡ Some (record { shape = shape_table; key_span = Some k.span; span = new.span }) = sym (rw (view-table old t was) at (entry.shows.places [])) ∙ rw (held.1) refl in
    through-table text h tail part l more k new t u st e m.0 held.0 ascend (ap (option_map (with_name part.name)) (pass-free (st []).infos c.info m.1.free refl)) cell.0 (ap (option_map (λ d. d.place)) cell.1 ∙ place)
    (subst (λ (o : Option Decided). IsBorrowedRight text (k.name, option_map (λ d. d.key) o)) (sym cell.1) entry.shows.right.0) (entry.inside [] t was) on

-- ---- a new name

module _ (text : List ℕ) (h : HeaderInfo) (tail : Claims) (k : Key) (part : SimpleKey) (v : Value) (t : Table) (at : k.span ≡ part.span) (size : h.extent ≡ v.span) (name : IsBorrowedRight text (k.name, Some k.span)) (held : v.value ≡ Some (table_inner t)) (ascend : NamesAscend t) where
  named-right : (d : Span) → d ≡ part.span → IsBorrowedRight text (k.name, Some d)
  named-right d is = subst (λ s. IsBorrowedRight text (k.name, Some s)) (at ∙ sym is) name

  place-right : ◌≡◌ {A = Option Place} (Some (record { shape = shape_table; key_span = Some part.span; span = h.extent })) (Some (record { shape = shape_table; key_span = Some k.span; span = v.span }))
  place-right = rw (at, size) refl

  -- with further parts
  pub new-table : (none : Table) (rest : List SimpleKey) → (rest ≡ [] → ⊥) → none.entries ≡ [] → BuildsOn text none t (λ e. section_at e h rest tail) (λ e. counts_after e h rest)
      → MakesEntry text (k, v) (through (λ p. 0) h part rest tail) (counts_after_through (λ p. 0) h rest)
  new-table none [] some bare on = absurd (some refl)
  new-table none (l ∷ more) some bare on =
      through-table text h tail part l more k v none t no_cells (λ p. 0) refl held ascend refl (record { free = (refl, tt); header = refl }) place-right (named-right part.span refl) (empty-built text none bare) on

  -- the table of the section itself
  pub new-section : h.array ≡ false → IsSection text tail t → MakesEntry text (k, v) (through (λ p. 0) h part [] tail) (counts_after_through (λ p. 0) h [])
  unfolding change same_path clash_found put_all
  new-section single section =
      let c = header_claim h StandardTable [] part in
      let st = change no_cells [] (with_claim c) in
      let here : put_all st tail [] ≡ with_claim c no_cell = section.here st in
      let is : through (λ p. 0) h part [] tail ≡ claimed c tail = ap (λ (b : Bool). if b then array_claims h [] part 0 (adding h part tail 0) else opening h StandardTable part tail) single in
      let count : counts_after_through (λ p. 0) h [] ≡ (λ p. 0) = fun_ext (λ p. ap (λ (b : Bool). if b then counts_after_adding (λ q. 0) p else 0) single) in
      rw (is, count) (
        section.free st (λ s p. refl),
        entry-table text k v t (put_all st tail) (λ p. 0) held ascend (ap place_shown here ∙ place-right) (subst IsTableCell (sym here) (record { free = (refl, tt); header = refl })) refl
            (subst (λ (x : Cell). IsBorrowedRight text (k.name, option_map (λ d. d.key) x.shown)) (sym here) (named-right part.span refl)) (section.built st (λ s p. refl)),
      )

-- ---- an element of an array of tables

-- what a table shows where it is an element of an array
abbrev pub ElementShows : List ℕ → Value → CellMap → Type 0
ElementShows text v st = ((p : Path) → option_map tree_place (reached p (None, view v)) ≡ place_shown (st p)) × IsOrdered (view v) × AreBorrowedRight text (strings_and_keys v (key_spans st))

pub element-table : (text : List ℕ) (v : Value) (t : Table) (st : CellMap) (e : Path → ℕ) → v.value ≡ Some (table_inner t) → NamesAscend t → place_shown (st []) ≡ Some (record { shape = shape_table; key_span = None; span = v.span })
    → IsBuilt text t st e → ElementShows text v st
element-table text v t st e held ascend here made = (value-shows text None v t st e held here made, value-ordered text v t st e held ascend made, value-right text v t st e held ascend made)

module _ (text : List ℕ) (h : HeaderInfo) (tail : Claims) (part : SimpleKey) where
  -- a new element
  module _ (t : Table) (section : IsSection text tail t) where
    abbrev element : Claims
    element = opening h TableElement part tail

    abbrev opened : CellMap
    opened = change no_cells [] (with_claim (header_claim h TableElement [] part))

    pub element-free : clash_found no_cells element ≡ None
    unfolding change same_path clash_found
    element-free = section.free opened (λ s p. refl)

    pub element-built : IsBuilt text t (put_all no_cells element) (λ p. 0)
    unfolding change same_path put_all
    element-built = section.built opened (λ s p. refl)

    pub element-cell : IsTableCell (put_all no_cells element [])
    unfolding change same_path put_all
    element-cell = subst IsTableCell (sym (section.here opened)) (record { free = (refl, tt); header = refl })

    pub element-shows : (v : Value) → h.extent ≡ v.span → v.value ≡ Some (table_inner t) → NamesAscend t → ElementShows text v (put_all no_cells element)
    unfolding change same_path put_all
    element-shows v size held ascend =
        element-table text v t (put_all no_cells element) (λ p. 0) held ascend (ap place_shown (section.here opened) ∙ ap (λ s. Some (record { shape = shape_table; key_span = None; span = s })) size) element-built

  -- the latest element, through which the header passes
  module _ (l : SimpleKey) (more : List SimpleKey) (sub : CellMap) (e : Path → ℕ) (cell : IsTableCell (sub [])) where
    abbrev crossed : Claim
    crossed = header_claim h Passed [] part

    abbrev passed-sub : CellMap
    passed-sub = put_all sub (passing h part (l ∷ more) tail e)

    passed-here : passed-sub [] ≡ with_claim crossed (sub [])
    unfolding change same_path put_all
    passed-here = section-here (change sub [] (with_claim crossed)) e h l more tail

    pub passed-cell : IsTableCell (passed-sub [])
    passed-cell = subst IsTableCell (sym passed-here) (cell-passed (sub []) crossed refl cell).0

    pub passed-shown : place_shown (passed-sub []) ≡ place_shown (sub [])
    passed-shown = ap place_shown passed-here ∙ ap (option_map (λ d. d.place)) (cell-passed (sub []) crossed refl cell).1

    pub passed-built : (t u : Table) → IsBuilt text t sub e → BuildsOn text t u (λ f. section_at f h (l ∷ more) tail) (λ f. counts_after f h (l ∷ more))
        → (clash_found sub (passing h part (l ∷ more) tail e) ≡ None) × IsBuilt text u passed-sub (counts_after e h (l ∷ more))
    unfolding change same_path clash_found put_all
    passed-built t u before on =
        let done = on (change sub [] (with_claim crossed)) e (claimed-built text t sub e (with_claim crossed) before) in
        (rw (ap (option_map (with_name part.name)) (pass-free (sub []).infos crossed.info cell.free refl)) done.0, done.1)

-- ---- the functions' arguments and results

pub some-map : {A : Type 0} (o : Option A) (P Q : A → Type 0) → ((x : A) → P x → Q x) → IfSome o P → IfSome o Q
some-map None P Q more h = tt
some-map (Some x) P Q more h = more x h

pub placed-rest : (text : List ℕ) (h : HeaderInfo) (tail : Claims) (parts rest : List Key) (array : Bool) (v : Value) → AreWrittenRight text (keys_written rest) → Placed text h tail parts array v → Placed text h tail rest array v
placed-rest text h tail parts rest array v keys p =
    record { brackets = p.brackets; extent = p.extent; keys = keys; table = p.table; held = p.held; ascend = p.ascend; section = p.section }

clone-right : (text : List ℕ) (part k : Key) → cow_str_bytes k.name ≡ cow_str_bytes part.name → (IsBorrowedStr part.name → IsBorrowedStr k.name) → (IsBorrowedStr k.name → IsBorrowedStr part.name) → IsWrittenRight text (key_written part)
    → IsBorrowedRight text (k.name, Some part.span)
clone-right text part k same forth back h = grind (arith, nat_tests, common_steps)

pub key-for : (text : List ℕ) (k part : Key) → cow_str_bytes k.name ≡ cow_str_bytes part.name → k.span ≡ part.span → (IsBorrowedStr part.name → IsBorrowedStr k.name) → (IsBorrowedStr k.name → IsBorrowedStr part.name)
    → IsWrittenRight text (key_written part) → IsKeyFor text k part
key-for text k part name at forth back h = (name, at, subst (λ s. IsBorrowedRight text (k.name, Some s)) (sym at) (clone-right text part k name forth back h))
