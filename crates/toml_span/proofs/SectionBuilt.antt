-- The table of a section, as it is read, is a table under construction.
use Rattle.toml_span_lex.proofs.Common.{◌≡◌, ℕ, List, [], ◌∷◌, ◌++◌, Option, Some, None, option_map, option_and_then, false, if◌then◌else◌, map, Ok, cow_str_bytes, lookup_entry, refl, sym, ap, ◌∙◌, subst, inl, inr, arith, cases_Bool, false≢true, none-some, same_Some, nat_tests, common_steps}
use Rattle.toml_span_lex.specs.declared.key.Key.{Key}
use Rattle.toml_span_lex.specs.declared.span.Span.{Span}
use Rattle.toml_span_tree.specs.Node as tree
use Rattle.toml_span_tree.specs.Path.{Path, Step, key, position, reached, place_of as tree_place}
use Rattle.toml_span_tree.specs.Value.{view, inner_view, members_view}
use Rattle.toml_span_tree.specs.declared.value.Value.{Value}
use Rattle.toml_span_tree.specs.declared.value.ValueInner.TheVariants.{Table as table_inner}
use Rattle.toml_span_tree.proofs.Values.{inner_view-Table, entry_at-lookup}
use Rattle.toml_span_read.specs.Data.{ParsedAssignment}
use Rattle.toml_span_read.proofs.BorrowLemmas.{all_front, all_after}
use Rattle.toml_span_read.proofs.EarlierTree.{same_name}
use Rattle.toml_span.specs.Borrowed.{KeySpans, IsBorrowedRight, strings_and_keys, AreBorrowedRight}
use Rattle.toml_span.specs.Claims.{Claim, Claims, no_claims, claimed, scope, assignments_claims}
use Rattle.std.specs.Option.{option_or}
use Rattle.toml_span.specs.Ordered.{IsOrdered, MembersOrdered}
use Rattle.toml_span_read.specs.Paths.{same_path}
use Rattle.toml_span.specs.code.Borrowed.{own_spans, own_table, table_held}
use Rattle.toml_span.specs.code.Built.{EntryAt, EntryRight, built, IsEmptyBelow, IsLate, IsSection}
use Rattle.toml_span.specs.code.Machine.{Cell, CellMap, Decided, change, clash_found, decide, decided, earliest_clash, key_spans, no_cell, no_cells, put_all, show_all, with_claim, with_inner}
use Rattle.toml_span.specs.code.Placing.{ScopeGives, Table, place_shown}
use Rattle.toml_span.specs.code.Tree.{plain, value_shows}
use Rattle.toml_span_lex.specs.Key.{is_named}
use Rattle.toml_span.proofs.EachClaim.{Each, assignments-each}
use Rattle.toml_span.proofs.Grafts.{fun_ext}
use Rattle.toml_span.proofs.HeldValues.{table-spans}
use Rattle.toml_span.proofs.Shown.{put_all-shown}
use Rattle.toml_span.proofs.Values.{IsBelow, show_all-here, show_all-local}

-- ---- claims below a table do not depend on the table's own cell

put_all-local : (f g : CellMap) (cs : Claims) (p : Path) → f p ≡ g p → put_all f cs p ≡ put_all g cs p
unfolding put_all change
put_all-local f g no_claims p same = same
put_all-local f g (claimed c cs) p same = grind (arith, nat_tests, common_steps, put_all-local (change f c.path (with_claim c)) (change g c.path (with_claim c)) cs p)
put_all-local f g (scope inner cs) p same = put_all-local (show_all f inner) (show_all g inner) cs p (show_all-local f g inner p same)

put_all-root : (st : CellMap) (cs : Claims) → Each IsBelow cs → put_all st cs [] ≡ st []
unfolding put_all change
put_all-root st no_claims h = refl
put_all-root st (claimed c cs) h = put_all-root (change st c.path (with_claim c)) cs h.1 ∙ rw h.0
put_all-root st (scope inner cs) h = put_all-root (show_all st inner) cs h.1 ∙ show_all-here st inner h.0

abbrev SameBelow : CellMap → CellMap → Type 0
SameBelow f g = (s : Step) (p : Path) → f (s ∷ p) ≡ g (s ∷ p)

same-at : (f g : CellMap) → SameBelow f g → (p : Path) → same_path p [] ≡ false → f p ≡ g p
unfolding same_path
same-at f g same [] h = absurd (false≢true (sym h))
same-at f g same (s ∷ p) h = same s p

clash-local : (f g : CellMap) (cs : Claims) → Each IsBelow cs → SameBelow f g → clash_found f cs ≡ clash_found g cs
unfolding clash_found change
clash-local f g no_claims below same = refl
clash-local f g (claimed c cs) below same =
    ap (λ (x : Cell). option_or (earliest_clash x.infos c.info c.name) (clash_found (change f c.path (with_claim c)) cs)) (same-at f g same c.path below.0)
    ∙ ap (option_or (earliest_clash (g c.path).infos c.info c.name))
    (clash-local (change f c.path (with_claim c)) (change g c.path (with_claim c)) cs below.1
    (λ s p. ap (λ (x : Cell). if same_path c.path (s ∷ p) then with_claim c x else x) (same s p)))
clash-local f g (scope inner cs) below same =
    ap (option_or (clash_found no_cells inner)) (clash-local (show_all f inner) (show_all g inner) cs below.1 (λ s p. show_all-local f g inner (s ∷ p) (same s p)))

-- ---- where nothing is shown, nothing is kept

abbrev NothingHidden : CellMap → Type 0
NothingHidden st = (p : Path) → (st p).shown ≡ None → (st p).infos ≡ []

decide-some : (o : Option Decided) (d : Decided) → decide o d ≡ None → ⊥
decide-some o d h = grind (arith, nat_tests, common_steps)

hidden-change : (st : CellMap) (q : Path) (c : Claim) (f : Cell → Cell) → ((x : Cell) → (f x).shown ≡ decide x.shown (decided c)) → NothingHidden st → NothingHidden (change st q f)
unfolding change
hidden-change st q c f is h p none = elim (cases_Bool (same_path q p)) [
  | inl here ↦ absurd (decide-some (st p).shown (decided c) (sym (is (st p)) ∙ (rw here at none)))
  | inr off ↦ rw off (h p (rw off at none))
]

hidden-show : (st : CellMap) (cs : Claims) → NothingHidden st → NothingHidden (show_all st cs)
unfolding show_all
hidden-show st no_claims h = h
hidden-show st (claimed c cs) h = hidden-show (change st c.path (with_inner c)) cs (hidden-change st c.path c (with_inner c) (λ x. refl) h)
hidden-show st (scope inner cs) h = hidden-show (show_all st inner) cs (hidden-show st inner h)

hidden-put : (st : CellMap) (cs : Claims) → NothingHidden st → NothingHidden (put_all st cs)
unfolding put_all
hidden-put st no_claims h = h
hidden-put st (claimed c cs) h = hidden-put (change st c.path (with_claim c)) cs (hidden-change st c.path c (with_claim c) (λ x. refl) h)
hidden-put st (scope inner cs) h = hidden-put (show_all st inner) cs (hidden-show st inner h)

cell-none : (x : Cell) → x.shown ≡ None → x.infos ≡ [] → x ≡ no_cell
cell-none x shown infos = λ i. record { infos = infos i; shown = shown i }

put-none : (cs : Claims) (p : Path) → (put_all no_cells cs p).shown ≡ None → put_all no_cells cs p ≡ no_cell
put-none cs p none = cell-none (put_all no_cells cs p) none (hidden-put no_cells cs (λ q h. refl) p none)

-- ---- entries by name

named-ordered : (name : List ℕ) (es : List (Key × Value)) (x : Key × Value) → MembersOrdered (members_view es) → lookup_entry (is_named name) es ≡ Some x → IsOrdered (view x.1)
named-ordered name [] x h is = absurd (none-some x is)
named-ordered name (e ∷ es) x h is = elim (cases_Bool (is_named name e.0)) [
  | inl here ↦ subst (λ (y : Key × Value). IsOrdered (view y.1)) (same_Some e x (rw here at is)) h.1
  | inr off ↦ named-ordered name es x h.2 (rw off at is)
]

named-right : (text : List ℕ) (spans : KeySpans) (name : List ℕ) (es : List (Key × Value)) (x : Key × Value) → AreBorrowedRight text (table_held es spans) → lookup_entry (is_named name) es ≡ Some x
    → EntryRight text (λ p. spans (key name ∷ p)) x
named-right text spans name [] x h is = absurd (none-some x is)
named-right text spans name (e ∷ es) x h is = elim (cases_Bool (is_named name e.0)) [
  | inl here ↦
      let same : cow_str_bytes e.0.name ≡ name = sym (same_name name (cow_str_bytes e.0.name) here) in
      let right : EntryRight text (λ p. spans (key (cow_str_bytes e.0.name) ∷ p)) e =
      (h.0, all_front (IsBorrowedRight text) (strings_and_keys e.1 (λ p. spans (key (cow_str_bytes e.0.name) ∷ p))) (table_held es spans) h.1) in
      subst (λ (y : Key × Value). EntryRight text (λ p. spans (key name ∷ p)) y) (same_Some e x (rw here at is)) (subst (λ n. EntryRight text (λ p. spans (key n ∷ p)) e) same right)
  | inr off ↦ named-right text spans name es x (all_after (IsBorrowedRight text) (strings_and_keys e.1 (λ p. spans (key (cow_str_bytes e.0.name) ∷ p))) (table_held es spans) h.1) (rw off at is)
]

plain_place : (o : Option (Option Span × tree.Node)) → option_map (λ d. d.place) (option_map (λ m. plain (tree_place m)) o) ≡ option_map tree_place o
plain_place o = grind (arith, nat_tests, common_steps)

-- ---- a section

not_here : (p : Path) (s : Step) → same_path (p ++ (s ∷ [])) [] ≡ false
unfolding same_path
not_here [] s = refl
not_here (t ∷ p) s = refl

module _ (text : List ℕ) (es : List ParsedAssignment) (t : Table) (gives : ScopeGives (Ok t) (λ t. inner_view (table_inner t)) (assignments_claims es [])) where
  abbrev cs : Claims
  cs = assignments_claims es []

  assigned-below : Each IsBelow cs
  assigned-below = assignments-each IsBelow (λ p k v. not_here p (key k.name)) (λ p k v. not_here p (key k.name)) (λ p i v. not_here p (position i)) es []

  put-below : (st : CellMap) → IsEmptyBelow st → (s : Step) (p : Path) → put_all st cs (s ∷ p) ≡ put_all no_cells cs (s ∷ p)
  put-below st empty s p = put_all-local st no_cells cs (s ∷ p) (empty s p)

  -- what is shown is what the table shows
  shown-in : (s : Step) (p : Path) → (put_all no_cells cs (s ∷ p)).shown ≡ value_shows None (tree.node (tree.table (members_view t.entries)) (record { start = 0; end = 0 })) (s ∷ p)
  shown-in s p = put_all-shown cs (s ∷ p) ∙ sym (rw (inner_view-Table t) at (gives.1.0 s p))

  shown-name : (name : List ℕ) (p : Path)
      → (put_all no_cells cs (key name ∷ p)).shown ≡ option_map (λ m. plain (tree_place m)) (option_and_then (reached p) (option_map (λ x. (Some x.0.span, view x.1)) (lookup_entry (is_named name) t.entries)))
  shown-name name p = shown-in (key name) p ∙ ap (λ o. option_map (λ m. plain (tree_place m)) (option_and_then (reached p) o)) (sym (entry_at-lookup name t.entries))

  section-positions : (st : CellMap) → IsEmptyBelow st → (i : ℕ) (p : Path) → put_all st cs (position i ∷ p) ≡ no_cell
  section-positions st empty i p = put-below st empty (position i) p ∙ put-none cs (position i ∷ p) (shown-in (position i) p)

  module _ (own : AreBorrowedRight text (own_table t.entries)) (late : (name : List ℕ) (x : Key × Value) → lookup_entry (is_named name) t.entries ≡ Some x → IsLate x) where
    section-right : (st : CellMap) → IsEmptyBelow st → AreBorrowedRight text (table_held t.entries (key_spans (put_all st cs)))
    section-right st empty =
        subst (AreBorrowedRight text)
        (table-spans (map (λ e. (e.0, strings_and_keys e.1)) t.entries) (own_spans None (tree.node (tree.table (members_view t.entries)) (record { start = 0; end = 0 }))) (key_spans (put_all st cs))
        (λ s p. ap (option_map (λ d. d.key)) (sym (shown-in s p) ∙ ap (λ (x : Cell). x.shown) (sym (put-below st empty s p))))) own

    section-entry : (st : CellMap) → IsEmptyBelow st → (name : List ℕ) (o : Option (Key × Value)) → lookup_entry (is_named name) t.entries ≡ o
        → EntryAt text o (λ p. put_all st cs (key name ∷ p)) (λ p. 0)
    section-entry st empty name None is =
        (fun_ext (λ p. put-below st empty (key name) p ∙ put-none cs (key name ∷ p) (rw is at (shown-name name p))), refl)
    section-entry st empty name (Some x) is = (
      record {
        places = λ p.
            sym (ap place_shown (put-below st empty (key name) p) ∙ ap (option_map (λ d. d.place)) (rw is at (shown-name name p)) ∙ plain_place (reached p (Some x.0.span, view x.1)));
        ordered = named-ordered name t.entries x (rw (inner_view-Table t) at gives.1.1) is;
        right = named-right text (key_spans (put_all st cs)) name t.entries x (section-right st empty) is;
      },
      λ by. absurd (omega (arith, by, late name x is)),
    )

    pub section-built : IsSection text cs t
    section-built = record {
      free = λ st empty. clash-local st no_cells cs assigned-below empty ∙ gives.0;
      here = λ st. put_all-root st cs assigned-below;
      built = λ st empty.
          built t (put_all st cs) (λ p. 0) (section-positions st empty) (λ name. section-entry st empty name _ refl)
          (λ name x q u is by has. absurd (omega (arith, by, late name x is)));
    }
