-- The entries of a table in order, as plain data.
use Rattle.toml_span_lex.proofs.Common.{◌≡◌, ℕ, Bool, true, false, List, [], ◌∷◌, map, refl, sym, ap, ◌∙◌, cow_str_bytes, arith, nat_tests, common_steps}
use Rattle.toml_span_lex.specs.declared.span.Span.{Span}
use Rattle.toml_span_tree.specs.Node.{Node, Members, no_members, member}
use Rattle.toml_span_tree.specs.Value.{members_of, members_view, view}
use Rattle.toml_span_tree.proofs.Sizes.{members_size}
use Rattle.toml_span_tree.proofs.Values.{Entry}
use Rattle.toml_span_check.specs.Order.{in_order, members_in_order, put_entry}
use Rattle.toml_span_check.specs.code.Entries.{entries_in_order, put_by, sorted_by}

-- the entries, in the order of the list, with the values inside them in order
abbrev pub laid : Bool → List Entry → Members
laid is_sorted es = members_of (map (λ e. (e.0, in_order is_sorted (view e.1))) es)

put-first : (name : List ℕ) (at : Span) (n : Node) (ms : Members) → put_entry true name at n ms ≡ member name at n ms
put-first name at n no_members = refl
put-first name at n (member other there m ms) = refl

laid-names : (es : List Entry) → laid true es ≡ members_in_order true (members_view es)
laid-names [] = refl
laid-names (e ∷ es) =
    ap (member (cow_str_bytes e.0.name) e.0.span (in_order true (view e.1))) (laid-names es)
    ∙ sym (put-first (cow_str_bytes e.0.name) e.0.span (in_order true (view e.1)) (members_in_order true (members_view es)))

put-laid : (e : Entry) (es : List Entry) → laid false (put_by (λ x. x.0.span.start) e es)
    ≡ put_entry false (cow_str_bytes e.0.name) e.0.span (in_order false (view e.1)) (laid false es)
put-laid e [] = refl
put-laid e (x ∷ xs) = grind (arith, nat_tests, common_steps, put-laid e xs)

laid-starts : (es : List Entry) → laid false (sorted_by (λ x. x.0.span.start) es) ≡ members_in_order false (members_view es)
laid-starts [] = refl
laid-starts (e ∷ es) =
    put-laid e (sorted_by (λ x. x.0.span.start) es)
    ∙ ap (put_entry false (cow_str_bytes e.0.name) e.0.span (in_order false (view e.1))) (laid-starts es)

pub laid-in-order : (is_sorted : Bool) (es : List Entry) → laid is_sorted (entries_in_order is_sorted es) ≡ members_in_order is_sorted (members_view es)
laid-in-order true es = laid-names es
laid-in-order false es = laid-starts es

-- ---- sizes

put-size : (e : Entry) (es : List Entry) → members_size (members_view (put_by (λ x. x.0.span.start) e es)) ≡ members_size (members_view (e ∷ es))
put-size e [] = refl
put-size e (x ∷ xs) = grind (arith, nat_tests, common_steps, put-size e xs)

sorted-size : (es : List Entry) → members_size (members_view (sorted_by (λ x. x.0.span.start) es)) ≡ members_size (members_view es)
sorted-size [] = refl
sorted-size (e ∷ es) = grind (arith, nat_tests, common_steps, put-size e (sorted_by (λ x. x.0.span.start) es), sorted-size es)

pub size-in-order : (is_sorted : Bool) (es : List Entry) → members_size (members_view (entries_in_order is_sorted es)) ≡ members_size (members_view es)
size-in-order true es = refl
size-in-order false es = sorted-size es
