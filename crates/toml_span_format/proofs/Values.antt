-- Arrays and inline tables that are the same without spans.
use Rattle.toml_span_lex.proofs.Common.{◌≡◌, Bool, Global, IsTrue, List, Vec, [], ◌∷◌, ap, map, refl, sym, ◌∙◌}
use Rattle.toml_span_lex.specs.declared.span.Span.{Span}
use Rattle.toml_span_read.specs.Data.{ParsedValue, parsed, scalar, array, inline, ParsedItems, no_items, item, ParsedPairs}
use Rattle.toml_span_read.specs.Data.{no_pairs, pair, ParsedAssignment, parsed_assignment, parsed_kind, onto, pairs_onto, parsed_value}
use Rattle.toml_span_read.specs.declared.value.Assignment.{Assignment}
use Rattle.toml_span_read.specs.declared.value.Val.{Val}
use Rattle.toml_span_read.specs.declared.value.ValKind.{Array, Inline}
use Rattle.toml_span_read.proofs.Views.{view_is, kind_view-Array, kind_view-Inline}
use Rattle.toml_span_format.specs.Same.{bare_value, bare_items, bare_pairs, bare_assignment, bare_key, no_span}

-- the elements of an array, and the pairs of an inline table
abbrev items_list : ParsedItems → List ParsedValue
items_list no_items = []
items_list (item v vs) = v ∷ items_list vs

abbrev pairs_list : ParsedPairs → List ParsedAssignment
pairs_list no_pairs = []
pairs_list (pair ks v x ps) = record { parts = ks; value = v; extent = x } ∷ pairs_list ps

abbrev elements : ParsedValue → List ParsedValue
elements (parsed (array vs) s) = items_list vs
elements (parsed (scalar n) s) = []
elements (parsed (inline ps) s) = []

abbrev pairs : ParsedValue → List ParsedAssignment
pairs (parsed (inline ps) s) = pairs_list ps
pairs (parsed (scalar n) s) = []
pairs (parsed (array vs) s) = []

items_list-onto : (vs : List ParsedValue) → items_list (onto vs no_items) ≡ vs
items_list-onto [] = refl
items_list-onto (v ∷ vs) = ap (λ l. v ∷ l) (items_list-onto vs)

pairs_list-onto : (es : List ParsedAssignment) → pairs_list (pairs_onto es no_pairs) ≡ es
pairs_list-onto [] = refl
pairs_list-onto (e ∷ es) = ap (λ l. e ∷ l) (pairs_list-onto es)

bare-onto : (vs : List ParsedValue) → bare_items (onto vs no_items) ≡ onto (map bare_value vs) no_items
bare-onto [] = refl
bare-onto (v ∷ vs) = ap (item (bare_value v)) (bare-onto vs)

bare-pairs_onto : (es : List ParsedAssignment) → bare_pairs (pairs_onto es no_pairs) ≡ pairs_onto (map bare_assignment es) no_pairs
bare-pairs_onto [] = refl
bare-pairs_onto (e ∷ es) = ap (pair (map bare_key e.parts) (bare_value e.value) no_span) (bare-pairs_onto es)

-- an array without spans
array_is : (vs : List ParsedValue) (s : Span) → bare_value (parsed (array (onto vs no_items)) s) ≡ parsed (array (onto (map bare_value vs) no_items)) no_span
array_is vs s = ap (λ l. parsed (array l) no_span) (bare-onto vs)

inline_is : (es : List ParsedAssignment) (s : Span) → bare_value (parsed (inline (pairs_onto es no_pairs)) s) ≡ parsed (inline (pairs_onto (map bare_assignment es) no_pairs)) no_span
inline_is es s = ap (λ l. parsed (inline l) no_span) (bare-pairs_onto es)

same_array : (vs ws : List ParsedValue) (s t : Span) → map bare_value vs ≡ map bare_value ws → bare_value (parsed (array (onto vs no_items)) s) ≡ bare_value (parsed (array (onto ws no_items)) t)
same_array vs ws s t e = array_is vs s ∙ ap (λ l. parsed (array (onto l no_items)) no_span) e ∙ sym (array_is ws t)

same_inline : (ds es : List ParsedAssignment) (s t : Span) → map bare_assignment ds ≡ map bare_assignment es → bare_value (parsed (inline (pairs_onto ds no_pairs)) s) ≡ bare_value (parsed (inline (pairs_onto es no_pairs)) t)
same_inline ds es s t e = inline_is ds s ∙ ap (λ l. parsed (inline (pairs_onto l no_pairs)) no_span) e ∙ sym (inline_is es t)

elements_same : (vs ws : List ParsedValue) (s t : Span) → bare_value (parsed (array (onto vs no_items)) s) ≡ bare_value (parsed (array (onto ws no_items)) t) → map bare_value vs ≡ map bare_value ws
elements_same vs ws s t e =
    sym (items_list-onto (map bare_value vs)) ∙ ap elements (sym (array_is vs s) ∙ e ∙ array_is ws t) ∙ items_list-onto (map bare_value ws)

pairs_same : (ds es : List ParsedAssignment) (s t : Span) → bare_value (parsed (inline (pairs_onto ds no_pairs)) s) ≡ bare_value (parsed (inline (pairs_onto es no_pairs)) t) → map bare_assignment ds ≡ map bare_assignment es
pairs_same ds es s t e =
    sym (pairs_list-onto (map bare_assignment ds)) ∙ ap pairs (sym (inline_is ds s) ∙ e ∙ inline_is es t) ∙ pairs_list-onto (map bare_assignment es)

-- ---- values that are read

array_value : (v : Val) (xs : Vec Val Global) → v.kind ≡ Array xs → parsed_value v ≡ parsed (array (onto (map parsed_value xs.items) no_items)) v.span
array_value v xs e = view_is v ∙ ap (λ k. parsed k v.span) (ap parsed_kind e ∙ kind_view-Array xs)

inline_value : (v : Val) (xs : Vec Assignment Global) → v.kind ≡ Inline xs → parsed_value v ≡ parsed (inline (pairs_onto (map parsed_assignment xs.items) no_pairs)) v.span
inline_value v xs e = view_is v ∙ ap (λ k. parsed k v.span) (ap parsed_kind e ∙ kind_view-Inline xs)

-- a test of their elements tells whether two arrays are the same
pub arrays : (v w : Val) (xs ys : Vec Val Global) (vs ws : List Val) (b : Bool) → v.kind ≡ Array xs → w.kind ≡ Array ys → vs ≡ xs.items → ws ≡ ys.items →
    ((IsTrue b → map bare_value (map parsed_value vs) ≡ map bare_value (map parsed_value ws)) × (map bare_value (map parsed_value vs) ≡ map bare_value (map parsed_value ws) → IsTrue b)) →
    (IsTrue b → bare_value (parsed_value v) ≡ bare_value (parsed_value w)) × (bare_value (parsed_value v) ≡ bare_value (parsed_value w) → IsTrue b)
arrays v w xs ys vs ws b vk wk sv sw h =
    let one : map bare_value (map parsed_value vs) ≡ map bare_value (map parsed_value xs.items) = ap (λ l. map bare_value (map parsed_value l)) sv in
    let two : map bare_value (map parsed_value ws) ≡ map bare_value (map parsed_value ys.items) = ap (λ l. map bare_value (map parsed_value l)) sw in
    let v' = ap bare_value (array_value v xs vk) in
    let w' = ap bare_value (array_value w ys wk) in (
      λ t. v' ∙ same_array (map parsed_value xs.items) (map parsed_value ys.items) v.span w.span (sym one ∙ h.0 t ∙ two) ∙ sym w',
      λ e. h.1 (one ∙ elements_same (map parsed_value xs.items) (map parsed_value ys.items) v.span w.span (sym v' ∙ e ∙ w') ∙ sym two),
    )

-- a test of their pairs tells whether two inline tables are the same
pub inlines : (v w : Val) (xs ys : Vec Assignment Global) (ds es : List Assignment) (b : Bool) → v.kind ≡ Inline xs → w.kind ≡ Inline ys → ds ≡ xs.items → es ≡ ys.items →
    ((IsTrue b → map bare_assignment (map parsed_assignment ds) ≡ map bare_assignment (map parsed_assignment es)) × (map bare_assignment (map parsed_assignment ds) ≡ map bare_assignment (map parsed_assignment es) → IsTrue b)) →
    (IsTrue b → bare_value (parsed_value v) ≡ bare_value (parsed_value w)) × (bare_value (parsed_value v) ≡ bare_value (parsed_value w) → IsTrue b)
inlines v w xs ys ds es b vk wk sv sw h =
    let one : map bare_assignment (map parsed_assignment ds) ≡ map bare_assignment (map parsed_assignment xs.items) = ap (λ l. map bare_assignment (map parsed_assignment l)) sv in
    let two : map bare_assignment (map parsed_assignment es) ≡ map bare_assignment (map parsed_assignment ys.items) = ap (λ l. map bare_assignment (map parsed_assignment l)) sw in
    let v' = ap bare_value (inline_value v xs vk) in
    let w' = ap bare_value (inline_value w ys wk) in (
      λ t. v' ∙ same_inline (map parsed_assignment xs.items) (map parsed_assignment ys.items) v.span w.span (sym one ∙ h.0 t ∙ two) ∙ sym w',
      λ e. h.1 (one ∙ pairs_same (map parsed_assignment xs.items) (map parsed_assignment ys.items) v.span w.span (sym v' ∙ e ∙ w') ∙ sym two),
    )
