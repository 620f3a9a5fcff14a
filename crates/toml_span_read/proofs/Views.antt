-- Values and assignments as plain data, one level at a time.
use Rattle.toml_span_lex.proofs.Common.{◌≡◌, map, Vec, Global, rules}
use Rattle.toml_span_read.specs.declared.value.Val.{Val}
use Rattle.toml_span_read.specs.declared.value.ValKind.{Array, Inline, the_lemmas}
use Rattle.toml_span_read.specs.declared.value.Assignment.{Assignment}
use Rattle.toml_span_read.specs.Data.{parts, parsed, array, inline, no_items, no_pairs, onto, pairs_onto, parsed_value, parsed_kind, parsed_assignment}

pub assignment_is : (a : Assignment) → parsed_assignment a ≡ record { parts = parts a.parts; value = parsed_value a.value; extent = a.extent }
assignment_is a = search (rules, the_lemmas)

pub view_is : (v : Val) → parsed_value v ≡ parsed (parsed_kind v.kind) v.span
view_is v = search (rules, the_lemmas)

pub kind_view-Array : (vs : Vec Val Global) → parsed_kind (Array vs) ≡ array (onto (map parsed_value vs.items) no_items)
kind_view-Array vs = search (rules, the_lemmas)

pub kind_view-Inline : (ps : Vec Assignment Global) → parsed_kind (Inline ps) ≡ inline (pairs_onto (map parsed_assignment ps.items) no_pairs)
kind_view-Inline ps = search (rules, the_lemmas)
