-- The names of the standard library and of the logic that proofs of all crates cite, passed on from one place.
pub use Rattle.std.proofs.Common.{BTreeMap, Bool, Bor, Equal, Err, FitsSigned, Global, Greater, IfErr, IfOk, IfSome, IsErrAnd, IsOk, IsSome, IsTrue, IsUtf8, Less, List, MatchOption, MutBor, None, Ok, OkIff, OnErr, OnOk, Option, Ordering, Result, Some, String, Vec, [], add-one, add-zero, add_assoc, ap, append-nil, append_assoc, ap₂, arith, bit_and, chars, codes, cond, decimal, drop, drop-cons, drop-drop, encode_utf8, eq-eqb, eqb-true, false, filter, flat_map, get_or, get_or-drop, get_or-take, if◌then◌else◌, inl, inr, is_eq, is_lt, is_some, length, length-append, length-drop, length-take, lt-ltb, ltb-true, map, map-id, max, min, nat_cmp, nat_eq, nat_le, nat_lt, ne_eqb, negsuc, not, option_and_then, option_map, pos, refl, replicate, reverse, rules, set, slice_get, slice_index, slice_index_or, slice_range, slice_set, string_bytes, string_cmp, subst, suc, sym, take, take-add, take-append-drop, take_all, true, true≢false, unsigned_abs, unwrap_or, vec_len, zero, zero-add, ℕ, ℤ, ⊎_elim, ◌%◌, ◌&&◌, ◌*◌, ◌++◌, ◌+◌, ◌-◌, ◌/◌, ◌<◌, ◌==◌, ◌^◌, ◌||◌, ◌↔◌, ◌∙◌, ◌∷◌, ◌≡◌, ◌≢◌, ◌≤◌, ◌⊎◌}
pub use Rattle.std.proofs.KnownBytes.{Appends-nil, Appends-trans, Keeps-refl}
pub use Rattle.std.proofs.Math.Bool.{and-false, or-true}
pub use Rattle.std.proofs.Math.Seq.{drop-append-add, get_or-append_seam, take-append_seam}
pub use Rattle.std.proofs.Output.{has_written_append, has_written_of_eq}
pub use Rattle.std.proofs.lemmas.Bool.{and_cases, and_from, and_parts, and_right, cases_Bool, cases_eq, cases_lt, cases_order, cond_both, eqb-false, false_from_ne_true, false≢true, le-leb, le-ltb, leb-true, lt-leb, ltb-false, not-false, not-true, not_from_false, or_cases, or_from, or_left, or_parts, or_right, true_from_ne_false}
pub use Rattle.std.proofs.lemmas.Bool.Decides.{Decides-and, Decides-eqb, nat_tests}
pub use Rattle.std.proofs.lemmas.Cmp.{nat_list_cmp_total, ranked}
pub use Rattle.std.proofs.lemmas.Fmt.{decimal-digits_value, decimal_digit, decimal_is_IsNumeral, decimal_nonempty, decimal_step, digits_decimal, digits_value-decimal, first_decimal}
pub use Rattle.std.proofs.lemmas.Grind.{common_steps, flat_map-append, pow_more}
pub use Rattle.std.proofs.lemmas.Iterator.{YieldsList-from_chars, items_from_drains}
pub use Rattle.std.proofs.lemmas.Iterator.Consumers.{YieldsList-end, YieldsList-from_first}
pub use Rattle.std.proofs.lemmas.List.{append_cancel_left, drop-map, drop_all, drop_at, drop_more, ext_get_or, flat_map_more, get_or-append-add, get_or-append_right, get_or-map, get_or_append_left, get_or_past, length-map, length-take-le, map-append, map_more, nil_from_length, reverse-append, take-append-le, take-map, take_at, take_more, take_rest}
pub use Rattle.std.proofs.lemmas.List.Elements.{All-from_get_or, filter-append}
pub use Rattle.std.proofs.lemmas.List.Folds.{find_at, flat_map-map, list_all_at, list_any_at}
pub use Rattle.std.proofs.lemmas.List.Sorted.{IsNonDecreasingBy-from_sort_by_key, IsPermutation-map, answers_always, length_permutation}
pub use Rattle.std.proofs.lemmas.List.Sums.{list_all-from_AllPass, position_or_len_is, prefix_len-le-length, prefix_len_passes, prefix_len_stops}
pub use Rattle.std.proofs.lemmas.Map.Text.{btree_map_updates_str, is_eq-slice_cmp}
pub use Rattle.std.proofs.lemmas.Option.{none-some, option_and_then_some, same_Some, slice_get-get_or, slice_get_past}
pub use Rattle.std.proofs.lemmas.Result.{IfOk-weaker, err_from_is_err_and, on_ok_weaker}
pub use Rattle.std.proofs.lemmas.Slice.Eq.{bytes_eq-Decides}
pub use Rattle.std.proofs.lemmas.Str.{IsCharBoundary-after_ascii, IsCharBoundary-before_ascii, IsCharBoundary-end, IsCharBoundary-from_rest, IsCharBoundary-from_take, IsCharBoundary-past_char, IsCharBoundary-start, IsUtf8-drop, IsUtf8-from_is_utf8, IsUtf8-past_char, byte_from_char, char_from_byte, chars_from_encodes, chars_past_char, digit_value-digit_char, digit_value_digit, drop_past_char, encode_ascii, encode_same, encodes-chars, inside_one, is_utf8-from_IsUtf8, len_utf8_ascii, len_utf8_bounds, length-encode}
pub use Rattle.std.proofs.lemmas.Str.Parse.{IsNumeralModel, WeighsDigits, digit_at, numerals_by_value, numerals_by_weight, parse_plain, tells_all_ascii_digits, tells_digits}
pub use Rattle.std.proofs.lemmas.Str.Pattern.{split_parts, strip_prefix_char}
pub use Rattle.std.specs.BTreeMap.{get_by, insert_entry, is_at, keys}
pub use Rattle.std.specs.BTreeMap.Entry.{map_with_value}
pub use Rattle.std.specs.Box.{box_value}
pub use Rattle.std.specs.Char.{IsScalar, digit_char, digit_value, is_ascii_digit, is_ascii_hexdigit, len_utf8}
pub use Rattle.std.specs.Cmp.Lexicographic.{other_text, pointwise, same_text, slice_cmp, texts_ties}
pub use Rattle.std.specs.Cow.{IsBorrowedStr, IsOwnedStr, cow_str_bytes}
pub use Rattle.std.specs.Fmt.{HasWritten, IsPlainFormatter, signed_decimal}
pub use Rattle.std.specs.Global.{Box}
pub use Rattle.std.specs.Io.KnownBytes.{Appends, Consumes, IsAtEnd, Keeps}
pub use Rattle.std.specs.List.{AllByRecursion, AllZip, insert, join_by, list_all, list_any, position_or_len, prefix_len, range_with_len}
pub use Rattle.std.specs.List.Sorted.{IsNonDecreasingBy, IsPermutation, IsStableByKey, IsStrictlyIncreasing, IsStrictlySortedBy, ties}
pub use Rattle.std.specs.Map.{keys_of, lookup, lookup_entry, lookup_key, remove_entry, set_value}
pub use Rattle.std.specs.Option.{ok_or, option_copied, option_copied_mut, option_map_or, option_to_list}
pub use Rattle.std.specs.Ordering.{MatchOrdering, match_ordering, ordering_then}
pub use Rattle.std.specs.Prelude.{IfNone, count_by, find, fold, ⊤}
pub use Rattle.std.specs.Str.{IsCharBoundary, all_ascii_digits, bytes_eq, is_utf8}
pub use Rattle.std.specs.Str.Parse.{AllDigits, digits_value}
pub use Rattle.std.specs.Vec.{with_item}
pub use Rattle.std.specs.Vec.Iter.{into_iter_items}
pub use Rattle.std.specs.declared.alloc.AllocError.{AllocError}
pub use Rattle.std.specs.declared.borrow.CowStr.{CowStr}
pub use Rattle.std.specs.declared.collections.btree_map.Entry.{Entry}
pub use mir.Syntax.{w64}
pub use mir.Val.{SFits, hbits, of_z, to_z}
