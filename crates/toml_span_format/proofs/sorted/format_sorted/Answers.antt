use Rattle.toml_span_lex.proofs.Common.{◌∙◌, ap, map, string_bytes}
use Rattle.toml_span_read.specs.Data.{parsed_section}
use Rattle.toml_span_format.specs.Entries.{begins_with_comment, key_names}
use Rattle.toml_span_format.specs.Keys.{keys}
use Rattle.toml_span_format.proofs.Documents.{sorted_document}
use Rattle.toml_span_format.proofs.sorted.format_sorted.Goals as goal

pub returns-then-branch : goal.returns-then-branch
returns-then-branch c =
    let d = c.in_ok-document.document in
    let names = c.in_ok-keys.ensures ∙ ap (λ l. keys (map parsed_section l)) c.as_slice.ensures.value in
    let begins = c.begins_with_comment-is_headed.ensures ∙ ap begins_with_comment c.as_slice-2.ensures.value in
    let permuted = rw c.as_slice-4.ensures.value at c.in_ok-sorted.ensures in
    let sorted = rw (c.as_slice-9.ensures.value, c.as_slice-10.ensures.value, c.as_str.ensures.value) at (c.in_ok-has_sorted.ensures c.if-branch.true) in
    sorted_document d c.args.text.now (string_bytes c.in_ok-new.new) (map key_names c.in_ok-keys.keys.items) c.begins_with_comment-is_headed.result c.in_ok-entries.entries.items c.in_ok-sorted.sorted.items
    c.in_ok-document.ensures.0 c.in_ok-document.ensures.1 names begins c.in_ok-entries.ensures permuted sorted
