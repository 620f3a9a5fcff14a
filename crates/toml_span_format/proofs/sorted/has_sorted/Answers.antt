use Rattle.toml_span_lex.proofs.Common.{◌∙◌, ap, map}
use Rattle.toml_span_read.specs.Data.{parsed_section}
use Rattle.toml_span_format.specs.Entries.{key_names}
use Rattle.toml_span_format.specs.Keys.{keys}
use Rattle.toml_span_format.proofs.Documents.{sorts}
use Rattle.toml_span_format.proofs.sorted.has_sorted.Goals as goal

pub returns : goal.returns
returns c = λ t.
    let old = c.args.old.now in
    let after = c.in-Some.new in
    let read = rw c.in-Some.is at c.in_ok-new.ensures in
    let permuted = rw (c.as_slice-before.ensures.value, c.as_slice-after.ensures.value) at (c.in_ok-permuted_sections.ensures c.if-not-branch.false) in
    let names = c.in_ok-new_keys.ensures ∙ ap (λ l. keys (map parsed_section l)) c.as_slice-after.ensures.value in
    let same = rw (c.as_slice.ensures.value, c.as_slice-2.ensures.value, names) at (c.in_ok-same.ensures t) in
    sorts old after c.args.new.now (map key_names c.args.keys.now) c.args.is_headed c.args.entries.now c.in_ok-found.found.items c.requires read.0 read.1 permuted c.in_ok-found.ensures same (c.is_sorted.ensures c.if-not-is_sorted.false)
