use Rattle.toml_span_lex.proofs.Common.{◌≤◌, ◌+◌, ◌++◌, sym, ◌∙◌, refl, rules, nat_tests, common_steps, length, option_map, arith, length-append, w64}
use Rattle.std.proofs.lemmas.Int.{to_z-of_z}
use Rattle.toml_span_tree.specs.Value.{view, inner_of, span_of}
use Rattle.toml_span_c.specs.declared.records.TheConstants.{NONE}
use Rattle.toml_span_c.specs.Records.{aside, text_of}
use Rattle.toml_span_c.proofs.Puts.{bytes-append}
use Rattle.toml_span_c.proofs.fill.begin_record.Goals as goal

pub returns-clause-begins : goal.returns-clause-begins
returns-clause-begins c m e fits =
    let document = c.args.document.now in
    let value = c.args.value.now in
    let name = aside document c.args.site.key_span (option_map (λ s. s.now) c.args.site.name) in
    let said = aside document (span_of (view value)) (text_of (inner_of (view value))) in
    let long = length-append name said in
    let all : m + length (name ++ said) ≤ NONE = fits in
    let key = c.put_text-key.ensures.place m e in
    let after = (c.put_text-key.ensures.put m e (omega (arith, all, long))).count in
    let text = c.put_text-text.ensures.place _ after in
    let integer = to_z-of_z w64 c.integer_of.result (search rules) ∙ c.integer_of.ensures in
    rw (c.as_ref-inner.ensures, c.kind_of.ensures, c.boolean_of.ensures, c.children_of.ensures, c.number_of.ensures, key, text, c.text_of.ensures, integer) refl

pub returns-clause-put : goal.returns-clause-put
returns-clause-put c m e =
    rw (c.as_ref-inner.ensures, sym c.text_of.ensures) (λ fits.
    let key = c.put_text-key.ensures.put m e (grind (arith, nat_tests, common_steps)) in
    bytes-append m _ _ _ _ _ _ _ key (c.put_text-text.ensures.put _ key.count (grind (arith, nat_tests, common_steps))))
