use Rattle.toml_span_lex.proofs.Common.{◌≡◌, ◌++◌, ℕ, List, IfOk, append_assoc, codes, map, string_bytes, subst, sym, decimal}
use Rattle.toml_span_tree.specs.Listed.{listed, quoted}
use Rattle.toml_span_tree.proofs.diagnostic.unexpected_keys.Goals as goal

pub returns : goal.returns
returns c =
    let found = codes "found " ++ decimal c.args.count in
    let expected = codes " unexpected keys, expected: " in
    let names = listed quoted (map string_bytes c.args.expected.now) in
    let Is : List ℕ → Type 0 = λ message. IfOk c.format.result (λ text. string_bytes text ≡ message) in
    subst Is (sym (append_assoc found expected names)) c.format.ensures.ok
