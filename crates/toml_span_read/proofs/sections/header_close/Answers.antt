use Rattle.toml_span_lex.proofs.Common.{rules, ◌≡◌, true, inl, inr, ap, Ok, Err}
use Rattle.toml_span_read.proofs.FaultPlaces.{so_told}
use Rattle.toml_span_read.proofs.LineRead.{first_missing}
use Rattle.toml_span_read.proofs.NumberLemmas.{same_byte}
use Rattle.toml_span_read.proofs.sections.header_close.Goals as goal

pub returns-then-byte_at-ne93-clause-closes : goal.returns-then-byte_at-ne93-clause-closes
returns-then-byte_at-ne93-clause-closes c =
    so_told _ _ c.wanted.result c.wanted.ensures.fault
    (λ e (s, stands, is). (_, c.blanks_end-close.ensures.run, first_missing c.args.array e c.args.text.now _ (inr (search rules, (s, stands, ap (λ y. Err y) is)))))

pub returns-then-byte_at-ne93-2-clause-closes : goal.returns-then-byte_at-ne93-2-clause-closes
returns-then-byte_at-ne93-2-clause-closes c =
    let a : c.args.array ≡ true = search rules in
    so_told _ _ c.wanted-then-byte_at-ne93-2.result c.wanted-then-byte_at-ne93-2.ensures.fault (λ e (s, stands, is). rw a
    (_, c.blanks_end-close.ensures.run, inl (_, inl (same_byte _ _ (search rules), ap (λ n. Ok n) c.after_byte-after.ensures.value), inr (search rules, (s, stands, ap (λ y. Err y) is)))))
