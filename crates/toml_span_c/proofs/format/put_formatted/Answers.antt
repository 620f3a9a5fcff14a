use Rattle.toml_span_lex.proofs.Common.{ℕ, List, string_bytes, subst}
use Rattle.toml_span_c.specs.Calls.{Holds}
use Rattle.toml_span_c.proofs.format.put_formatted.Goals as goal

pub returns-in-Ok-clause-made : goal.returns-in-Ok-clause-made
returns-in-Ok-clause-made c h =
    let whole = c.put_whole.new in (
      string_bytes c.in-Ok.new,
      c.in-Ok.ensures,
      subst (λ (t : List ℕ). Holds c.args.out.now whole.out whole.length t) c.as_str.ensures.value c.put_whole.ensures,
    )
