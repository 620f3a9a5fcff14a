use Rattle.toml_span_lex.proofs.Common.{ℕ, List, string_bytes, subst, rules}
use Rattle.toml_span_check.specs.Fixing.{fixed}
use Rattle.toml_span_check.specs.Newer.{Replaces}
use Rattle.toml_span_check.proofs.newer.with_all_fixes.Goals as goal

pub returns : goal.returns
returns c = (
  fixed c.in_ok-made.made,
  c.in_ok-older.older.count,
  c.in_ok-made.ensures,
  subst (λ (text : List ℕ). Replaces c.args.version c.args.name.now text c.in_ok-older.older.count (string_bytes c.in_ok-older.older.text))
      c.as_str.ensures.value c.in_ok-older.ensures,
  search rules,
)
