use Rattle.std.proofs.Common.{Some, arith}
use Rattle.std.proofs.lemmas.Str.Pattern.{strip_suffix_char}
use Rattle.toml_span_check.proofs.PatternLemmas.{slashed, unslashed}
use Rattle.toml_span_check.proofs.patterns.without_slash.Goals as goal

pub returns-in-None : goal.returns-in-None
unfolding lib.Utf8.encode
returns-in-None c = unslashed c.args.text.now c.in-None.ensures.cases

pub returns-in-Some : goal.returns-in-Some
returns-in-Some c =
    slashed c.args.text.now c.in-Some.front.now (strip_suffix_char 47 c.args.text.now (Some c.in-Some.front) c.in-Some.ensures.cases (omega arith))
