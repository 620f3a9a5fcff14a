use Rattle.toml_span_lex.proofs.Common.{◌∙◌, inl, inr, refl, sym, Keeps-refl, arith, nat_tests, common_steps}
use Rattle.toml_span_commands.proofs.Said.{says-as}
use Rattle.toml_span_commands.proofs.start.refuse.Goals as goal

pub returns-in-OutOfMemory : goal.returns-in-OutOfMemory
returns-in-OutOfMemory g c = inr (inr (inr (refl, Keeps-refl _, Keeps-refl _)))

pub returns-in-DisplayHelp : goal.returns-in-DisplayHelp
returns-in-DisplayHelp g c = inl (sym c.kind.ensures ∙ c.in-DisplayHelp.is, says-as _ _ _ _ _ _ _ c.help_of.ensures c.say.ensures, Keeps-refl _)

pub returns-in-DisplayVersion : goal.returns-in-DisplayVersion
returns-in-DisplayVersion g c = inr (inl (sym c.kind.ensures ∙ c.in-DisplayVersion.is, c.say-in-DisplayVersion.ensures, Keeps-refl _))

pub returns-in-Ok : goal.returns-in-Ok
returns-in-Ok g c = grind (arith, nat_tests, common_steps)

pub returns-in-Err : goal.returns-in-Err
returns-in-Err g c = inr (inr (inr (refl, Keeps-refl _, Keeps-refl _)))
