-- What is said of equal texts.
use Rattle.toml_span_lex.proofs.Common.{◌≡◌, ℕ, Bool, List, Option, subst}
use Rattle.toml_span_commands.specs.Say.{Prints}

pub says-as : (old new : Option (List ℕ)) (failed : Bool) (text other : List ℕ) (said status : ℕ) → text ≡ other → Prints old new failed text said status →
    Prints old new failed other said status
says-as old new failed text other said status is h = subst (λ (t : List ℕ). Prints old new failed t said status) is h
