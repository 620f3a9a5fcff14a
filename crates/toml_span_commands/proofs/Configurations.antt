-- What `check` does by its configuration.
use Rattle.toml_span_lex.proofs.Common.{◌≡◌, ℕ, Bool, List, Option, Result, Ok, Err, IfOk, inl, subst}
use Rattle.toml_span_check.specs.declared.request.Request.{Request}
use Rattle.toml_span_commands.specs.Check.{ChecksConfigured, ChecksWith}
use Rattle.toml_span_commands.specs.Configured.{IsConfigured}
use Rattle.toml_span_commands.specs.declared.configured.Configured.{Configured}
use Rattle.toml_span_commands.specs.declared.options.Fixing.{Fixing}

pub checks-configured : {Y : Type 0} (files : List Configured) (old new : Request) (fixing after : Fixing) (stdout stdout' : Option (List ℕ))
    (out_failed : Bool) (stderr stderr' : Option (List ℕ)) (err_failed : Bool) (r : Result ℕ Y)
    → IsConfigured files old new → after ≡ fixing
    → IfOk r (λ status. ChecksWith after new stdout stdout' out_failed stderr stderr' err_failed status)
    → IfOk r (λ status. ChecksConfigured fixing old stdout stdout' out_failed stderr stderr' err_failed status)
checks-configured files old new fixing after stdout stdout' out_failed stderr stderr' err_failed (Ok status) set same checks =
    inl (files, new, set, subst (λ (f : Fixing). ChecksWith f new stdout stdout' out_failed stderr stderr' err_failed status) same checks)
checks-configured files old new fixing after stdout stdout' out_failed stderr stderr' err_failed (Err x) set same checks = tt
