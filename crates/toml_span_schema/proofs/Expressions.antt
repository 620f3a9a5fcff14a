-- Regular expressions of ECMA-262: a step of their translation, and what the crate `regex` says of them.
use Rattle.std.proofs.Common.{◌≡◌, ◌≢◌, ℕ, Bool, true, false, not, ◌&&◌, ◌==◌, if◌then◌else◌, List, [], ◌∷◌, ◌++◌, ap, ap₂, sym, ◌∙◌, refl, append_assoc, append-nil, subst, chars, Option, Some, None, is_some, inl, inr}
use Rattle.std.specs.Prelude.{IsSomeAnd}
use Rattle.regex.specs.Patterns.{default_config, Reads, Refuses}
use Rattle.regex.specs.Strings.{regex_source, regex_config, IsReadFromSource}
use Rattle.regex.specs.declared.string.regex.Regex.{Regex}
use Rattle.regex.specs.Failures.{IsRightKind}
use Rattle.regex.specs.Sources.{IsRefusal}
use Rattle.regex.specs.declared.error.Error.{Error}
use Rattle.regex.specs.declared.error.Error.TheVariants.{Syntax}
use Rattle.regex_syntax.specs.Grammar.{read}
use Rattle.regex_syntax.specs.declared.error.Error.{Error as SyntaxError}
use Rattle.regex_syntax.specs.declared.error.ErrorKind.{ErrorKind}
use Rattle.regex_syntax.specs.declared.error.ErrorKind.TheVariants.{OutOfMemory, NestLimitExceeded}
use Rattle.toml_span_schema.specs.Patterns.{character, in_class_after, next_state, translated_from}

pub pattern_step : (state : ℕ) (in_class : Bool) (out new : List ℕ) (c : ℕ) (seen : List ℕ) (after : ℕ) (inside : Bool)
    → ((rest : List ℕ) → out ++ translated_from state in_class rest ≡ translated_from 0 false (seen ++ rest))
    → new ≡ out ++ character state in_class c
    → after ≡ next_state state c
    → inside ≡ in_class_after state in_class c
    → (rest : List ℕ) → new ++ translated_from after inside rest ≡ translated_from 0 false ((seen ++ c ∷ []) ++ rest)
pattern_step state in_class out new c seen after inside before e1 e2 e3 rest =
    ap (λ x. x ++ translated_from after inside rest) e1
    ∙ ap (λ a. (out ++ character state in_class c) ++ translated_from a inside rest) e2
    ∙ ap (λ b. (out ++ character state in_class c) ++ translated_from (next_state state c) b rest) e3
    ∙ append_assoc out (character state in_class c) (translated_from (next_state state c) (in_class_after state in_class c) rest)
    ∙ before (c ∷ rest)
    ∙ ap (translated_from 0 false) (sym (append_assoc seen (c ∷ []) rest))

pub pattern_end : (state : ℕ) (in_class : Bool) (out new seen all : List ℕ)
    → ((rest : List ℕ) → out ++ translated_from state in_class rest ≡ translated_from 0 false (seen ++ rest))
    → new ≡ out ++ (if state == 0 then [] else 92 ∷ [])
    → seen ≡ all
    → new ≡ translated_from 0 false all
pattern_end state in_class out new seen all before e same =
    e ∙ before [] ∙ ap (translated_from 0 false) (append-nil seen ∙ same)

some_and : {T : Type 0} (P : T → Type 0) (o : Option T) → IsSomeAnd o P → is_some o ≡ true
some_and P None h = absurd h
some_and P (Some x) h = refl

-- a text that `regex` reads is a regular expression
pub read_known : (r : Regex) (text : List ℕ) → regex_source r ≡ text → regex_config r ≡ default_config → IsReadFromSource r
    → is_some (read default_config (chars text)) ≡ true
unfolding Reads
read_known r text e f h =
    ap₂ (λ c t. is_some (read c (chars t))) (sym f) (sym e) ∙ some_and _ (read (regex_config r) (chars (regex_source r))) h

-- and one that it refuses for another reason than memory or depth is none
pub read_refused : (text : List ℕ) (kind : ErrorKind) → Refuses default_config text kind → kind ≢ OutOfMemory → kind ≢ NestLimitExceeded
    → is_some (read default_config (chars text)) ≡ false
unfolding Refuses
read_refused text kind (inl x) a b = absurd (a x)
read_refused text kind (inr (inl n)) a b = ap is_some n
read_refused text kind (inr (inr k)) a b = absurd (b k.0)

pub refused_known : (text : List ℕ) (error : Error) (e : SyntaxError) → error ≡ Syntax e → IsRefusal default_config text error
    → IsRightKind default_config text error → e.kind ≢ NestLimitExceeded
    → false ≡ is_some (read default_config (chars text))
refused_known text error e same refusal kind deep =
    sym (read_refused text e.kind (refusal e same) (subst (IsRightKind default_config text) same kind) deep)
