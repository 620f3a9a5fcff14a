-- Keys that go through earlier values, and keys that do not.
use Rattle.toml_span_lex.proofs.Common.{◌≡◌, ◌≢◌, List, [], ◌∷◌, ◌++◌, Option, Some, None, AllByRecursion, refl, sym, ap, ◌∙◌, arith, nat_tests, common_steps}
use Rattle.toml_span_lex.specs.declared.span.Span.{Span}
use Rattle.toml_span_read.specs.declared.fault.FaultKind.TheVariants as kinds
use Rattle.toml_span_read.specs.Data.{ParsedAssignment, parsed_span, from_to, SimpleKey}
use Rattle.toml_span_read.specs.Earlier.{part_names, last_span, value_at, crossed, crossing}
use Rattle.toml_span_read.proofs.EarlierLemmas.{Path, same_path, crossed_clear, clear_to, fault_from}

no_value : (names : Path) (es : List ParsedAssignment) → value_at es names ≡ None → AllByRecursion (λ e. part_names e.parts ≢ names) es
unfolding value_at
no_value names [] none = tt
no_value names (e ∷ es) none = grind (arith, nat_tests, common_steps, same_path (part_names e.parts) names, no_value names es)

pub clear_keys : (earlier : List ParsedAssignment) (next : ParsedAssignment) (outer rest : List SimpleKey) (part more : SimpleKey) → crossing earlier next ≡ None → next.parts ≡ outer ++ (part ∷ more ∷ rest)
    → AllByRecursion (λ e. part_names e.parts ≢ part_names (outer ++ (part ∷ []))) earlier
clear_keys earlier next outer rest part more clear key =
    no_value (part_names (outer ++ (part ∷ []))) earlier (crossed_clear (value_at earlier) outer part more rest (ap (crossed (value_at earlier)) (sym key) ∙ clear_to earlier next clear))

first_value : (names : Path) (before after : List ParsedAssignment) (found : ParsedAssignment) → AllByRecursion (λ e. part_names e.parts ≢ names) before → part_names found.parts ≡ names
    → value_at (before ++ (found ∷ after)) names ≡ Some (last_span found.parts)
unfolding value_at
first_value names [] after found none is = grind (arith, nat_tests, common_steps, same_path (part_names found.parts) names)
first_value names (e ∷ es) after found none is = grind (arith, nat_tests, common_steps, same_path (part_names e.parts) names, first_value names es after found)

crossed_at : (f : Path → Option Span) (outer : List SimpleKey) (p q : SimpleKey) (rest : List SimpleKey) (first : Span) → crossed f (outer ++ (p ∷ [])) ≡ None → f (part_names (outer ++ (p ∷ []))) ≡ Some first
    → crossed f (outer ++ (p ∷ q ∷ rest)) ≡ Some (p.span.start, first)
unfolding crossed
crossed_at f [] p q rest first none met = rw met
crossed_at f (x ∷ []) p q rest first none met = grind (arith, nat_tests, common_steps, crossed_at (λ names. f (x.name ∷ names)) [] p q rest first)
crossed_at f (x ∷ y ∷ outer) p q rest first none met = grind (arith, nat_tests, common_steps, crossed_at (λ names. f (x.name ∷ names)) (y ∷ outer) p q rest first)

pub first_met : (before after : List ParsedAssignment) (found next : ParsedAssignment) (outer rest : List SimpleKey) (part more : SimpleKey) → next.parts ≡ outer ++ (part ∷ more ∷ rest)
    → crossing (before ++ (found ∷ after)) (record { parts = outer ++ (part ∷ []); value = next.value; extent = next.extent }) ≡ None
    → AllByRecursion (λ e. part_names e.parts ≢ part_names (outer ++ (part ∷ []))) before → part_names found.parts ≡ part_names (outer ++ (part ∷ []))
    → crossing (before ++ (found ∷ after)) next ≡ Some (record { kind = kinds.DottedKeyInvalidType (last_span found.parts); span = from_to part.span.start (parsed_span next.value).end })
first_met before after found next outer rest part more key none apart same =
    let value = value_at (before ++ (found ∷ after)) in
    fault_from (before ++ (found ∷ after)) next part.span.start (last_span found.parts) _
    (ap (crossed value) key ∙ crossed_at value outer part more rest _ (clear_to (before ++ (found ∷ after)) _ none) (first_value _ before after found apart same)) refl
