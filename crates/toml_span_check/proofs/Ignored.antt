-- What ignore files say of a path.
use Rattle.std.proofs.Common.{◌≡◌, ◌∙◌, ◌<◌, ◌+◌, ◌-◌, ℕ, suc, List, Bool, ap, arith, get_or, length, map, Option, None, Some, option_map, refl, slice_get, sym}
use Rattle.std.proofs.lemmas.Option.{slice_get-map, slice_get_read}
use Rattle.std.specs.Option.{unwrap_or}
use Rattle.toml_span_check.specs.Folders.{decided, decided_at, ignore, inside}
use Rattle.toml_span_check.specs.Patterns.{parts, pattern, selected}
use Rattle.toml_span_check.specs.declared.folder.Ignore.{Ignore}
use Rattle.toml_span_check.specs.declared.patterns.Pattern.{Pattern}

-- one more ignore file, which answers `found`
pub at-next : (n i : ℕ) (all xs : List Ignore) (path bytes text : List ℕ) (is_directory : Bool) (next : Option ℕ) (at : ℕ) (one : Ignore)
    (patterns : List Pattern) (found : Option Bool) → i < n → next ≡ Some at → xs ≡ all → at < length xs → one ≡ get_or xs at one
    → patterns ≡ one.patterns.items → text ≡ bytes → bytes ≡ inside (ignore one) path
    → found ≡ selected (map pattern patterns) (parts text) is_directory None
    → unwrap_or found (decided_at (n - (i + 1)) (map ignore all) path is_directory one.above)
    ≡ decided_at (n - i) (map ignore all) path is_directory next
at-next n i all xs path bytes text is_directory next at one patterns found before next-is all-is within one-is patterns-is text-is bytes-is found-is =
    let count = n - (i + 1) in
    let rest = decided_at count (map ignore all) path is_directory in
    let e : n - i ≡ suc count = omega arith in
    let here : slice_get (map ignore all) at ≡ Some (ignore one) =
    slice_get-map ignore all at
    ∙ ap (λ l. option_map ignore (slice_get l at)) (sym all-is)
    ∙ ap (option_map ignore) (slice_get_read xs (length xs) at one refl within one-is) in
    let answer : found ≡ selected (map pattern one.patterns.items) (parts (inside (ignore one) path)) is_directory None =
    found-is
    ∙ ap (λ ps. selected (map pattern ps) (parts text) is_directory None) patterns-is
    ∙ ap (λ t. selected (map pattern one.patterns.items) (parts t) is_directory None) (text-is ∙ bytes-is) in
    sym (
    ap (λ o. decided_at (n - i) (map ignore all) path is_directory o) next-is
    ∙ ap (λ k. decided_at k (map ignore all) path is_directory (Some at)) e
    ∙ ap (λ o. decided o path is_directory rest) here
    ∙ ap (λ o. unwrap_or o (rest one.above)) (sym answer)
    )
