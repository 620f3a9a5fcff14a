-- The entries of a configuration.
use Rattle.std.proofs.Common.{◌≡◌, ◌∙◌, ◌+◌, ℕ, List, [], ◌∷◌, ◌++◌, ap, arith, length, map, refl, suc, sym}
use Rattle.std.proofs.lemmas.List.{length-map, map-append}
use Rattle.toml_span_config.specs.Config.{entry}
use Rattle.toml_span_config.specs.Tables.{entries_from, entry_content}
use Rattle.toml_span_config.specs.declared.config.Entry.{Entry}
use Rattle.toml_span_config.specs.declared.document.FilesTable.{FilesTable}

entries_from-push : (at : ℕ) (ts : List FilesTable) (t : FilesTable) → entries_from at (ts ++ t ∷ []) ≡ entries_from at ts ++ entry_content t (at + length ts) ∷ []
entries_from-push at [] t = ap (λ n. entry_content t n ∷ []) (omega arith)
entries_from-push at (x ∷ xs) t =
    let next : at + 1 + length xs ≡ at + length (x ∷ xs) = omega arith in
    ap (λ l. entry_content x at ∷ l) (entries_from-push (at + 1) xs t ∙ ap (λ n. entries_from (at + 1) xs ++ entry_content t n ∷ []) next)

length-entries : (at : ℕ) (ts : List FilesTable) → length (entries_from at ts) ≡ length ts
length-entries at [] = refl
length-entries at (x ∷ xs) = ap suc (length-entries (at + 1) xs)

-- one more entry, at the position that is the number of those before it
pub one-more : (entries next : List Entry) (done : List FilesTable) (t : FilesTable) (e : Entry) (at : ℕ)
    → map entry entries ≡ entries_from 0 done → at ≡ length entries → entry e ≡ entry_content t at → next ≡ entries ++ e ∷ []
    → map entry next ≡ entries_from 0 (done ++ t ∷ [])
one-more entries next done t e at before at-is e-is next-is =
    let count : length entries ≡ length done = sym (length-map entries entry) ∙ ap length before ∙ length-entries 0 done in
    let here : at ≡ 0 + length done = omega arith in
    ap (map entry) next-is
    ∙ map-append entry entries (e ∷ [])
    ∙ ap (λ l. l ++ entry e ∷ []) before
    ∙ ap (λ x. entries_from 0 done ++ x ∷ []) (e-is ∙ ap (entry_content t) here)
    ∙ sym (entries_from-push 0 done t)
