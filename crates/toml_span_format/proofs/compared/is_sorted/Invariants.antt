use Rattle.toml_span_lex.proofs.Common.{◌≡◌, ℕ, ◌+◌, ◌<◌, List, false, get_or, map}
use Rattle.toml_span_format.specs.Entries.{is_before, key_names, rank}
use Rattle.toml_span_format.proofs.compared.is_sorted.Given as goal

abbrev pub invariant-loop-at : goal.invariant-loop-at
invariant-loop-at l = (k : ℕ) (d : ℕ × List (List ℕ)) → k + 1 < l.at → is_before (get_or (map (rank (map key_names l.keys)) l.entries) (k + 1) d) (get_or (map (rank (map key_names l.keys)) l.entries) k d) ≡ false
