use Rattle.std.proofs.Common.{◌≡◌, ◌+◌, ◌-◌, ◌≤◌, ◌<◌, drop, nat_lt, slice_index, if◌then◌else◌}
use Rattle.toml_span_lookup.specs.Addresses.{folder_length}
use Rattle.toml_span_lookup.proofs.addresses.folder_length.Given as goal

abbrev pub invariant-loop-at : goal.invariant-loop-at
invariant-loop-at l =
    ((if nat_lt 0 (folder_length (drop l.at l.path)) then l.at + folder_length (drop l.at l.path) else l.end)
    ≡ folder_length l.path) × (l.end ≤ l.at) × (0 < l.end → slice_index l.path (l.end - 1) ≡ 47)
