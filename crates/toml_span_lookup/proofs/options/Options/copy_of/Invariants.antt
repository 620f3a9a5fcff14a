use Rattle.std.proofs.Common.{◌≡◌, drop}
use Rattle.toml_span_lookup.specs.Addresses.{copy_among}
use Rattle.toml_span_lookup.proofs.options.Options.copy_of.Given as goal

abbrev pub invariant-loop-copy : goal.invariant-loop-copy
invariant-loop-copy l =
    copy_among (drop l.copy-index l.self.copies.items) l.plain ≡ copy_among l.self.copies.items l.plain
