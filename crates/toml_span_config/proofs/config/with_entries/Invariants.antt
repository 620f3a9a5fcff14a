use Rattle.std.proofs.Common.{◌≡◌, drop, map}
use Rattle.toml_span_config.specs.Config.{entry, with_entries}
use Rattle.toml_span_config.proofs.config.with_entries.Given as goal

abbrev pub invariant-loop-entry : goal.invariant-loop-entry
invariant-loop-entry l =
    with_entries l.path l.layer (map entry (drop l.entry-index l.entries))
    ≡ with_entries l.path l.fn.lower (map entry l.entries)
