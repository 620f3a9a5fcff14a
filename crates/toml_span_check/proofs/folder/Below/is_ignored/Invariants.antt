use Rattle.std.proofs.Common.{◌≡◌, ◌-◌, length, map}
use Rattle.toml_span_check.specs.Folders.{decided_at, ignore, is_ignored}
use Rattle.toml_span_check.proofs.folder.Below.is_ignored.Given as goal

abbrev pub invariant-loop : goal.invariant-loop
invariant-loop l =
    decided_at (length l.self.ignores.items - l.counter) (map ignore l.self.ignores.items) l.path l.is_directory l.next
    ≡ is_ignored (map ignore l.self.ignores.items) l.path l.is_directory l.fn.ignore
