use Rattle.toml_span_lex.proofs.Common.{◌≡◌, ◌++◌, List, drop, map}
use Rattle.toml_span_read.specs.Data.{ParsedSection, parsed_section}
use Rattle.toml_span_read.specs.Paths.{elements_added, opened_by}
use Rattle.toml_span_places.specs.code.Opened.{counts_of}
use Rattle.toml_span_places.specs.Mentions.{mentioned, mentions, mentions_after}
use Rattle.toml_span_places.proofs.mentions.mentions.Given as goal

abbrev pub invariant-loop-section : goal.invariant-loop-section
invariant-loop-section l =
    (earlier : List ParsedSection) × (counts_of l.opened ≡ elements_added (opened_by earlier)) ×
    (map mentioned l.out.items
    ++ mentions_after l.with_assignments earlier (map parsed_section (drop l.section-index l.sections))
    ≡ mentions l.with_assignments (map parsed_section l.sections))
