-- The mentions of sections, one section at a time.
use Rattle.toml_span_lex.proofs.Common.{◌≡◌, ◌∙◌, ℕ, ◌+◌, ◌<◌, Bool, List, ◌∷◌, ◌++◌, map, drop, length, get_or, ap, drop_more, arith, nat_tests, common_steps}
use Rattle.toml_span_tree.specs.Path.{Path}
use Rattle.toml_span_read.specs.Data.{ParsedSection, parsed_section}
use Rattle.toml_span_read.specs.declared.section.Section.{Section}
use Rattle.toml_span_read.specs.Paths.{elements_added, opened_by}
use Rattle.toml_span_places.specs.Mentions.{Mentioned, mentions_after, section_mentions}
use Rattle.toml_span_places.specs.code.Opened.{counts_after}
use Rattle.toml_span_places.proofs.OpenedLemmas.{counts_next}

first_of : (i : ℕ) (ss : List Section) (s : Section) → i < length ss → get_or ss i s ≡ s →
    drop i ss ≡ s ∷ drop (i + 1) ss
first_of i ss s under here = drop_more ss i s under ∙ ap (λ x. x ∷ drop (i + 1) ss) here

pub listed_section : (with_assignments : Bool) (i : ℕ) (ss : List Section) (s : Section) (counts counts' : Path → ℕ) (before now all : List Mentioned) →
    i < length ss → get_or ss i s ≡ s → now ≡ before ++ section_mentions with_assignments counts (parsed_section s) →
    counts' ≡ counts_after counts (parsed_section s) →
    ((earlier : List ParsedSection) × (counts ≡ elements_added (opened_by earlier)) × (before ++ mentions_after with_assignments earlier (map parsed_section (drop i ss)) ≡ all)) →
    (earlier : List ParsedSection) × (counts' ≡ elements_added (opened_by earlier)) × (now ++ mentions_after with_assignments earlier (map parsed_section (drop (i + 1) ss)) ≡ all)
listed_section with_assignments i ss s counts counts' before now all under here added after was =
    let earlier = was.0 in (
      parsed_section s ∷ earlier,
      counts_next counts counts' earlier (parsed_section s) after was.1,
      grind (arith, nat_tests, common_steps, first_of i ss s under here, was.1, was.2),
    )
