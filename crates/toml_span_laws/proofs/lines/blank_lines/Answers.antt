use Rattle.toml_span_laws.proofs.BlankLaws.{gap_lines, lines_are_gap}
use Rattle.toml_span_laws.proofs.lines.blank_lines.Goals as goal

pub returns-clause-before : goal.returns-clause-before
returns-clause-before c = λ text i j g d. gap_lines text i j g d

pub returns-clause-after : goal.returns-clause-after
returns-clause-after c = λ text i j k ends l r n. lines_are_gap text i j k ends l r n
