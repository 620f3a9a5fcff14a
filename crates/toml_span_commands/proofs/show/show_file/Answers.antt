use Rattle.toml_span_lex.proofs.Common.{inl, inr, Keeps-refl}
use Rattle.toml_span_commands.proofs.show.show_file.Goals as goal

pub returns-in-Ok : goal.returns-in-Ok
returns-in-Ok g c = record { shows = inl (_, _, _, c.run.ensures, Keeps-refl _) }

pub returns-in_ok-status-in-Err : goal.returns-in_ok-status-in-Err
returns-in_ok-status-in-Err g c = record { shows = inr (Keeps-refl _, (_, c.in_ok-status-in-Err.ensures)) }
