use Rattle.toml_span_lex.proofs.Common.{rules, refl, inr}
use Rattle.toml_span_lex.proofs.PieceLemmas.{blanks_forward}
use Rattle.toml_span_lex.proofs.pieces.drop_line.Goals as goal

pub returns-in-Some-clause-piece : goal.returns-in-Some-clause-piece
returns-in-Some-clause-piece c =
    (refl, refl, c.requires.here, (c.blanks_end-blank.result, c.in-Some.line, c.blanks_end-blank.ensures.run, c.in-Some.ensures.line_end, c.ws_and_newlines_end.ensures.run))

pub returns-in-None-clause-piece : goal.returns-in-None-clause-piece
returns-in-None-clause-piece c =
    let run = c.blanks_end-blank.ensures.run in
    let none = c.in-None.ensures.line_end in
    inr (inr (inr (inr (refl, refl, c.requires.here, blanks_forward _ _ _ c.requires.within c.requires.gap run none, run, none, search rules))))

pub returns-in-None-2-clause-piece : goal.returns-in-None-2-clause-piece
returns-in-None-2-clause-piece c =
    let run = c.blanks_end-blank.ensures.run in
    let none = c.in-None-2.ensures.line_end in
    inr (inr (inr (inr (refl, refl, c.requires.here, blanks_forward _ _ _ c.requires.within c.requires.gap run none, run, none, search rules))))
