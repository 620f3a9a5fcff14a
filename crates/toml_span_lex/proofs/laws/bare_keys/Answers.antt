use Rattle.toml_span_lex.proofs.laws.bare_keys.Goals as goal

pub returns : goal.returns
returns c = λ text i j span name h. rw h.1 h.0.2
