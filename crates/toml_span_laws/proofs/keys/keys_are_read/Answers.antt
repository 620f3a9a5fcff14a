use Rattle.toml_span_read.proofs.KeyLemmas.{simple_sound, key_sound}
use Rattle.toml_span_laws.proofs.Complete.{simple_complete, key_complete}
use Rattle.toml_span_laws.proofs.keys.keys_are_read.Goals as goal

pub returns-clause-single : goal.returns-clause-single
returns-clause-single c = λ text i j p. (simple_sound p text i j, simple_complete p text i j)

pub returns-clause-dotted : goal.returns-clause-dotted
returns-clause-dotted c = λ header text limit i j ps. (key_sound header text limit i j ps, λ h. key_complete ps header text limit i j h.0 h.1)
