use Rattle.toml_span_read.proofs.NumberComplete.{number_complete}
use Rattle.toml_span_read.proofs.ReadSound.{number_sound}
use Rattle.toml_span_laws.proofs.numbers.numbers_are_read.Goals as goal

pub returns-clause-read : goal.returns-clause-read
returns-clause-read c = λ text i j s. number_complete s text i j

pub returns-clause-spelled : goal.returns-clause-spelled
returns-clause-spelled c = λ text i j s. number_sound s text i j
