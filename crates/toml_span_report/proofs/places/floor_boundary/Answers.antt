use Rattle.toml_span_report.proofs.PlaceLemmas.{floor_boundary_is}
use Rattle.toml_span_report.proofs.places.floor_boundary.Goals as goal

pub returns-clause-value : goal.returns-clause-value
returns-clause-value c =
    floor_boundary_is c.args.text.now c.args.at _ c.floor_char_boundary.ensures.bound c.floor_char_boundary.ensures.boundary c.floor_char_boundary.ensures.nearest
