use Rattle.toml_span_lex.proofs.Common.{◌≡◌, drop, map}
use Rattle.toml_span_commands.specs.Options.{are_maps}
use Rattle.toml_span_commands.proofs.options.are_maps.Given as goal

abbrev pub invariant-loop-map : goal.invariant-loop-map
invariant-loop-map l = are_maps (map (λ m. m.now) (drop l.map-index l.maps)) ≡ are_maps (map (λ m. m.now) l.maps)
