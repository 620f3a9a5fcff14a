use Rattle.toml_span_lex.proofs.Common.{codes, map, string_bytes}
use Rattle.toml_span_tree.specs.Diagnostic.{label_content}
use Rattle.toml_span_check.specs.Sarif.{primary_location, places, related}
use Rattle.toml_span_check.proofs.Pieces.{five}
use Rattle.toml_span_check.proofs.sarif.push_places.Goals as goal

pub returns : goal.returns
unfolding places
returns c =
    let labels = map (label_content {F = Unit {0}}) c.args.labels.now in
    let name = c.args.name.now in
    let text = c.args.text.now in
    five (string_bytes c.args.out.now) (codes ",\"locations\":[") (primary_location name text labels) (codes "],\"relatedLocations\":[") (related name text labels) (codes "]") _ _ _ _ _
    c.in_ok-push_str.ensures.bytes c.in_ok-push_place.ensures c.in_ok-push_str-2.ensures.bytes c.in_ok-push_related.ensures c.in_ok-push_str-3.ensures.bytes
