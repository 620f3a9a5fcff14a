use Rattle.std.proofs.Common.{◌≡◌, codes, map}
use Rattle.std.specs.List.{list_any}
use Rattle.std.specs.Str.{bytes_eq}
use Rattle.toml_span_lookup.proofs.options.leads_out.Given as goal

abbrev pub invariant-loop-part : goal.invariant-loop-part
invariant-loop-part l = l.leads ≡ list_any (λ part. bytes_eq part (codes "..")) (map (λ part. part.now) l.yielded)
