use Rattle.toml_span_lex.proofs.Common.{[], ◌∷◌, map, map-append, cow_str_bytes, Global, arith, IsCharBoundary-start}
use Rattle.toml_span_read.proofs.KeyLemmas.{handed_on}
use Rattle.toml_span_places.proofs.DottedLemmas.{after_more, dotted_end, step_stops}
use Rattle.toml_span_places.proofs.dotted.dotted.Goals as goal

pub key_at-requires : goal.key_at-requires
key_at-requires c = IsCharBoundary-start c.args.path.now c.utf8.path

pub returns-in_err-part : goal.returns-in_err-part
returns-in_err-part c =
    rw (handed_on c.from_residual-in_err-part.result c.in_err-part.field-0.0 c.from_residual-in_err-part.ensures.1)
    (step_stops Global c.in_err-part.field-0.0 c.args.path.now (map cow_str_bytes c.steps.parts.items) c.steps.at (grind arith) c.in_err-part.ensures c.steps.invariant.after)

pub steps-preserved : goal.steps-preserved
steps-preserved c =
    let step = c.in_ok-part.ensures in
    record {
      boundary = step.1.boundary;
      after = rw (c.in_ok-push.ensures.items, map-append cow_str_bytes c.steps.parts.items (c.in_ok-part.part ∷ []))
          (after_more c.args.path.now (map cow_str_bytes c.steps.parts.items) c.steps.at c.in_ok-part.end (cow_str_bytes c.in_ok-part.part) (grind arith) step.0 c.steps.invariant.after);
    }

pub returns : goal.returns
returns c = dotted_end c.args.path.now (map cow_str_bytes c.steps.parts.items) c.steps.at (grind arith) c.steps.invariant.after
