use Rattle.toml_span_lex.proofs.Common.{arith, length-map, map, refl, sym, ◌∙◌}
use Rattle.toml_span_read.specs.Data.{parsed_assignment, simple_key}
use Rattle.toml_span_read.specs.code.Earlier.{holds}
use Rattle.toml_span_read.proofs.EarlierLemmas.{clear_from, fault_from}
use Rattle.toml_span_read.proofs.EarlierKnows.{clear_short, crossed_found, knows_more, tells_all}
use Rattle.toml_span_read.proofs.earlier.Earlier.fault.Goals as goal

pub returns-then-inner-self : goal.returns-then-inner-self
returns-then-inner-self c =
    let assignments = map parsed_assignment c.args.values.now in
    let inner = map simple_key c.key_of-key.result.now.inner.items in
    let last = simple_key c.key_of-key.result.now.last in
    let key = sym c.key_of-key.ensures in
    let l = length-map c.key_of-key.result.now.inner.items simple_key in (
      clear_short assignments (parsed_assignment c.args.next.now) inner last c.args.self.now.fewest key c.requires.fewest (omega (arith, l, c.len-inner.ensures, c.if-inner-self.true)),
      knows_more c.args.self.now _ assignments (parsed_assignment c.args.next.now) inner last key c.requires refl refl (omega (arith, c.if-inner-self.true)) (omega (arith, l, c.len-inner.ensures)),
    )

pub returns-in-None : goal.returns-in-None
returns-in-None c =
    let assignments = map parsed_assignment c.args.values.now in
    let next = parsed_assignment c.args.next.now in
    let keys = c.key_of-key.result.now.inner.items in
    let last = simple_key c.key_of-key.result.now.last in
    let key = c.key_of-key.ensures in
    let l = length-map keys simple_key in
    let new = c.catch_up.new.self in
    let knows = c.in_ok-catch_up.ensures.knows in
    let tells = tells_all new c.args.values.now knows c.in_ok-catch_up.ensures.all in (
      clear_from assignments next (crossed_found assignments next (holds new.tree) keys c.deref.result.now last _ key c.deref.ensures.value tells (c.crossing.ensures last) ∙ c.in-None.is),
      knows_more new new assignments next (map simple_key keys) last (sym key) knows refl refl (omega arith) (omega (arith, l, c.len-inner.ensures, c.if-inner-self.false, c.in_ok-catch_up.ensures.fewest)),
    )

pub returns-in-Some : goal.returns-in-Some
returns-in-Some c =
    let next = parsed_assignment c.args.next.now in
    let last = simple_key c.key_of-key.result.now.last in
    let new = c.catch_up.new.self in
    let tells = tells_all new c.args.values.now c.in_ok-catch_up.ensures.knows c.in_ok-catch_up.ensures.all in
    fault_from (map parsed_assignment c.args.values.now) next c.in-Some.start c.in-Some.first c.value_end.result
    (crossed_found _ next (holds new.tree) _ c.deref.result.now last _ c.key_of-key.ensures c.deref.ensures.value tells (c.crossing.ensures last) ∙ c.in-Some.is) c.value_end.ensures
