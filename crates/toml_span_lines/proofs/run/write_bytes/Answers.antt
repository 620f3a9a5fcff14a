use Rattle.toml_span_lex.proofs.Common.{arith, take-add, sym, ◌++◌, ◌+◌, take, drop, ◌≡◌, length-take, length-drop, take_rest}
use Rattle.toml_span_lines.proofs.Known.{appends_more, stays_good}
use Rattle.toml_span_lines.proofs.run.write_bytes.Goals as goal

pub loop-at-preserved : goal.loop-at-preserved
loop-at-preserved g c =
    let t = c.args.text.now in
    let at = c.loop-at.at in
    let n = c.in-Ok.n in
    let joined : take at t ++ take n (drop at t) ≡ take (at + n) t = sym (take-add at n t) in
    let bytes = rw take_rest at c.in-Ok.ensures.bytes in
    let bound = simp (length-take, length-drop) at c.in-Ok.ensures.bound in
    record {
      good = stays_good _ _ _ _ c.in-Ok.ensures.failed_after c.loop-at.invariant.good c.in-Ok.n-test.1;
      written = rw joined at (appends_more _ _ _ (take at t) (take n (drop at t)) c.loop-at.invariant.written bytes);
      within = omega arith;
    }
