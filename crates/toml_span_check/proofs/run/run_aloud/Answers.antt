use Rattle.toml_span_lex.proofs.Common.{◌∙◌, ap, not}
use Rattle.toml_span_check.proofs.Endings.{begins-all, ends-cut, ends-empty, ends-failed, ends-stdout, ends-err_failed}
use Rattle.toml_span_check.proofs.run.run_aloud.Goals as goal
use Rattle.toml_span_check.proofs.run.run_aloud.Goals.{else-write_bytes-via-then-write_bytes+else-write_bytes-2, else-write_bytes-via-else-write_bytes}

pub returns-in-Err-Memory : goal.returns-in-Err-Memory
returns-in-Err-Memory g c = ends-empty g.S.Schemas.says _ _ _ _ _ _ _ _ _ _ _ _ _ c.in-Err-Memory.field-0 c.in-Err-Memory.ensures c.in-Err-Memory.field-0-is c.requires.errors

pub returns-in-Err-Failed : goal.returns-in-Err-Failed
returns-in-Err-Failed g c = ends-failed g.S.Schemas.says _ _ _ _ _ _ _ _ _ _ _ _ _ c.in-Err-Failed.field-0 c.in-Err-Failed.ensures c.in-Err-Failed.field-0-is c.requires.errors

pub returns-then-write_bytes-2 : goal.returns-then-write_bytes-2
returns-then-write_bytes-2 g c =
    let t = c.in-Ok.ensures in
    let err_failed = c.write_bytes-then-write_bytes.ensures.reported ∙ ap not c.if-write_bytes-2.true in
    let out_failed = c.write_bytes.ensures.reported ∙ ap not c.if-write_bytes.true in
    let stderr = c.write_bytes-then-write_bytes.ensures.whole c.if-write_bytes-2.true in
    let written = c.write_bytes.ensures.whole c.if-write_bytes.true in
    ends-stdout g.S.Schemas.says c.args.request.now.format c.args.request.now.task c.args.request.now.pointer.now _ _ _ _ _ _ _ _ _ _ _ _ t.2.0 _ _ _ t.2.1 t.2.2 (rw c.as_slice.ensures.value at written) out_failed (rw c.as_bytes.ensures.value at stderr) err_failed

pub returns : goal.returns
returns g c =
    let t = c.in-Ok.ensures in
    elim c.else-write_bytes.branch [
      | else-write_bytes-via-then-write_bytes+else-write_bytes-2 w ↦
          let stderr = w.write_bytes-then-write_bytes.ensures.written in
          let failed = w.write_bytes-then-write_bytes.ensures.reported ∙ ap not w.if-write_bytes-2.false in
          let written = c.write_bytes.ensures.whole w.if-write_bytes.true in
          let fine = c.write_bytes.ensures.reported ∙ ap not w.if-write_bytes.true in
          rw w.errors-is (ends-err_failed g.S.Schemas.says c.args.request.now.format c.args.request.now.task c.args.request.now.pointer.now _ _ _ _ _ _ _ _ _ _ _ _ t.2.0 _ _ _ t.2.1 t.2.2 (rw c.as_slice.ensures.value at written) fine (rw w.as_bytes.ensures.value at stderr) failed)
      | else-write_bytes-via-else-write_bytes w ↦
          let written = c.write_bytes.ensures.written in
          let failed = c.write_bytes.ensures.reported ∙ ap not w.if-write_bytes.false in
          rw w.errors-is (ends-cut g.S.Schemas.says c.args.request.now.format c.args.request.now.task c.args.request.now.pointer.now _ _ _ _ _ _ _ _ _ _ failed
          (begins-all g.S.Schemas.says c.args.request.now.format c.args.request.now.task c.args.request.now.pointer.now _ _ _ _ _ _ _ _ t.2.0 _ _ _ t.2.1 t.2.2 (rw c.as_slice.ensures.value at written)) c.requires.errors)
    ]
