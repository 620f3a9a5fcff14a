use Rattle.toml_span_lex.proofs.Common.{◌∙◌, ◌++◌, ap, length, map, refl, string_bytes, sym, length-map}
use Rattle.toml_span_check.specs.Run.{summary}
use Rattle.toml_span_check.proofs.Collecting.{named_as, stops-finding, stops-collecting, stops-counting, collects-all}
use Rattle.toml_span_check.proofs.run.collect_all.Goals as goal

pub returns-in_err-found : goal.returns-in_err-found
returns-in_err-found g c = stops-finding g.S.Schemas.says c.args.request.now.format c.args.request.now.task c.args.request.now.pointer.now _ _ _ _ _ _ _ _ c.from_residual.result refl c.requires c.from_residual.ensures.1

pub returns-in_err-collected : goal.returns-in_err-collected
returns-in_err-collected g c =
    let files = c.in_ok-found.found.items in
    let finds = c.in_ok-found.ensures in
    let named = named_as c.args.request.now.task c.named_task.result c.are_named.result c.as_slice-names.result.now c.args.request.now.names.items c.as_slice-files.result.now files c.named_task.ensures c.are_named.ensures c.as_slice-names.ensures.value c.as_slice-files.ensures.value in
    stops-collecting g.S.Schemas.says c.args.request.now.format c.args.request.now.task c.named_task.result c.args.request.now.pointer.now _ _ (map (λ file. string_bytes file) files) _ _ _ (g.I.Inputs.log c.find_all.new.inputs) _ _ _ _
    _ c.from_residual-in_err-collected.result named (ap (map (λ file. string_bytes file)) c.as_slice-files.ensures.value) (rw (c.as_slice-excludes.ensures.value, c.as_slice-names.ensures.value) at finds) c.in_err-collected.ensures c.from_residual-in_err-collected.ensures.1

pub returns-in_err-push_summary : goal.returns-in_err-push_summary
returns-in_err-push_summary g c =
    let files = c.in_ok-found.found.items in
    let stdout = c.in_ok-collected.ensures in
    let finds = c.in_ok-found.ensures in
    let named = named_as c.args.request.now.task c.named_task.result c.are_named.result c.as_slice-names.result.now c.args.request.now.names.items c.as_slice-files.result.now files c.named_task.ensures c.are_named.ensures c.as_slice-names.ensures.value c.as_slice-files.ensures.value in
    stops-counting g.S.Schemas.says c.args.request.now.format c.args.request.now.task c.named_task.result c.args.request.now.pointer.now _ _ (map (λ file. string_bytes file) files) _ _ (g.I.Inputs.log c.find_all.new.inputs) _ _ _ _
    c.in_ok-collected.collected c.from_residual-in_err-push_summary.result named (rw (c.as_slice-excludes.ensures.value, c.as_slice-names.ensures.value) at finds) (rw c.as_slice-files.ensures.value at stdout) c.from_residual-in_err-push_summary.ensures.1

pub returns-in_err-collected-2 : goal.returns-in_err-collected-2
returns-in_err-collected-2 g c =
    let files = c.in_ok-found.found.items in
    let stdout = c.in_ok-collected.ensures in
    let finds = c.in_ok-found.ensures in
    let named = named_as c.args.request.now.task c.named_task.result c.are_named.result c.as_slice-names.result.now c.args.request.now.names.items c.as_slice-files.result.now files c.named_task.ensures c.are_named.ensures c.as_slice-names.ensures.value c.as_slice-files.ensures.value in
    stops-counting g.S.Schemas.says c.args.request.now.format c.args.request.now.task c.named_task.result c.args.request.now.pointer.now _ _ (map (λ file. string_bytes file) files) _ _ (g.I.Inputs.log c.find_all.new.inputs) _ _ _ _
    c.in_ok-collected.collected c.from_residual-in_err-collected-2.result named (rw (c.as_slice-excludes.ensures.value, c.as_slice-names.ensures.value) at finds) (rw c.as_slice-files.ensures.value at stdout) c.from_residual-in_err-collected-2.ensures.1

pub returns : goal.returns
returns g c =
    let t = c.in_ok-collected.collected in
    let files = c.in_ok-found.found.items in
    let stdout = c.in_ok-collected.ensures in
    let finds = c.in_ok-found.ensures in
    let number = ap length c.as_slice-files.ensures.value ∙ sym (length-map files (λ file. string_bytes file)) in
    let named = named_as c.args.request.now.task c.named_task.result c.are_named.result c.as_slice-names.result.now c.args.request.now.names.items c.as_slice-files.result.now files c.named_task.ensures c.are_named.ensures c.as_slice-names.ensures.value c.as_slice-files.ensures.value in
    let counted = ap (λ n. string_bytes t.errors ++ summary c.args.request.now.format c.args.request.now.task c.args.request.now.is_watched n t.wrong) number in
    collects-all g.S.Schemas.says c.args.request.now.format c.args.request.now.task c.named_task.result c.args.request.now.pointer.now _ _ (map (λ file. string_bytes file) files) _ _ (g.I.Inputs.log c.find_all.new.inputs) _ _ _ _
    t _ _ named (rw (c.as_slice-excludes.ensures.value, c.as_slice-names.ensures.value) at finds) (rw c.as_slice-files.ensures.value at stdout) c.in_ok-collected-2.ensures
    (c.in_ok-push_summary.ensures ∙ counted)
