use Rattle.std.proofs.Common.{arith}
use Rattle.std.proofs.lemmas.Str.{IsCharBoundary-start}
use Rattle.toml_span_lookup.proofs.Texts.{boundary_after_slash}
use Rattle.toml_span_lookup.proofs.addresses.folder_of.Goals as goal

pub returns-in-None : goal.returns-in-None
returns-in-None c =
    let path = c.args.path.now in
    let e = c.folder_length.ensures in
    let ends = boundary_after_slash c.as_bytes.result.now c.folder_length.result (rw c.as_bytes.ensures.value c.utf8.path) e.within e.slash in
    absurd ((c.in-None.ensures).cases (omega arith) (IsCharBoundary-start path c.utf8.path) (rw c.as_bytes.ensures.value at ends))
