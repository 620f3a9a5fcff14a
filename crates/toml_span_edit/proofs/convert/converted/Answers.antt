use Rattle.toml_span_lex.proofs.Common.{ℕ, List, subst, sym, string_bytes}
use Rattle.std.specs.Prelude.{Option, String, IfSome, map}
use Rattle.std.specs.Global.{Global}
use Rattle.toml_span_format.specs.Document.{PermutedComments}
use Rattle.toml_span_read.specs.Data.{parsed_section}
use Rattle.toml_span_edit.specs.Converted.{HasOtherForm}
use Rattle.toml_span_edit.proofs.convert.converted.Goals as goal

pub returns-in-Ok : goal.returns-in-Ok
returns-in-Ok c =
    let text : List ℕ = c.args.text.now in
    let Form : List ℕ → Type 0 =
    HasOtherForm c.args.conversion c.args.at text (map parsed_section c.args.sections.now) in
    let IsForm : Option (String Global) → Type 0 = λ made. IfSome made (λ new. Form (string_bytes new)) in
    let Comments : List ℕ → Type 0 = λ new. PermutedComments text new in
    let form : Form (string_bytes c.in-Some-2.new) = subst IsForm c.in-Some-2.is c.in_ok-new.ensures in
    let comments : Comments (string_bytes c.in-Some-2.new) =
    subst Comments c.as_str.ensures.value (c.in_ok-permuted_comments.ensures c.if-not-branch.false) in
    let same = sym c.in-Ok.ensures.text in
    (subst Form same form, c.in-Ok.ensures.same, subst Comments same comments)
