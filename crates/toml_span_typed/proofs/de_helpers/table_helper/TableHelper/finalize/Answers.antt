-- The last value of the reference. The goal's own terms unfold to a value's whole layout, so the rewriting tactics stop at
-- their limit: the family is written out.
use Rattle.toml_span_lex.proofs.Common.{Option, MutBor, sym, subst}
use borrow.Fn.Enter as enter
use borrow.Fn.Kinds as kinds
use denote.Triple.Clauses as clauses
use Rattle.toml_span_tree.specs.declared.value.Value.{Value}
use Rattle.toml_span_typed.specs.TableHelper.{HoldsRest, Leaves}
use Rattle.toml_span_typed.proofs.de_helpers.table_helper.TableHelper.finalize.Lts as lts
use Rattle.toml_span_typed.proofs.de_helpers.table_helper.TableHelper.finalize.Reads as reads
use Rattle.toml_span_typed.proofs.de_helpers.table_helper.TableHelper.finalize.Tie as tie
use Rattle.toml_span_typed.proofs.de_helpers.table_helper.TableHelper.finalize.Goals as goal

pub returns-in-Some-clause-rest : goal.returns-in-Some-clause-rest
returns-in-Some-clause-rest c =
    let P : Option (MutBor Value) → Type 0 = λ original.
    Leaves (HoldsRest c.args.self.table) original
    (clauses.at_exit (kinds.ended_of 2 lts.ps lts.r) c.lifetimes (c.args.self, (original, tt))
    (enter.lasts_p c.lifetimes 1 lts.ps lts.xs (c.args.self, (original, tt))
    (lts.m19 tie.the-claims reads.Pre reads.Post tie.handed_clauses c.before
    (lts.gave-After-put_back tie.the-claims reads.Pre reads.Post tie.handed_clauses c)).1)).1.0 in
    subst P (sym c.in-Some.is) c.put_back.ensures.rest
