use Rattle.std.proofs.Common.{sym}
use Rattle.bd_model.specs.declared.design.Sort.TheVariants as sort
use Rattle.bd_terms.proofs.Growth.{AddsUses-trans, HasSort-Extends}
use Rattle.bd_symbolic.proofs.Making.{equivalence-called}
use Rattle.bd_symbolic.proofs.Arms.{IfOk-sort, sort_is, iff_ites}
use Rattle.bd_symbolic.proofs.build.iff.Goals as goal

pub mk_ite-requires-clause-control : goal.mk_ite-requires-clause-control
mk_ite-requires-clause-control c = HasSort-Extends _ _ c.mk_not.ensures.extends c.args.a sort.Bool c.requires.first

pub mk_ite-requires-clause-no : goal.mk_ite-requires-clause-no
mk_ite-requires-clause-no c =
    sort_is _ _ _ sort.Bool (sym (HasSort-Extends _ _ c.mk_not.ensures.extends c.args.b sort.Bool c.requires.second).sorted) c.in_ok-denied.ensures.sorted

pub returns-clause-denotes : goal.returns-clause-denotes
returns-clause-denotes c = iff_ites _ _ _ _ _ _ _ c.mk_not.ensures.graph c.mk_not.ensures.extends c.requires.first c.requires.second c.in_ok-denied.ensures.denotes c.mk_ite.ensures.denotes

pub returns-clause-sorted : goal.returns-clause-sorted
returns-clause-sorted c = IfOk-sort _ _ _ _ (HasSort-Extends _ _ c.mk_not.ensures.extends c.args.b sort.Bool c.requires.second).sorted c.mk_ite.ensures.sorted

pub returns-clause-uses : goal.returns-clause-uses
returns-clause-uses c = AddsUses-trans _ _ _ _ c.mk_not.ensures.uses c.mk_ite.ensures.uses

pub returns-clause-made : goal.returns-clause-made
returns-clause-made c =
    equivalence-called _ _ _ c.args.a c.args.b _ c.mk_ite.result c.mk_not.ensures.extends c.mk_ite.ensures.extends c.requires.first.inside c.requires.second.inside c.in_ok-denied.ensures.sorted.inside c.in_ok-denied.ensures.simplified c.mk_ite.ensures.simplified
