use Rattle.bd_model.specs.declared.design.Sort.TheVariants as sort
use Rattle.bd_terms.proofs.Growth.{AddsUses-trans, HasSort-Extends}
use Rattle.bd_symbolic.proofs.Arms.{implies_or}
use Rattle.bd_symbolic.proofs.Making.{implication_called}
use Rattle.bd_symbolic.proofs.build.implies.Goals as goal

pub mk_or-requires-clause-second : goal.mk_or-requires-clause-second
mk_or-requires-clause-second c = HasSort-Extends _ _ c.mk_not.ensures.extends c.args.b sort.Bool c.requires.second

pub returns-clause-denotes : goal.returns-clause-denotes
returns-clause-denotes c = implies_or _ _ _ _ _ _ c.mk_or.result c.mk_not.ensures.extends c.requires.second c.in_ok-denied.ensures.denotes c.mk_or.ensures.denotes

pub returns-clause-made : goal.returns-clause-made
returns-clause-made c =
    implication_called _ _ _ c.args.a c.args.b _ c.mk_or.result c.mk_not.ensures.extends c.mk_or.ensures.extends c.requires.first.inside c.requires.second.inside c.in_ok-denied.ensures.sorted.inside c.in_ok-denied.ensures.simplified c.mk_or.ensures.simplified

pub returns-clause-uses : goal.returns-clause-uses
returns-clause-uses c = AddsUses-trans _ _ _ _ c.mk_not.ensures.uses c.mk_or.ensures.uses
