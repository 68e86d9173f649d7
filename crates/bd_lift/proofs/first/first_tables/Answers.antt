use Rattle.std.proofs.Common.{◌++◌, ◌∷◌, [], refl, sym, subst}
use Rattle.std.proofs.lemmas.List.Elements.{AllZip-push}
use Rattle.bd_lift.specs.inner.First.{AreAlike, IsAlike, RowsDiffer}
use Rattle.bd_lift.proofs.FirstRows.{RowsDiffer-push}
use Rattle.bd_lift.proofs.first.first_tables.Goals as goal

pub loop-sym-preserved : goal.loop-sym-preserved
loop-sym-preserved c = record {
  alike = subst (AreAlike (c.loop-sym.yielded ++ c.in-Some.field-0 ∷ [])) (sym c.in_ok-push.ensures.items)
      (AllZip-push IsAlike c.loop-sym.yielded c.loop-sym.first.items c.in-Some.field-0 _ c.loop-sym.invariant.alike
      (record { symbol = refl; default = refl; rows = c.in_ok-kept.ensures.enough }));
  differ = subst RowsDiffer (sym c.in_ok-push.ensures.items) (RowsDiffer-push c.loop-sym.first.items _ c.loop-sym.invariant.differ c.in_ok-kept.ensures.differ);
}
