use Rattle.std.proofs.Common.{IsNone, refl, sym, subst}
use Rattle.bd_cdcl.proofs.Settled.{negations_no_tautology}
use Rattle.bd_cdcl.proofs.plain.search.decision_clause.Goals as goal

pub unreachable-requires : goal.unreachable-requires
unreachable-requires c =
    negations_no_tautology c.args.decisions.now c.in_ok-negations.field-0.items c.requires c.in_ok-negations.ensures (c.from_vec.ensures.none.0 (subst IsNone (sym c.in-None.is) refl))
