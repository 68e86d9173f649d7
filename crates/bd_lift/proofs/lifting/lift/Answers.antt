-- A case is a trail of one cycle.
use Rattle.std.proofs.Common.{IfOk, sym, subst}
use Rattle.bd_model.specs.DesignView.{DesignView, design_view}
use Rattle.bd_model.specs.Fits.{Fits}
use Rattle.bd_symbolic.proofs.Widening.{lawful-symbols, widened-once}
use Rattle.bd_transitive.specs.Triangle.{value_at}
use Rattle.bd_lift.specs.Decoded.{edge_truths}
use Rattle.bd_lift.specs.Lifted.{AreKnown, TellsApart}
use Rattle.bd_lift.proofs.lifting.lift.Goals as goal

pub lifted-requires-clause-lawful : goal.lifted-requires-clause-lawful
lifted-requires-clause-lawful c = lawful-symbols (design_view c.args.design.now) c.requires.lawful

pub lifted-requires-clause-known : goal.lifted-requires-clause-known
lifted-requires-clause-known c =
    subst (λ (d : DesignView). AreKnown d c.args.flat.now.graph c.args.flat.now.syms) (sym (widened-once (design_view c.args.design.now))) c.requires.known

pub lifted-requires-clause-constants : goal.lifted-requires-clause-constants
lifted-requires-clause-constants c =
    subst (λ (d : DesignView). TellsApart d c.args.flat.now.syms c.args.order.now (value_at (edge_truths c.args.values.now c.args.order.now.edges)))
    (sym (widened-once (design_view c.args.design.now))) c.requires.constants

pub returns-clause-fits : goal.returns-clause-fits
returns-clause-fits c = subst (λ (d : DesignView). IfOk c.lifted.result (λ x. Fits d x)) (widened-once (design_view c.args.design.now)) c.lifted.ensures.fits
