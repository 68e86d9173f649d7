-- The case of the tables of the decoded values.
use Rattle.std.proofs.Common.{length, IfOk, ap, sym, subst}
use Rattle.bd_model.specs.DesignView.{design_view}
use Rattle.bd_model.specs.Fits.{Fits}
use Rattle.bd_model.specs.declared.case.Case.{Case}
use Rattle.bd_symbolic.specs.Widened.{widened}
use Rattle.bd_symbolic.proofs.Widening.{widened-symbols}
use Rattle.bd_function.specs.Tables.{sym_tables, world_of_tables}
use Rattle.bd_function.specs.Values.{scalar_of}
use Rattle.bd_transitive.specs.Triangle.{AgreesWithClasses, MeetsTriangles, class_of, value_at}
use Rattle.bd_lift.specs.Counting.{EachRowCounts}
use Rattle.bd_lift.specs.Lifted.{IsLifted}
use Rattle.bd_lift.specs.inner.Built.{IsBuilt}
use Rattle.bd_lift.specs.inner.First.{AreAlike}
use Rattle.bd_lift.proofs.Decoding.{AreDecodedBy-sorts}
use Rattle.bd_lift.proofs.Fitting.{IsSettled, built-counts, built-fits-alike}
use Rattle.bd_lift.proofs.Worlds.{built-lifted-alike}
use Rattle.bd_lift.proofs.lifting.lifted.Goals as goal
use Rattle.bd_lift.proofs.lifting.lifted.Goals.{After-case_of}
use Rattle.bd_list.proofs.Results.{if_ok}

pub classes-requires-clause-meets : goal.classes-requires-clause-meets
classes-requires-clause-meets c = subst (λ l. MeetsTriangles c.args.order.now (value_at l)) (sym c.in_ok-edges.ensures) c.requires.triangles

settled : (c : After-case_of) → IsSettled (widened (design_view c.args.design.now) c.args.cycles) c.args.flat.now.graph c.args.flat.now.syms c.args.order.now c.args.values.now c.in_ok-classes.classes (scalar_of c.in_ok-decoded.decoded)
settled c = record {
  lawful = widened-symbols (design_view c.args.design.now) c.args.cycles c.requires.lawful;
  known = c.requires.known;
  root = c.args.flat.now.root;
  flat = c.args.flat.now.flat;
  order_is = c.requires.order;
  are = record {
    agrees = subst (λ l. AgreesWithClasses c.args.order.now.edges (value_at l) (class_of c.args.order.now.vertices c.in_ok-classes.classes)) c.in_ok-edges.ensures c.in_ok-classes.ensures.agrees;
    below = c.in_ok-classes.ensures.below;
  };
  by = c.in_ok-decoded.ensures;
  sorts = AreDecodedBy-sorts c.args.flat.now.graph c.args.order.now c.args.values.now c.in_ok-classes.classes (scalar_of c.in_ok-decoded.decoded) c.in_ok-decoded.ensures;
  apart = c.requires.constants;
}

built : (c : After-case_of) → IfOk c.case_of.result (λ (k : Case). IsBuilt (widened (design_view c.args.design.now) c.args.cycles) (length c.args.order.now.vertices) (world_of_tables c.in_ok-first.first) k.interp k.state k.inputs)
built c = subst (λ n. IfOk c.case_of.result (λ (k : Case). IsBuilt (widened (design_view c.args.design.now) c.args.cycles) n (world_of_tables c.in_ok-first.first) k.interp k.state k.inputs)) (ap length c.as_slice.ensures) c.case_of.ensures

alike : (c : After-case_of) → AreAlike (sym_tables (scalar_of c.in_ok-decoded.decoded) c.args.flat.now.graph c.args.flat.now.syms) c.in_ok-first.first
alike c = subst (λ ts. AreAlike ts c.in_ok-first.first) c.in_ok-tables.ensures.exact c.in_ok-first.ensures.alike

pub returns-clause-fits : goal.returns-clause-fits
returns-clause-fits c =
    let s = goal.at.returns-clause-fits c in
    let k = s.After-case_of in
    if_ok _ (λ x. Fits (widened (design_view c.args.design.now) c.args.cycles) x) c.case_of.result (built k) (λ x b.
    built-fits-alike (widened (design_view c.args.design.now) c.args.cycles) c.args.flat.now.graph c.args.flat.now.syms c.args.order.now c.args.values.now c.in_ok-classes.classes (scalar_of c.in_ok-decoded.decoded) (settled k) c.in_ok-first.first (alike k) x b)

pub returns-clause-lifted : goal.returns-clause-lifted
returns-clause-lifted c =
    let s = goal.at.returns-clause-lifted c in
    let k = s.After-case_of in
    if_ok _ (λ x. IsLifted c.args.flat.now.graph c.args.flat.now.syms c.args.order.now c.args.values.now x) c.case_of.result (built k) (λ x b.
    built-lifted-alike (widened (design_view c.args.design.now) c.args.cycles) c.args.flat.now.graph c.args.flat.now.syms c.args.order.now c.args.values.now c.in_ok-classes.classes (scalar_of c.in_ok-decoded.decoded) (settled k) c.in_ok-first.first (alike k) x b)

pub returns-clause-counts : goal.returns-clause-counts
returns-clause-counts c =
    let s = goal.at.returns-clause-counts c in
    let k = s.After-case_of in
    if_ok _ (λ x. EachRowCounts x) c.case_of.result (built k) (λ x b.
    built-counts (widened (design_view c.args.design.now) c.args.cycles) c.args.flat.now.graph c.args.flat.now.syms c.args.order.now c.args.values.now c.in_ok-classes.classes (scalar_of c.in_ok-decoded.decoded) (settled k) c.in_ok-first.first (alike k) c.in_ok-first.ensures.differ x b)
