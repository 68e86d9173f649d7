use Rattle.std.proofs.Common.{◌≡◌, ℕ, false, sym, ◌∙◌}
use Rattle.std.specs.Prelude.{IsTrue}
use Rattle.std.specs.BTreeSet.{contains}
use Rattle.std.specs.Ordering.{is_gt}
use Rattle.bd_transitive.specs.inner.EliminationGraph.{entry_cmp}
use Rattle.bd_transitive.proofs.Queues.{first-fewest}
use Rattle.bd_transitive.proofs.min_degree.EliminationGraph.next.Goals as goal

pub returns-then-has_degree-clause-fewest : goal.returns-then-has_degree-clause-fewest
returns-then-has_degree-clause-fewest c =
    let least : (q : ℕ × ℕ) → IsTrue (contains entry_cmp c.loop-degree.self.queue q) → is_gt (entry_cmp (c.in-Some.degree, c.in-Some.vertex) q) ≡ false = c.in-Some.ensures.least in
    first-fewest c.args.self.now c.loop-degree.self c.in-Some.vertex c.in-Some.degree c.loop-degree.invariant.same c.loop-degree.invariant.queued least (sym c.has_degree.ensures ∙ c.if-has_degree.true)
