-- The rows of a flat form are of symbols that its old root reaches.
use Rattle.std.proofs.Common.{inl, inr}
use Rattle.bd_formula_tests.proofs.lifting.lifts_root.Goals as goal

pub lifts-requires-clause-known : goal.lifts-requires-clause-known
lifts-requires-clause-known g c = record {
  each = λ s p r q.
      let a = c.in_ok-flat.ensures.rows.each s p r q in
      record {
        applied = a.applied;
        known = elim (c.requires.known.known a.applied a.reached) [ inl declared ↦ inl declared | inr (i, below, is) ↦ inr (i, is) ];
        same = a.same;
        arity = a.arity;
        variable = a.variable;
      };
}
