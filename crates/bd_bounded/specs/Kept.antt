-- The kept formula of a bounded run (Burch and Dill 1994, unrolled over cycles as in Biere, Cimatti, Clarke and Zhu
-- 1999).
use Rattle.std.specs.Prelude.{◌*◌, ◌↔◌, ℕ, Bool, List}
use Rattle.bd_model.specs.DesignView.{DesignView}
use Rattle.bd_model.specs.declared.case.Trail.{Trail}
use Rattle.bd_model.specs.declared.design.Sort.TheVariants as sort
use Rattle.bd_terms.specs.declared.node.Node.{Node}
use Rattle.bd_terms.specs.Graph.{HasSort}
use Rattle.bd_symbolic.specs.Widened.{widened}
use Rattle.bd_goal.specs.Bounded.{ClaimsRuns, IsBroken, IsTrailOver}
use Rattle.bd_goal.specs.Formula.{address_count}
use Rattle.bd_goal.specs.Made.{IsBoundedRoot}
use Rattle.bd_goal.specs.Symbols.{ReachesKnown}
use Rattle.bd_cnf.specs.Clause.{Satisfies}
use Rattle.bd_cnf.specs.Problem.{Problem}
use Rattle.bd_verify.specs.Kept.{IsKeptOf}
use Rattle.bd_verify.specs.declared.verdict.Mode.{Mode}

-- a root of the question over so many cycles: it claims that each of them commutes, is made from the constructor calls
-- of such a run, and reaches symbols of the design, with its inputs once for each cycle, and so many addresses for each
-- cycle alone
pub record IsRunRoot (d : DesignView) (cycles : ℕ) (nodes : List Node) (root : ℕ) : Type 0 where
  pub sorted : HasSort nodes root sort.Bool
  pub claims : ClaimsRuns d cycles nodes root
  pub made : IsBoundedRoot nodes d cycles root
  pub known : ReachesKnown (widened d cycles) (cycles * address_count d) nodes root

-- the formula that is kept of the question in a mode
abbrev pub IsRunKept : DesignView → ℕ → Mode → Problem → Type 0
IsRunKept d cycles mode formula = IsKeptOf (widened d cycles) (IsRunRoot d cycles) mode formula

-- the formula is satisfiable exactly where some fitting trail of so many cycles is broken
pub record KeepsRuns (d : DesignView) (cycles : ℕ) (formula : Problem) : Type 0 where
  pub decides : ((v : ℕ → Bool) × Satisfies v formula.clauses)
      ↔ ((t : Trail) × IsTrailOver d cycles t × IsBroken d t)
