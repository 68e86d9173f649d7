-- What an answer on a root says: whether the root is true in every world that keeps the constants apart (Burch and Dill
-- 1994), over the symbols of a design whose inputs stand once for each cycle of a trail.
use Rattle.std.specs.Prelude.{◌≡◌, ◌↔◌, ℕ, Bool, IsTrue, List, length}
use Rattle.bd_model.specs.DesignView.{DesignView}
use Rattle.bd_model.specs.Fits.{TrailFits}
use Rattle.bd_model.specs.declared.case.Case.{Case}
use Rattle.bd_model.specs.declared.case.Trail.{Trail}
use Rattle.bd_model.specs.declared.design.Sort.TheVariants as sort
use Rattle.bd_terms.specs.declared.node.Node.{Node}
use Rattle.bd_terms.specs.Denotation.{World, truth}
use Rattle.bd_terms.specs.Graph.{HasSort}
use Rattle.bd_terms.specs.Valid.{IsValid, KeepsConstantsApart}
use Rattle.bd_symbolic.specs.Widened.{case_of_trail, widened}
use Rattle.bd_goal.specs.Claims.{case_world}
use Rattle.bd_goal.specs.Symbols.{ReachesKnown}
use Rattle.bd_cnf.specs.Clause.{Satisfies}
use Rattle.bd_cnf.specs.Problem.{Problem}
use Rattle.bd_cdcl.specs.Law.{IsLaw}
use Rattle.bd_cdcl.specs.declared.solver.Found.{Found}
use Rattle.bd_cdcl.specs.declared.solver.Found.TheVariants as found
use Rattle.bd_verify.specs.declared.deciding.Decided.{Decided}
use Rattle.bd_verify.specs.declared.deciding.Decided.TheVariants as decided
use Rattle.bd_verify.specs.declared.verdict.Mode.{Mode}
use Rattle.bd_verify.specs.declared.verdict.Work.{Work}
use Rattle.bd_verify.specs.Kept.{IsKeptOf}

-- a truth value over symbols of the design and fresh addresses alone, each with its arity and sort
pub record IsKnownRoot (d : DesignView) (nodes : List Node) (root : ℕ) : Type 0 where
  pub sorted : HasSort nodes root sort.Bool
  pub count : ℕ
  pub known : ReachesKnown d count nodes root

-- this root of these terms
abbrev pub IsThis : List Node → ℕ → List Node → ℕ → Type 0
IsThis nodes root terms term = (terms ≡ nodes) × (term ≡ root)

-- the formula is satisfiable exactly where the root is false in some world that keeps the constants apart
pub record KeepsRoot (d : DesignView) (nodes : List Node) (root : ℕ) (formula : Problem) : Type 0 where
  pub decides : ((v : ℕ → Bool) × Satisfies v formula.clauses)
      ↔ ((w : World) × KeepsConstantsApart d w × (¬ IsTrue (truth w nodes root)))

-- the kept formula of the root, and the log of an honest solver's answer over it
pub record IsRootWork (d : DesignView) (cycles : ℕ) (nodes : List Node) (root : ℕ) (mode : Mode) (budget : ℕ) (answer : Found) (work : Work) :
    Type 0 where
  pub kept : IsKeptOf (widened d cycles) (IsThis nodes root) mode work.cnf
  pub keeps : KeepsRoot d nodes root work.cnf
  pub law : IsLaw work.cnf budget answer work.log

-- the root is false in the case's world with some addresses
abbrev pub IsFalseIn : List Node → ℕ → Case → Type 0
IsFalseIn nodes root c = (q : List ℕ) × (¬ IsTrue (truth (case_world c q) nodes root))

-- a fitting trail of so many cycles, in whose world the root is false
pub record Falsifies (d : DesignView) (cycles : ℕ) (nodes : List Node) (root : ℕ) (t : Trail) : Type 0 where
  pub fits : TrailFits d t
  pub counted : length t.inputs ≡ cycles
  pub fails : IsFalseIn nodes root (case_of_trail t)

-- the root is valid; it is false in the world of this trail; or the budget is spent
abbrev pub IsDecided : DesignView → ℕ → List Node → ℕ → Mode → ℕ → Decided → Type 0
IsDecided d cycles nodes root mode budget (decided.Valid work) =
    IsValid d nodes root × IsRootWork d cycles nodes root mode budget found.Refuted work
IsDecided d cycles nodes root mode budget (decided.False t work) =
    Falsifies d cycles nodes root t × ((model : _) × IsRootWork d cycles nodes root mode budget (found.Model model) work)
IsDecided d cycles nodes root mode budget (decided.Spent work) =
    IsRootWork d cycles nodes root mode budget found.Spent work
