-- What a kept formula says, and what it leaves out.
use Rattle.std.specs.Prelude.{◌<◌, ◌^◌, ℕ, List, Option}
use Rattle.bd_model.specs.DesignView.{DesignView}
use Rattle.bd_model.specs.Lawful.{IsLawful}
use Rattle.bd_terms.specs.declared.node.Node.{Node}
use Rattle.bd_function.specs.declared.flat.FlatSym.{FlatSym}
use Rattle.bd_cnf.specs.Problem.{Problem}
use Rattle.bd_transitive.specs.declared.graph.Order.{Order}
use Rattle.bd_transitive.specs.Edges.{IsEnd}
use Rattle.bd_tseitin.specs.declared.row.AtomVar.{AtomVar}
use Rattle.bd_verify.specs.declared.verdict.Mode.{Mode}
use Rattle.bd_verify.specs.declared.verdict.Mode.TheVariants.{Diverse}
use Rattle.bd_verify.specs.declared.verdict.Question.{Question}
use Rattle.bd_verify.specs.declared.verdict.Verdict.TheVariants.{Undecided}
use Rattle.bd_verify.specs.declared.verdict.Work.{Work}
use Rattle.bd_verify.specs.Kept.{IsFlatOf, IsFormulaOf, IsKept, IsPositiveVariable, IsRootOf}
use Rattle.bd_verify.specs.Verdict.{HasWork, IsAsked, Keeps}

-- the formula that is kept of a question decides it: whether some fitting case breaks a condition, or meets the
-- invariant (Burch and Dill 1994)
abbrev pub KeptDecides : Type 0
KeptDecides =
    (d : DesignView) (asked : Question) (mode : Mode) (formula : Problem) → IsLawful d → IsKept d asked mode formula
    → Keeps d (IsAsked asked d) formula

-- in diverse mode no edge has an end that is the variable of an application of a positive symbol (Bryant, German and
-- Velev 2001)
abbrev pub PositiveHaveNoEdge : Type 0
PositiveHaveNoEdge =
    (d : DesignView) (asked : Question) (nodes : List Node) (root : ℕ) (syms : List FlatSym)
    (marked : Option (List ℕ)) (order : Order) (formula : Problem) (rows : List AtomVar)
    → (flat : IsFlatOf (IsRootOf d asked) Diverse nodes root syms marked) → IsFormulaOf d nodes root syms marked order formula rows
    → (x : ℕ) → IsEnd order.edges x → ¬ IsPositiveVariable flat.plain flat.plain_root syms x

-- the budget that was spent on a question is less than 3 to the number of its formula's variables
abbrev pub SpentIsBounded : Type 0
SpentIsBounded =
    (d : DesignView) (mode : Mode) (budget : ℕ) (asked : Question) (work : Work)
    → HasWork d mode budget (Undecided asked work) → budget < 3 ^ work.cnf.vars
