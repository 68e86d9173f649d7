-- What the roots decide: validity of the formula stands for correspondence of every case (Burch and Dill 1994).
use Rattle.std.specs.Prelude.{ℕ, List}
use Rattle.bd_model.specs.DesignView.{DesignView}
use Rattle.bd_model.specs.Cycle.{flushed}
use Rattle.bd_model.specs.Same.{Same}
use Rattle.bd_model.specs.Conditions.{Abstraction, BreaksBy, MeetsInvariant}
use Rattle.bd_model.specs.declared.case.Case.{Case}
use Rattle.bd_model.specs.declared.case.Condition.{Condition}
use Rattle.bd_model.specs.declared.design.Sort.TheVariants as sort
use Rattle.bd_terms.specs.declared.node.Node.{Node}
use Rattle.bd_terms.specs.Graph.{HasSort, IsGraph}
use Rattle.bd_symbolic.specs.Widened.{HasLawfulSymbols}
use Rattle.bd_goal.specs.Symbols.{ReachesKnown}
use Rattle.bd_goal.specs.Formula.{Corresponds, IsOutside, AgreesAt}
use Rattle.bd_goal.specs.Claims.{Claims, Decides}

-- the case breaks one of the conditions
abbrev pub BreaksSome : DesignView → Abstraction → Case → Type 0
BreaksSome d abs c = (which : Condition) × BreaksBy d abs c which

-- the invariant is true in the case's state, and there the abstraction and flushing can be told apart
abbrev pub Differs : DesignView → Abstraction → Case → Type 0
Differs d abs c =
    MeetsInvariant d c.interp c.state
    × (¬ Same (abs c.interp c.state) (flushed d c.interp c.state))

-- whatever root makes the claim and reaches symbols of the design and addresses alone decides which cases are such
abbrev pub ClaimDecides :
    DesignView → (Case → List ℕ → Type 0) → (Case → Type 0) → Type 0
ClaimDecides d claim such =
    (n : ℕ) (nodes : List Node) (root : ℕ) →
    IsGraph nodes → HasSort nodes root sort.Bool → ReachesKnown d n nodes root →
    Claims d claim nodes root → Decides d such nodes root

-- the correspondence formula decides whether a case breaks a condition
abbrev pub GoalDecides : Type 0
GoalDecides =
    (d : DesignView) (abs : Abstraction) → HasLawfulSymbols d
    → ClaimDecides d (Corresponds d abs) (BreaksSome d abs)

-- the formula that the invariant is false decides whether a case meets it
abbrev pub MeetsDecides : Type 0
MeetsDecides =
    (d : DesignView) → HasLawfulSymbols d
    → ClaimDecides d (IsOutside d) (λ c. MeetsInvariant d c.interp c.state)

-- the formula of agreement decides whether an abstraction and flushing can be told apart
abbrev pub AgreeDecides : Type 0
AgreeDecides =
    (d : DesignView) (abs : Abstraction) → HasLawfulSymbols d
    → ClaimDecides d (AgreesAt d abs) (Differs d abs)
