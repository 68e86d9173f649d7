-- The kept formula of a question on an abstraction (completion functions: Hosabettu, Srivas and Gopalakrishnan 1998):
-- whether a case breaks a condition by it (Burch and Dill 1994), or whether it differs from flushing.
use Rattle.std.specs.Prelude.{◌≡◌, ℕ, Bool, true, false, List}
use Rattle.bd_model.specs.Abstraction.{AbstractionView, abstraction_view, flushing, given, values_by}
use Rattle.bd_model.specs.declared.abstraction.Abstraction.{Abstraction as SourceAbstraction}
use Rattle.bd_model.specs.DesignView.{DesignView}
use Rattle.bd_model.specs.Conditions.{Abstraction}
use Rattle.bd_model.specs.Cycle.{flushed}
use Rattle.bd_model.specs.declared.case.Case.{Case}
use Rattle.bd_model.specs.declared.design.Sort.TheVariants as sort
use Rattle.bd_terms.specs.declared.node.Node.{Node}
use Rattle.bd_terms.specs.Graph.{HasSort}
use Rattle.bd_goal.specs.Claims.{Claims}
use Rattle.bd_goal.specs.Formula.{AgreesAt, Corresponds, address_count, memory_count}
use Rattle.bd_goal.specs.Laws.{BreaksSome, Differs}
use Rattle.bd_goal.specs.Made.{IsAgreement, IsCorrespondence}
use Rattle.bd_goal.specs.Symbols.{ReachesKnown}
use Rattle.bd_cnf.specs.Problem.{Problem}
use Rattle.bd_verify.specs.Kept.{IsKeptOf}
use Rattle.bd_verify.specs.declared.verdict.Mode.TheVariants.{Plain}

-- what a state stands for by an abstraction: what is visible once the pipeline is flushed, or the values of the
-- expressions that are given
abbrev pub abstraction_by : DesignView → AbstractionView → Abstraction
abstraction_by d flushing = flushed d
abstraction_by d (given lets parts) = values_by lets parts

-- what is asked of a case: that it breaks a condition by the abstraction, or, where agreement is asked, that the
-- invariant is true in its state and the abstraction differs from flushing there
abbrev pub IsSought : DesignView → Abstraction → Bool → Case → Type 0
IsSought d abs false = BreaksSome d abs
IsSought d abs true = Differs d abs

-- what the formula of the question claims of a case with words for the fresh addresses
abbrev pub claim_by : DesignView → Abstraction → Bool → Case → List ℕ → Type 0
claim_by d abs false = Corresponds d abs
claim_by d abs true = AgreesAt d abs

-- how many fresh addresses it may reach
abbrev pub addresses_by : DesignView → Bool → ℕ
addresses_by d false = address_count d
addresses_by d true = memory_count d

-- which calls of the constructors made the root of the question
abbrev pub IsMadeBy : DesignView → SourceAbstraction → Bool → List Node → ℕ → Type 0
IsMadeBy d source false nodes root = IsCorrespondence nodes d source root
IsMadeBy d source true nodes root = IsAgreement nodes d source root

-- a root of the question: it makes the claim, it is made by just these calls from an abstraction that is seen as this
-- one, and it reaches symbols of the design and these addresses alone
pub record IsRootBy (d : DesignView) (abs : AbstractionView) (agree : Bool) (nodes : List Node) (root : ℕ) :
    Type 0 where
  pub sorted : HasSort nodes root sort.Bool
  pub claims : Claims d (claim_by d (abstraction_by d abs) agree) nodes root
  pub source : SourceAbstraction
  pub is_source : abstraction_view source ≡ abs
  pub made : IsMadeBy d source agree nodes root
  pub known : ReachesKnown d (addresses_by d agree) nodes root

-- the formula that is kept of the question
abbrev pub IsKeptBy : DesignView → AbstractionView → Bool → Problem → Type 0
IsKeptBy d abs agree formula = IsKeptOf d (IsRootBy d abs agree) Plain formula
