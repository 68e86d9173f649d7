-- What is found of an expression's value, where it is valued in a cycle of a run.
use Rattle.std.specs.Prelude.{◌≡◌, ⊤, ℕ, Bool, true, false, List, length, take}
use Rattle.std.specs.List.{list_all, list_any}
use Rattle.bd_model.specs.DesignView.{DesignView}
use Rattle.bd_model.specs.ExprView.{ExprView, ExprViews}
use Rattle.bd_model.specs.Value.{Env, is_true, scalar_of, value_of, values_of}
use Rattle.bd_model.specs.declared.case.Case.{Case}
use Rattle.bd_model.specs.declared.table.Scalar.{Scalar}
use Rattle.bd_model.specs.declared.table.Value.{Value}
use Rattle.bd_slice.specs.Run.{state_at, inputs_in, let_values_in, word_at}
use Rattle.bd_slice.specs.Reasons.{AllHold}
use Rattle.bd_slice.specs.History.{moment_in}
use Rattle.bd_slice.specs.declared.subject.Cycle.{Cycle}
use Rattle.bd_slice.specs.declared.subject.Finding.{Finding}
use Rattle.bd_slice.specs.declared.subject.Finding.TheVariants as finding
use Rattle.bd_slice.specs.declared.subject.Fact.{Fact}
use Rattle.bd_slice.specs.declared.finding.Here.{Here}
use Rattle.bd_slice.specs.declared.finding.Found.{Found}

-- what names stand for in a case, after so many of the cycle's lets
abbrev pub env_at : DesignView → Case → Here → Env
env_at d o h = record {
  interp = o.interp;
  state = state_at d o h.cycle;
  inputs = inputs_in d o h.cycle;
  locals = take (length h.lets.now) (let_values_in d o h.cycle);
}

-- the values at hand are those of the case's run
pub record IsAt (d : DesignView) (h : Here) : Type 0 where
  pub moment : h.moment.now ≡ moment_in d h.case.now h.cycle
  pub lets : h.lets.now ≡ take (length h.lets.now) (let_values_in d h.case.now h.cycle)

-- what a value is, by what names stand for: that of an expression, or its word at an address
abbrev pub scalar_in : ExprView → Env → Scalar
scalar_in e env = scalar_of (value_of env e)

abbrev pub word_in : ExprView → ℕ → Env → Scalar
word_in e a env = word_at (value_of env e) a

-- facts are true, and lead to a value in each case in which they are
pub record Explains (h : Here) (meaning : Env → Scalar) (x : Scalar) (facts : List Fact) :
    Type 0 where
  pub holds : (d : DesignView) → IsAt d h → AllHold d h.case.now facts
  pub local : (d : DesignView) (o : Case) → AllHold d o facts → meaning (env_at d o h) ≡ x

abbrev pub Explained : Here → (Env → Scalar) → Found → Type 0
Explained h meaning f = Explains h meaning f.value f.facts.items

-- the same, after facts found before
pub record ExplainsAfter (h : Here) (before : List Fact) (meaning : Env → Scalar) (f : Found) :
    Type 0 where
  pub holds :
      (d : DesignView) → IsAt d h → AllHold d h.case.now before →
      AllHold d h.case.now f.facts.items
  pub front : (d : DesignView) (o : Case) → AllHold d o f.facts.items → AllHold d o before
  pub local :
      (d : DesignView) (o : Case) → AllHold d o f.facts.items → meaning (env_at d o h) ≡ f.value

-- a finding that follows from others
abbrev pub Follows : Finding → Type 0
Follows (finding.Rests s x) = ⊥
Follows (finding.Applied f args x) = ⊥
Follows other = ⊤

-- what an and (where false decides) or an or gives
abbrev pub joined_value : Bool → List Value → Bool
joined_value true vs = list_any is_true vs
joined_value false vs = list_all is_true vs

abbrev pub parts_in : Bool → ExprViews → Env → Scalar
parts_in decides es env = Scalar.Bool (joined_value decides (values_of env es))
