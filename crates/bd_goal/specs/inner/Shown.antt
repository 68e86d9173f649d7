-- What terms denote in a world where the terms of a state denote values and inputs.
use Rattle.std.specs.Prelude.{◌≡◌, ◌==◌, ◌↔◌, ◌≤◌, ◌+◌, ℕ, List, [], ◌∷◌, Bool, IsTrue, Result, IfOk, length}
use Rattle.std.specs.List.{AllZip, AllByRecursion}
use Rattle.std.specs.declared.alloc.AllocError.{AllocError}
use mathlib.Core.Bool.{beq}
use Rattle.bd_model.specs.DesignView.{DesignView, ExactView}
use Rattle.bd_model.specs.Value.{value_of, env_of, is_true}
use Rattle.bd_model.specs.Cycle.{spec_steps}
use Rattle.bd_model.specs.Lawful.{entry_sorts}
use Rattle.bd_model.specs.Conditions.{Abstraction, IsAllowed}
use Rattle.bd_model.specs.declared.design.Sort.{Sort}
use Rattle.bd_model.specs.declared.design.Sort.TheVariants as sort
use Rattle.bd_model.specs.declared.table.Scalar.{Scalar}
use Rattle.bd_model.specs.declared.table.Table.{Table}
use Rattle.bd_model.specs.declared.table.Value.{Value}
use Rattle.bd_terms.specs.declared.node.Sym.TheVariants as symbol
use Rattle.bd_terms.specs.declared.node.Node.{Node}
use Rattle.bd_terms.specs.Graph.{AddsUses, Extends, HasSort, Use}
use Rattle.bd_terms.specs.Denotation.{World, Denoted, applied, contents_of, denoted, truth, truth_of, word_of}
use Rattle.bd_symbolic.specs.declared.state.SymState.{SymState}
use Rattle.bd_symbolic.specs.Symbolic.{DenoteValues, HaveSorts}
use Rattle.bd_symbolic.specs.States.{DenotesState}
use Rattle.bd_goal.specs.Formula.{EqualFrom, address_number}
use Rattle.bd_goal.specs.Made.{IsEquation}
use Rattle.bd_goal.specs.Symbols.{address_use}

-- the most that the number of the first address of a cycle may be: with those after it, it has 32 bits
abbrev pub most_first_address : ℕ
most_first_address = 300000000

-- the most that the number of the first address of a comparison may be: with those after it, it has 32 bits
abbrev pub most_compared_address : ℕ
most_compared_address = 400000000

-- in the world the term is true exactly where this holds
abbrev pub Says : World → List Node → ℕ → Type 0 → Type 0
Says w nodes id claim = IsTrue (truth w nodes id) ↔ claim

-- terms for the visible entries, of their sorts, and no inputs
pub record IsVisible (d : DesignView) (nodes : List Node) (visible : SymState) : Type 0 where
  pub sorted : HaveSorts nodes visible.entries (entry_sorts d.spec)
  pub inputs : visible.inputs ≡ []

-- the visible terms are what the state stands for by the abstraction
pub record StandsFor (d : DesignView) (old new : List Node) (state : SymState) (abs : Abstraction) (visible : SymState) : Type 0 where
  pub sorted : IsVisible d new visible
  pub denotes : (w : World) (interp : List Table) (values : List Value) (inputs : List Scalar)
      → DenotesState d w old state interp values inputs → DenoteValues w new visible.entries (abs interp values)

-- a truth term for each exact item
pub record AreConditions (d : DesignView) (nodes : List Node) (whens : List ℕ) : Type 0 where
  pub count : length whens ≡ length d.exact
  pub sorted : AllByRecursion (λ id. HasSort nodes id sort.Bool) whens

-- in the world they denote the items' conditions in a state with inputs
abbrev pub DenoteConditions : DesignView → World → List Node → List ℕ → List Table → List Value → List Scalar → Type 0
DenoteConditions d w nodes whens interp values inputs =
    AllZip (λ id (e : ExactView). truth w nodes id ≡ is_true (value_of (env_of d.pipe.locals interp values inputs) e.when)) whens d.exact

-- latches are equal, and each memory reads equal at the word of its own address in the world
abbrev pub EqualIn : World → (ℕ → ℕ) → List Value → List Value → Type 0
EqualIn w number a b = EqualFrom (λ m. applied w (symbol.Address (number m)) []) 0 a b

-- so many steps are allowed, and lead from one visible state to the other, as far as the addresses from the first one on
-- show in the world
abbrev pub StandsIn : DesignView → World → List Table → List Value → List Scalar → ℕ → List Value → List Value → ℕ → Type 0
StandsIn d w interp values inputs first before after j =
    IsAllowed d interp values inputs j
    × EqualIn w (λ m. first + address_number d m j) after (spec_steps j d interp before)

-- some number of steps up to n does
abbrev pub StandsUpTo : DesignView → World → List Table → List Value → List Scalar → ℕ → List Value → List Value → ℕ → Type 0
StandsUpTo d w interp values inputs first before after n =
    (j : ℕ) × (j ≤ n) × StandsIn d w interp values inputs first before after j

-- whether two denotations of a sort are equal, memories at a word
abbrev pub are_equal : Sort → ℕ → Denoted → Denoted → Bool
are_equal sort.Bool place x y = beq (truth_of x) (truth_of y)
are_equal sort.Word place x y = word_of x == word_of y
are_equal sort.Memory place x y = contents_of x place == contents_of y place

-- the address that terms of a sort are read at, if they are memories
abbrev pub address_uses : Sort → ℕ → List Use
address_uses sort.Bool address = []
address_uses sort.Word address = []
address_uses sort.Memory address = address_use address ∷ []

-- the term denotes whether the two are equal, and was made of them
pub record EqualTerms (old new : List Node) (s : Sort) (a b address : ℕ) (r : Result ℕ AllocError) : Type 0 where
  pub sorted : IfOk r (λ id. HasSort new id sort.Bool)
  pub denotes : IfOk r (λ id. (w : World)
      → truth w new id ≡ are_equal s (applied w (symbol.Address address) []) (denoted w old a) (denoted w old b))
  pub extends : Extends old new
  pub uses : AddsUses old new (address_uses s address)
  pub made : IfOk r (IsEquation new s a b address)
