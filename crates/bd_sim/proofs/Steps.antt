-- Numbers of steps that lead the specification where the pipeline stands.
use Rattle.std.proofs.Common.{◌≡◌, ◌↔◌, ⊎_elim, ℕ, ◌+◌, ◌<◌, ◌≤◌, Bool, List, [], Vec, Global, Result, Ok, Err, IsTrue, IfOk, subst, add-one, arith}
use Rattle.std.proofs.lemmas.Bool.{cases_lt}
use Rattle.std.specs.declared.alloc.AllocError.{AllocError}
use Rattle.std.specs.List.{AllByRecursion}
use Rattle.bd_model.specs.DesignView.{DesignView, ExactView}
use Rattle.bd_model.specs.Value.{Env, env_of}
use Rattle.bd_model.specs.Cycle.{step, spec_steps}
use Rattle.bd_model.specs.Same.{Same}
use Rattle.bd_model.specs.declared.table.Scalar.{Scalar}
use Rattle.bd_model.specs.declared.table.Table.{Table}
use Rattle.bd_model.specs.declared.table.Value.{Value}
use Rattle.bd_model.specs.Conditions.{Abstraction, CommutesBy, IsAllowed}
use Rattle.bd_sim.specs.ExactCounts.{counts_in, counts_of}
use Rattle.bd_sim.specs.StepsJoin.{StepsJoin, StepsJoinAt}
use Rattle.bd_sim.proofs.ExactItems.{counts_allow}

-- what the comparison of the states reached tells
pub stands_iff : (d : DesignView) (interp : List Table) (state : List Value) (inputs : List Scalar) (before after : List Value) (counts items : List ℕ) (reached : List Value) (j : ℕ) (b : Bool)
    → ((n : ℕ) → AllByRecursion (λ m. m ≡ n) counts ↔ IsAllowed d interp state inputs n) → items ≡ counts → reached ≡ spec_steps j d interp before
    → (IsTrue b ↔ (AllByRecursion (λ m. m ≡ j) items × Same after reached)) → IsTrue b ↔ StepsJoinAt d interp state inputs before after j
stands_iff d interp state inputs before after counts items reached j b allowed same_items is_reached answer =
    let both = rw (same_items, is_reached) at answer in
    (λ t. let h = both.0 t in ((allowed j).0 h.0, h.1), λ h. both.1 ((allowed j).1 h.0, h.1))

-- one step more
pub next_steps : (d : DesignView) (interp : List Table) (reached next base : List Value) (j : ℕ) → reached ≡ spec_steps j d interp base → next ≡ step d.spec interp reached []
    → next ≡ spec_steps (j + 1) d interp base
next_steps d interp reached next base j is moved = rw (add-one, moved, is)

-- where no earlier number does, the last one must
pub last_stands : (P : ℕ → Type 0) (count steps : ℕ) → steps ≤ count → count ≤ steps → ((k : ℕ) → k < count → P k → ⊥) → (x : ℕ) → x ≤ steps → P x → P steps
last_stands P count steps past within none x le p =
    ⊎_elim (λ (lt : x < steps). absurd (none x (omega arith) p)) (λ (ge : steps ≤ x). let same : x ≡ steps = omega arith in subst P same p) (cases_lt x steps)

-- the counts of the true items are those of the design, and decide which numbers are allowed
pub exact_counted : (d : DesignView) (env : Env) (items : List ExactView) (interp : List Table) (state : List Value) (inputs : List Scalar) → env ≡ env_of d.pipe.locals interp state inputs → items ≡ d.exact
    → (r : Result (Vec ℕ Global) AllocError) → IfOk r (λ v. v.items ≡ counts_in env items) → IfOk r (λ v. v.items ≡ counts_of d interp state inputs)
exact_counted d env items interp state inputs e f r h = rw (e, f) at h

pub exact_allowed : (d : DesignView) (interp : List Table) (state : List Value) (inputs : List Scalar) (r : Result (Vec ℕ Global) AllocError)
    → IfOk r (λ v. v.items ≡ counts_of d interp state inputs) → IfOk r (λ v. (j : ℕ) → AllByRecursion (λ n. n ≡ j) v.items ↔ IsAllowed d interp state inputs j)
exact_allowed d interp state inputs (Ok v) h = λ j. rw h (counts_allow (env_of d.pipe.locals interp state inputs) d.exact j)
exact_allowed d interp state inputs (Err e) h = tt

-- steps that join what two states stand for show that the cycle between them commutes
pub joined_commutes : (d : DesignView) (abs : Abstraction) (interp : List Table) (state : List Value) (inputs : List Scalar) (before after : List Value) → before ≡ abs interp state → after ≡ abs interp (step d.pipe interp state inputs)
    → (r : Result Bool AllocError) → IfOk r (λ b. IsTrue b ↔ StepsJoin d interp state inputs before after) → IfOk r (λ b. IsTrue b ↔ CommutesBy d abs interp state inputs)
joined_commutes d abs interp state inputs before after first last r h =
    subst (λ v. IfOk r (λ b. IsTrue b ↔ StepsJoin d interp state inputs (abs interp state) v)) last
    (subst (λ v. IfOk r (λ b. IsTrue b ↔ StepsJoin d interp state inputs v after)) first h)
