-- Trails, judged one cycle after another.
use Rattle.std.proofs.Common.{◌≡◌, ◌↔◌, ℕ, zero, suc, ◌+◌, ◌<◌, Bool, List, [], ◌∷◌, length, get_or, take, IsTrue, refl, sym, ap, ◌∙◌, arith, add-one, below_more}
use Rattle.std.specs.Prelude.{slice_index_or}
use Rattle.std.proofs.lemmas.List.{get_or_read}
use Rattle.bd_model.specs.DesignView.{DesignView}
use Rattle.bd_model.specs.Cycle.{step, after, flushed, state_after, inputs_at}
use Rattle.bd_model.specs.TrailJudged.{CycleCommutes, BreaksFirst}
use Rattle.bd_model.specs.declared.table.Scalar.{Scalar}
use Rattle.bd_model.specs.declared.table.Table.{Table}
use Rattle.bd_model.specs.declared.table.Value.{Value}
use Rattle.bd_model.specs.declared.case.Trail.{Trail}
use Rattle.bd_sim.specs.StepsJoin.{StepsJoin}

-- the state after one cycle more
after-take_more : (d : DesignView) (interp : List Table) (inputs : List (List Scalar)) (state : List Value) (n : ℕ) → n < length inputs
    → after d interp state (take (suc n) inputs) ≡ step d.pipe interp (after d interp state (take n inputs)) (slice_index_or inputs n [])
after-take_more d interp [] state n h = absurd (omega (arith, h))
after-take_more d interp (x ∷ xs) state zero h = refl
after-take_more d interp (x ∷ xs) state (suc n) h = after-take_more d interp xs (step d.pipe interp state x) n (omega (arith, h))

-- the first cycles commute, and this state, which stands for that one, comes after them
pub record IsFollowed (d : DesignView) (t : Trail) (n cycle : ℕ) (state before : List Value) : Type 0 where
  pub count : cycle ≡ n
  pub reached : state ≡ state_after d t n
  pub stands : before ≡ flushed d t.interp state
  pub commute : (m : ℕ) → m < n → CycleCommutes d t m

-- the next cycle: its inputs, the state that it ends in, and what that stands for
pub record IsNext (d : DesignView) (t : Trail) (n : ℕ) (state : List Value) (inputs : List Scalar) (next end : List Value) : Type 0 where
  pub within : n < length t.inputs
  pub given : inputs ≡ get_or t.inputs n inputs
  pub moved : next ≡ step d.pipe t.interp state inputs
  pub stands : end ≡ flushed d t.interp next

-- whether steps join what stands before the cycle and after it tells whether it commutes
pub cycle_iff : (d : DesignView) (t : Trail) (n cycle : ℕ) (state before : List Value) (inputs : List Scalar) (next end : List Value) (b : Bool)
    → IsFollowed d t n cycle state before → IsNext d t n state inputs next end → (IsTrue b ↔ StepsJoin d t.interp state inputs before end) → IsTrue b ↔ CycleCommutes d t n
cycle_iff d t n cycle state before inputs next end b so is answer =
    let at = get_or_read t.inputs n inputs is.within is.given [] in
    let ends = is.stands in
    let moved = is.moved in
    let stands = so.stands in
    let reached = so.reached in
    rw (ends, moved, stands, reached, at) at answer

pub follow : (d : DesignView) (t : Trail) (n cycle more : ℕ) (state before : List Value) (inputs : List Scalar) (next end : List Value)
    → IsFollowed d t n cycle state before → IsNext d t n state inputs next end → more ≡ cycle + 1 → CycleCommutes d t n → IsFollowed d t (n + 1) more next end
follow d t n cycle more state before inputs next end so is counted commutes =
    let at = get_or_read t.inputs n inputs is.within is.given [] in
    let count = so.count in
    let reached = so.reached in
    let one_more : state_after d t (n + 1) ≡ step d.pipe t.interp (state_after d t n) (inputs_at t n) = rw add-one (after-take_more d t.interp t.inputs t.state n is.within) in
    record {
      count = omega (arith, counted, count);
      reached = is.moved ∙ ap (λ s. step d.pipe t.interp s inputs) reached ∙ ap (step d.pipe t.interp (state_after d t n)) at ∙ sym one_more;
      stands = is.stands;
      commute = below_more _ _ so.commute commutes;
    }

-- a cycle that doesn't commute is the first
pub breaks_first : (d : DesignView) (t : Trail) (n cycle more : ℕ) (state before : List Value) → IsFollowed d t n cycle state before → n < length t.inputs → more ≡ cycle + 1 → ¬ CycleCommutes d t n
    → (m : ℕ) × (more ≡ m + 1) × BreaksFirst d t m
breaks_first d t n cycle more state before so within counted broken =
    let count = so.count in (n, omega (arith, counted, count), record { within = within; broken = broken; earlier = so.commute })
