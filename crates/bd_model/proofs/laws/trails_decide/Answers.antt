use Rattle.std.proofs.Common.{◌≡◌, ℕ, zero, suc, ◌+◌, ◌<◌, ◌≤◌, List, length, inl, inr, refl, subst, sym, arith}
use Rattle.std.specs.Prelude.{◌⊎◌}
use Rattle.std.proofs.Math.Nat.{eq-or-lt_of_le}
use Rattle.bd_model.specs.DesignView.{DesignView}
use Rattle.bd_model.specs.Cycle.{flushed, state_after, inputs_at}
use Rattle.bd_model.specs.Right.{Follows}
use Rattle.bd_model.specs.Laws.{TrailsDecide}
use Rattle.bd_model.specs.TrailJudged.{CycleCommutes, BreaksFirst}
use Rattle.bd_model.specs.declared.case.Trail.{Trail}
use Rattle.bd_model.proofs.Compose.{follows, commutes-followed}
use Rattle.bd_model.proofs.Settled.{Commutes-settled, settled_holds}
use Rattle.bd_model.proofs.laws.trails_decide.Goals as goal

-- the cycle after cycles that commute commutes, unless it is the first that doesn't
commutes_next : (d : DesignView) (t : Trail) → ((n : ℕ) → ¬ BreaksFirst d t n) → (n : ℕ) → n < length t.inputs → ((m : ℕ) → m < n → CycleCommutes d t m) → (m : ℕ) → (m ≡ n) ⊎ (m < n) → CycleCommutes d t m
commutes_next d t none n within earlier m (inr less) = earlier m less
commutes_next d t none n within earlier m (inl same) =
    subst (λ k. CycleCommutes d t k) (sym same)
    (settled_holds (Commutes-settled d (flushed d) t.interp (state_after d t n) (inputs_at t n)) (λ broken. none n (record { within = within; broken = broken; earlier = earlier })))

-- where no cycle is the first that doesn't commute, the first n commute
commute_first : (d : DesignView) (t : Trail) → ((n : ℕ) → ¬ BreaksFirst d t n) → (n : ℕ) → n ≤ length t.inputs → (m : ℕ) → m < n → CycleCommutes d t m
commute_first d t none zero h m below = absurd (omega (arith, below))
commute_first d t none (suc n) h m below =
    let place : (m ≡ n) ⊎ (m < n) = eq-or-lt_of_le (omega (arith, below)) in
    commutes_next d t none n (omega (arith, h)) (commute_first d t none n (omega (arith, h))) m place

decide : TrailsDecide
decide d cycles = (
  λ none t fits inside short.
      follows d (flushed d) t.interp t.inputs t.state
      (commute_first d t (λ n first. none t fits short (n + 1) (inside, (n, refl, first))) (length t.inputs) (omega arith)),
  λ right t fits short cycle shown.
      let run = right t fits shown.0 short in
      commutes_broken d t run.0 run.1 shown.1.0 shown.1.2,
) where
  commutes_broken : (d : DesignView) (t : Trail) (counts : List ℕ) → Follows d t counts → (n : ℕ) → ¬ BreaksFirst d t n
  commutes_broken d t counts run n first = first.broken (commutes-followed d (flushed d) t counts run n first.within)

pub returns : goal.returns
returns c = decide
