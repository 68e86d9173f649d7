-- Designs with one thing changed are lawful.
use Rattle.std.proofs.Common.{◌<◌, ◌≤◌, ◌+◌, ◌-◌, ℕ, true, List, [], ◌∷◌, ◌++◌, length, refl, arith, length-append}
use Rattle.std.specs.List.{AllByRecursion}
use Rattle.bd_model.specs.DesignView.{DesignView, ExactView, LocalView, MachineView}
use Rattle.bd_model.specs.ExprView.{ExprView, Truth}
use Rattle.bd_model.specs.Lawful.{HasSort, IsLawful, IsLawfulExact, IsLawfulGroup, IsLawfulMachine, IsLawfulPort, IsWithinLimits, LetsHaveSorts, inv_context, without_lets}
use Rattle.bd_model.specs.declared.design.Sort.TheVariants as sort
use Rattle.bd_about.specs.Changed.{less_flushed, more_flushed, more_steps, without_invariant, without_steps}
use Rattle.bd_model.specs.Limits.{most_items}

each_still : {X : Type 0} (P Q : X → Type 0) → ((x : X) → P x → Q x) → (xs : List X) → AllByRecursion P xs → AllByRecursion Q xs
each_still P Q f [] h = tt
each_still P Q f (x ∷ xs) h = (f x h.0, each_still P Q f xs h.1)

each_push : {X : Type 0} (P : X → Type 0) (xs : List X) (x : X) → AllByRecursion P xs → P x → AllByRecursion P (xs ++ x ∷ [])
each_push P [] x h p = (p, tt)
each_push P (y ∷ ys) x h p = (h.0, each_push P ys x h.1 p)

-- the same design but for its flush cycles, steps, exact items and invariant
abbrev pub changed : DesignView → ℕ → ℕ → List ExactView → List LocalView → ExprView → DesignView
changed d flush steps exact lets inv = record d { flush = flush; steps = steps; exact = exact; inv_locals = lets; inv = inv }

machine_still : (d : DesignView) (f s : ℕ) (x : List ExactView) (ls : List LocalView) (i : ExprView) (m : MachineView) → IsLawfulMachine d m → IsLawfulMachine (changed d f s x ls i) m
machine_still d f s x ls i m h = record { locals = h.locals; nexts = h.nexts; local_limits = h.local_limits; next_limits = h.next_limits; short = h.short }

exacts_still : (d : DesignView) (f s : ℕ) (x : List ExactView) (ls : List LocalView) (i : ExprView) (es : List ExactView) → AllByRecursion (IsLawfulExact d) es → AllByRecursion (IsLawfulExact (changed d f s x ls i)) es
exacts_still d f s x ls i es h = each_still (IsLawfulExact d) (IsLawfulExact (changed d f s x ls i)) (λ e p. record { count = p.count; when = p.when; limits = p.limits }) es h

pub changed_lawful : (d : DesignView) (f s : ℕ) (x : List ExactView) (ls : List LocalView) (i : ExprView) → IsLawful d → f ≤ 64 → s ≤ 8 → AllByRecursion (IsLawfulExact d) x → length x ≤ most_items
    → LetsHaveSorts (without_lets (inv_context d)) ls → HasSort (inv_context (changed d f s x ls i)) i sort.Bool → AllByRecursion (λ (l : LocalView). IsWithinLimits l.value) ls → IsWithinLimits i → length ls ≤ most_items
    → IsLawful (changed d f s x ls i)
changed_lawful d f s x ls i h flush steps exact few lets inv let_limits inv_limits few_lets = record {
  pipe = machine_still d f s x ls i d.pipe h.pipe;
  spec = machine_still d f s x ls i d.spec h.spec;
  ports = each_still (IsLawfulPort d) (IsLawfulPort (changed d f s x ls i)) (λ p q. record { sort = q.sort; idle = q.idle; no_input = q.no_input; limits = q.limits }) d.pipe.ports h.ports;
  no_spec_inputs = h.no_spec_inputs;
  inv_locals = lets;
  inv = inv;
  inv_local_limits = let_limits;
  inv_limits = inv_limits;
  exact = exacts_still d f s x ls i x exact;
  distinct = each_still (IsLawfulGroup d) (IsLawfulGroup (changed d f s x ls i)) (λ g q. record { two = q.two; different = q.different; constants = q.constants; short = q.short }) d.distinct h.distinct;
  names = h.names;
  different_names = h.different_names;
  visible = h.visible;
  visible_once = h.visible_once;
  arities = h.arities;
  flush = flush;
  steps = steps;
  short = (h.short.0, few_lets, few, h.short.3);
}

-- with other flush cycles and steps, within their limits
counts_lawful : (d : DesignView) (flush steps : ℕ) → IsLawful d → flush ≤ 64 → steps ≤ 8 → IsLawful (changed d flush steps d.exact d.inv_locals d.inv)
counts_lawful d flush steps h few_cycles few_steps =
    changed_lawful d flush steps d.exact d.inv_locals d.inv h few_cycles few_steps h.exact h.short.2 h.inv_locals h.inv h.inv_local_limits h.inv_limits h.short.1

pub less_flushed_lawful : (d : DesignView) → IsLawful d → IsLawful (less_flushed d)
less_flushed_lawful d h = counts_lawful d (d.flush - 1) d.steps h (omega (arith, h.flush)) h.steps

pub more_flushed_lawful : (d : DesignView) → IsLawful d → d.flush < 64 → IsLawful (more_flushed d)
more_flushed_lawful d h room = counts_lawful d (d.flush + 1) d.steps h (omega (arith, room)) h.steps

pub more_steps_lawful : (d : DesignView) → IsLawful d → d.steps < 8 → IsLawful (more_steps d)
more_steps_lawful d h room = counts_lawful d d.flush (d.steps + 1) h h.flush (omega (arith, room))

pub without_invariant_lawful : (d : DesignView) → IsLawful d → IsLawful (without_invariant d)
without_invariant_lawful d h =
    changed_lawful d d.flush d.steps d.exact [] (Truth true) h h.flush h.steps h.exact h.short.2 tt refl tt (omega arith, omega arith) (omega arith)

pub without_steps_lawful : (d : DesignView) → IsLawful d → length d.exact < most_items → IsLawful (without_steps d)
without_steps_lawful d h room =
    let item : ExactView = record { count = 0; when = Truth true } in
    changed_lawful d d.flush d.steps (d.exact ++ item ∷ []) d.inv_locals d.inv h h.flush h.steps
    (each_push (IsLawfulExact d) d.exact item h.exact (record { count = omega arith; when = refl; limits = (omega arith, omega arith) }))
    (omega (arith, room, length-append d.exact (item ∷ []))) h.inv_locals h.inv h.inv_local_limits h.inv_limits h.short.1
