use Rattle.std.proofs.Common.{◌≡◌, ◌≤◌, ◌+◌, ℕ, List, Bor, length, map, drop, option_map}
use Rattle.std.specs.Prelude.{nat_eq}
use Rattle.std.specs.HashMap.{get}
use lib.Pointwise.{pointwise}
use Rattle.bd_case.specs.Reading.{place_of}
use Rattle.bd_case.proofs.frame.places.Given as goal

abbrev pub invariant-loop-at : goal.invariant-loop-at
invariant-loop-at l = record {
  within : l.at ≤ length l.names;
  found : (q : Bor (List ℕ)) → get (λ (a b : Bor (List ℕ)). pointwise nat_eq a.now b.now) l.places q ≡ option_map (λ k. l.at + k) (place_of q.now (drop l.at (map (λ (b : Bor (List ℕ)). b.now) l.names)));
}

abbrev pub decreases-loop-at : goal.decreases-loop-at
decreases-loop-at l = l.at
