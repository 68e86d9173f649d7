-- What nothing reads.
use Rattle.std.specs.Prelude.{◌↔◌, ◌<◌, ◌⊎◌, ℕ, List, length, Contains}
use Rattle.std.specs.List.Sorted.{IsStrictlyIncreasing}
use Rattle.bd_model.specs.DesignView.{DesignView}
use Rattle.bd_about.specs.Reached.{InInvariant, InPipe, InSpec}
use Rattle.bd_about.specs.declared.named.Named.TheVariants.{Entry, Input, Local, Symbol}
use Rattle.bd_about.specs.declared.unread.Unread.{Unread}

-- the places below a count that aren't read, in order
pub record AreUnread (IsRead : ℕ → Type 0) (count : ℕ) (places : List ℕ) : Type 0 where
  pub rising : IsStrictlyIncreasing places
  pub each : (i : ℕ) → Contains places i ↔ ((i < count) × (¬ IsRead i))

-- An entry, input or let is read where its machine reaches it, an entry also where the invariant does, and a symbol
-- where either machine or the invariant reaches it. A next value that names its own entry reads it.
pub record IsUnread (d : DesignView) (u : Unread) : Type 0 where
  pub lets : AreUnread (λ i. InPipe d (Local i)) (length d.pipe.locals) u.lets
  pub spec_lets : AreUnread (λ i. InSpec d (Local i)) (length d.spec.locals) u.spec_lets
  pub inv_lets : AreUnread (λ i. InInvariant d (Local i)) (length d.inv_locals) u.inv_lets
  pub entries : AreUnread (λ i. InPipe d (Entry i) ⊎ InInvariant d (Entry i))
      (length d.pipe.entries) u.entries
  pub inputs : AreUnread (λ i. InPipe d (Input i)) (length d.pipe.ports) u.inputs
  pub symbols : AreUnread
      (λ i. (InPipe d (Symbol i) ⊎ InSpec d (Symbol i)) ⊎ InInvariant d (Symbol i))
      (length d.symbols) u.symbols
