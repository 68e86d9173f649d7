-- Watchers of a literal, in a list whose order doesn't matter.
use Rattle.std.specs.Prelude.{◌≡◌, ◌≢◌, ◌⊎◌, ◌<◌, ◌+◌, ◌-◌, ℕ, List, [], ◌∷◌, ◌++◌, length, slice_index_or, slice_set}
use Rattle.bd_watch.specs.declared.watcher.Watcher.{Watcher}
use Rattle.bd_watch.specs.declared.watcher.WatchedPair.{WatchedPair}
use Rattle.bd_cnf.specs.Literal.{Literal}
use Rattle.bd_cnf.specs.Packed.{literal_index}

-- the two literals of the pair are these
abbrev pub AreTwo : WatchedPair → Literal → Literal → Type 0
AreTwo p l other = ((l ≡ p.first) × (other ≡ p.second)) ⊎ ((l ≡ p.second) × (other ≡ p.first))

-- one was taken out, and the last put into its place
pub record Removes (old : List Watcher) (place : ℕ) (new : List Watcher) : Type 0 where
  pub shorter : length new + 1 ≡ length old
  pub moved : (d : Watcher) → place + 1 < length old → slice_index_or new place d ≡ slice_index_or old (length old - 1) d
  pub kept : (k : ℕ) (d : Watcher) → k ≢ place → k + 1 < length old → slice_index_or new k d ≡ slice_index_or old k d

-- one was given another blocker, and says nothing of the rest of its clause
pub record HasBlocker (old : List Watcher) (place : ℕ) (blocker : Literal) (new : List Watcher) : Type 0 where
  pub watcher : Watcher
  pub was : (d : Watcher) → (slice_index_or old place d).clause ≡ watcher.clause
  pub blocker_is : watcher.blocker ≡ blocker
  pub rest_is : watcher.rest ≡ blocker
  pub set : new ≡ slice_set old place watcher

-- the literal has one watcher more
abbrev pub listed_more : List (List Watcher) → Literal → Watcher → List (List Watcher)
listed_more lists l w = slice_set lists (literal_index l) (slice_index_or lists (literal_index l) [] ++ w ∷ [])
