-- Clauses that may be deleted, found one after another by rising id.
use Rattle.std.proofs.Common.{◌≡◌, ◌≢◌, ℕ, ◌+◌, ◌<◌, ◌≤◌, Bool, List, [], ◌∷◌, ◌++◌, get_or, sym, subst, arith}
use Rattle.std.specs.List.{All, AllPairs}
use Rattle.std.proofs.lemmas.List.Elements.{All-push, All-weaker}
use Rattle.std.proofs.lemmas.List.Quantifiers.{all_pairs_push}
use Rattle.bd_cnf.specs.Literal.{Literal}
use Rattle.bd_watch.specs.Levels.{Assigned}
use Rattle.bd_cdcl.specs.inner.Deletions.{AreUnmarked, IsUnmarked, MayDelete}

module _ (clauses : List (List Literal)) (trail : List Assigned) (marks : List Bool) where
  -- what is found up to a place
  abbrev pub Found : List ℕ → ℕ → Type 0
  Found ids place = record {
    may : All (MayDelete clauses trail) ids;
    unmarked : AreUnmarked marks ids;
    low : All (λ id. id ≤ place) ids;
    rising : AllPairs (λ one other. one < other) ids;
  }

  low_more : (ids : List ℕ) (place : ℕ) → All (λ id. id ≤ place) ids → All (λ id. id ≤ place + 1) ids
  low_more ids place low = All-weaker (λ id. id ≤ place) (λ id. id ≤ place + 1) (λ id h. omega arith) ids low

  -- one more clause is
  pub found_more : (ids more : List ℕ) (place : ℕ) → more ≡ ids ++ (place + 1) ∷ [] → All (MayDelete clauses trail) ids → MayDelete clauses trail (place + 1) → AreUnmarked marks ids → IsUnmarked marks (place + 1) → All (λ id. id ≤ place) ids → AllPairs (λ one other. one < other) ids → Found more (place + 1)
  found_more ids more place is may this unmarked free low rising = record {
    may = subst (All (MayDelete clauses trail)) (sym is) (All-push (MayDelete clauses trail) ids (place + 1) may this);
    unmarked = subst (AreUnmarked marks) (sym is) (All-push (IsUnmarked marks) ids (place + 1) unmarked free);
    low = subst (All (λ id. id ≤ place + 1)) (sym is) (All-push (λ id. id ≤ place + 1) ids (place + 1) (low_more ids place low) (omega arith));
    rising = subst (AllPairs (λ one other. one < other)) (sym is) (all_pairs_push (λ one other. one < other) ids (place + 1) rising (λ k d h. below (get_or ids k d) (low k d h)));
  }
    where
      below : (id : ℕ) → id ≤ place → id < place + 1
      below id h = omega arith

  -- or none is
  pub found_same : (ids more : List ℕ) (place : ℕ) → more ≡ ids → All (MayDelete clauses trail) ids → AreUnmarked marks ids → All (λ id. id ≤ place) ids → AllPairs (λ one other. one < other) ids → Found more (place + 1)
  found_same ids more place is may unmarked low rising = record {
    may = subst (All (MayDelete clauses trail)) (sym is) may;
    unmarked = subst (AreUnmarked marks) (sym is) unmarked;
    low = subst (All (λ id. id ≤ place + 1)) (sym is) (low_more ids place low);
    rising = subst (AllPairs (λ one other. one < other)) (sym is) rising;
  }

-- what rises differs
pub rising_differ : (ids : List ℕ) → AllPairs (λ one other. one < other) ids → AllPairs (λ one other. one ≢ other) ids
rising_differ ids rising i j d before within same = let less : get_or ids i d < get_or ids j d = rising i j d before within in absurd (omega (arith, same))
