-- A number of steps compared, where the counts that are forced and the two states are known.
use Rattle.std.specs.Prelude.{◌≡◌, ◌↔◌, ℕ, IsTrue, List}
use Rattle.std.specs.List.{AllByRecursion}
use Rattle.bd_model.specs.Same.{Same}
use Rattle.bd_model.specs.declared.table.Value.{Value}
use Rattle.bd_diagram.specs.Differs.{differences}
use Rattle.bd_diagram.specs.declared.comparison.Comparison.{Comparison}

pub record IsCompared
    (counts : List ℕ) (j : ℕ) (reached stands : List Value) (x : Comparison) :
    Type 0 where
  pub visible : x.visible ≡ reached
  pub allowed : IsTrue x.allowed ↔ AllByRecursion (λ n. n ≡ j) counts
  pub same : IsTrue x.same ↔ Same stands reached
  pub differences : x.differences ≡ differences stands reached
