-- The values of what differs: after each number of steps, those that the pipeline and the specification have where
-- they part.
use Rattle.std.specs.Prelude.{ℕ, zero, suc, Bool, List, [], ◌∷◌, ◌++◌, map, if◌then◌else◌}
use Rattle.bd_model.specs.DesignView.{DesignView}
use Rattle.bd_model.specs.Table.{read}
use Rattle.bd_model.specs.declared.table.Scalar.{Scalar}
use Rattle.bd_model.specs.declared.table.Scalar.TheVariants as scalar
use Rattle.bd_model.specs.declared.table.Memory.{Memory}
use Rattle.bd_model.specs.declared.table.Value.{Value}
use Rattle.bd_model.specs.declared.table.Value.TheVariants as value
use Rattle.bd_model.specs.declared.case.Case.{Case}
use Rattle.bd_diagram.specs.Differs.{differences}
use Rattle.bd_diagram.specs.Diagrams.{stands_at, reached_by}
use Rattle.bd_diagram.specs.declared.difference.Difference.{Difference}
use Rattle.bd_diagram.specs.declared.difference.Difference.TheVariants.{Nothing, Latch}
use Rattle.bd_diagram.specs.declared.difference.Difference.TheVariants as apart

-- the words of a memory at these addresses
abbrev pub words_at : Memory → List ℕ → List Scalar
words_at m addresses = map (λ a. scalar.Word (read m a)) addresses

-- the word at the addresses that are in no row, where it differs
abbrev pub word_elsewhere : Memory → Bool → List Scalar
word_elsewhere m elsewhere = if elsewhere then scalar.Word m.default ∷ [] else []

-- what a value has where it differs from another
abbrev pub values_at : Difference → Value → List Scalar
values_at Nothing v = []
values_at Latch (value.Scalar x) = x ∷ []
values_at Latch (value.Memory m) = []
values_at (apart.Memory e) (value.Scalar x) = []
values_at (apart.Memory e) (value.Memory m) = words_at m e.addresses ++ word_elsewhere m e.elsewhere

-- what the values of a state have where they differ from those of another
abbrev pub values_where : List Difference → List Value → List Scalar
values_where [] vs = []
values_where (e ∷ es) [] = []
values_where (e ∷ es) (v ∷ vs) = values_at e v ++ values_where es vs

-- the values of what differs after j steps: those of the pipeline, then those of the specification
abbrev pub values_after : DesignView → Case → ℕ → List Scalar
values_after d c j =
    let es = differences (stands_at d c) (reached_by d c j) in
    values_where es (stands_at d c) ++ values_where es (reached_by d c j)

-- those after each number of steps below n
abbrev pub values_below : ℕ → DesignView → Case → List Scalar
values_below zero d c = []
values_below (suc n) d c = values_below n d c ++ values_after d c n

-- the values of what differs in a case, after each number of steps
abbrev pub differing_values : DesignView → Case → List Scalar
differing_values d c = values_below (suc d.steps) d c
