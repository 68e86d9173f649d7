-- The state in which everything is false or 0, and what the invariant says of it where functions give 0 everywhere.
use Rattle.std.specs.Prelude.{Bool, false, List, [], map, if◌then◌else◌}
use Rattle.bd_model.specs.Cycle.{invariant}
use Rattle.bd_model.specs.DesignView.{DesignView}
use Rattle.bd_model.specs.Value.{truth, word}
use Rattle.bd_model.specs.declared.design.Entry.{Entry}
use Rattle.bd_model.specs.declared.design.Sort.{Sort}
use Rattle.bd_model.specs.declared.design.Sort.TheVariants as sort
use Rattle.bd_model.specs.declared.design.Symbol.{Symbol}
use Rattle.bd_model.specs.declared.table.Scalar.TheVariants as scalar
use Rattle.bd_model.specs.declared.table.Table.{Table}
use Rattle.bd_model.specs.declared.table.Value.{Value}
use Rattle.bd_model.specs.declared.table.Value.TheVariants as value

-- false, 0, or the memory of zeros
abbrev pub zero_value : Sort → Value
zero_value sort.Bool = truth false
zero_value sort.Word = word 0
zero_value sort.Memory = value.Memory (record { default = 0; rows = [] })

abbrev pub reset_state : DesignView → List Value
reset_state d = map (λ (e : Entry). zero_value e.sort) d.pipe.entries

-- a predicate is false everywhere, a function 0
abbrev pub zero_table : Symbol → Table
zero_table y = record {
  default = if y.predicate then scalar.Bool false else scalar.Word 0;
  rows = [];
}

abbrev pub zero_tables : DesignView → List Table
zero_tables d = map zero_table d.symbols

-- whether this state meets the invariant under these tables
abbrev pub reset_meets : DesignView → Bool
reset_meets d = invariant d (zero_tables d) (reset_state d)
