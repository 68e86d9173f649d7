-- The world of a case is one in which the design's functions have the tables of its interpretation.
use Rattle.std.proofs.Common.{ℕ, List, refl}
use Rattle.bd_model.specs.DesignView.{DesignView}
use Rattle.bd_model.specs.Fits.{InterpFits}
use Rattle.bd_model.specs.declared.table.Scalar.{Scalar}
use Rattle.bd_model.specs.declared.table.Table.{Table}
use Rattle.bd_model.specs.declared.table.Value.{Value}
use Rattle.bd_symbolic.specs.World.{IsWorldOf, world_of}

pub IsWorldOf-world_of : (d : DesignView) (interp : List Table) (state : List Value) (inputs : List Scalar) (addresses : List ℕ) → InterpFits d interp → IsWorldOf d interp (world_of interp state inputs addresses)
IsWorldOf-world_of d interp state inputs addresses h = record { fits = h; functions = λ f. refl }
