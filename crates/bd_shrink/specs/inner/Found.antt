-- What is found of a case: where the two sides of its diagram part, and with which values.
use Rattle.std.specs.Prelude.{◌≡◌}
use Rattle.bd_model.specs.DesignView.{DesignView}
use Rattle.bd_model.specs.declared.case.Case.{Case}
use Rattle.bd_model.specs.declared.table.Scalar.{Scalar}
use Rattle.bd_diagram.specs.Diagrams.{IsDiagram}
use Rattle.bd_shrink.specs.Apart.{differing_values}
use Rattle.bd_shrink.specs.declared.apart.Apart.{Apart}

pub record IsApart (d : DesignView) (c : Case) (x : Apart) : Type 0 where
  pub diagram : IsDiagram d c x.diagram
  pub values : x.values ≡ differing_values d c

abbrev pub IsSameScalar : Scalar → Scalar → Type 0
IsSameScalar x y = y ≡ x
