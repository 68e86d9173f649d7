-- A case with its own outcome and its own diagram.
use Rattle.std.specs.Prelude.{◌↔◌, Bool, IsTrue}
use Rattle.bd_model.specs.DesignView.{DesignView}
use Rattle.bd_model.specs.Conditions.{Abstraction, IsJudged, JudgedBy}
use Rattle.bd_model.specs.Cycle.{flushed}
use Rattle.bd_model.specs.Same.{Same}
use Rattle.bd_model.specs.declared.case.Case.{Case}
use Rattle.bd_model.specs.declared.case.Judged.{Judged}
use Rattle.bd_diagram.specs.Diagrams.{IsContrast, IsDiagram, IsDiagramBy}
use Rattle.bd_diagram.specs.declared.diagram.Diagram.{Diagram}
use Rattle.bd_picture.specs.declared.picture.Outcome.{Outcome}
use Rattle.bd_picture.specs.declared.picture.Outcome.TheVariants.{Flushed, Completed, Compared}

pub record IsSeenFlushed (d : DesignView) (c : Case) (j : Judged) (g : Diagram) : Type 0 where
  pub judged : IsJudged d c j
  pub diagram : IsDiagram d c g

-- by an abstraction, in place of flushing
pub record IsSeenBy (d : DesignView) (c : Case) (j : Judged) (g : Diagram) : Type 0 where
  pub abs : Abstraction
  pub judged : JudgedBy d abs c j
  pub diagram : IsDiagramBy d abs c g

-- beside flushing
pub record IsSeenBeside (d : DesignView) (c : Case) (same : Bool) (g : Diagram) : Type 0 where
  pub abs : Abstraction
  pub agrees : IsTrue same ↔ Same (flushed d c.interp c.state) (abs c.interp c.state)
  pub diagram : IsContrast d abs c g

abbrev pub IsSeen : DesignView → Case → Outcome → Diagram → Type 0
IsSeen d c (Flushed j) g = IsSeenFlushed d c j g
IsSeen d c (Completed j) g = IsSeenBy d c j g
IsSeen d c (Compared same) g = IsSeenBeside d c same g
