-- What a state of the pipeline stands for: what is visible once the pipeline is flushed (Burch and Dill 1994), or
-- the values of given expressions (completion functions), over the names that an invariant may use.
use Rattle.std.specs.Prelude.{List, [], map}
use Rattle.std.specs.List.{AllByRecursion, AllZip}
use Rattle.bd_model.specs.ExprView.{ExprView, expr_views, list_of_views}
use Rattle.bd_model.specs.DesignView.{DesignView, LocalView, local_view}
use Rattle.bd_model.specs.Value.{value_of, env_of}
use Rattle.bd_model.specs.Cycle.{flushed}
use Rattle.bd_model.specs.Lawful.{Context, HasSort, IsWithinLimits, LetsHaveSorts, inv_context, without_lets}
use Rattle.bd_model.specs.Conditions as conditions
use Rattle.bd_model.specs.declared.design.Entry as entry
use Rattle.bd_model.specs.declared.abstraction.Abstraction.{Abstraction}
use Rattle.bd_model.specs.declared.abstraction.Abstraction.TheVariants as abstraction

-- an abstraction: flushing, or the lets and the expressions that are given
pub data AbstractionView : Type 0 where
  flushing : AbstractionView
  given : List LocalView → List ExprView → AbstractionView

abbrev pub abstraction_view : Abstraction → AbstractionView
abstraction_view abstraction.Flushing = flushing
abstraction_view (abstraction.Given lets parts) =
    given (map local_view lets) (list_of_views (expr_views parts))

-- the values of expressions after lets, with no input
abbrev pub values_by : List LocalView → List ExprView → conditions.Abstraction
values_by lets parts interp state = map (value_of (env_of lets interp state [])) parts

abbrev pub abstraction_of : DesignView → Abstraction → conditions.Abstraction
abstraction_of d abstraction.Flushing = flushed d
abstraction_of d (abstraction.Given lets parts) =
    values_by (map local_view lets) (list_of_views (expr_views parts))

-- the sorts in force in an invariant's place, after these lets
abbrev pub context_after : DesignView → List LocalView → Context
context_after d lets =
    record (inv_context d) { locals = map (λ (l : LocalView). l.sort) lets }

-- the lets have their sorts, there is one expression for each visible entry, of its sort, and all are within the limits
pub record IsLawfulGiven (d : DesignView) (locals : List LocalView) (exprs : List ExprView) :
    Type 0 where
  pub lets : LetsHaveSorts (without_lets (inv_context d)) locals
  pub parts : AllZip (λ (x : entry.Entry) e. HasSort (context_after d locals) e x.sort) d.spec.entries exprs
  pub let_limits : AllByRecursion (λ (l : LocalView). IsWithinLimits l.value) locals
  pub part_limits : AllByRecursion IsWithinLimits exprs

abbrev pub IsLawfulAbstraction : DesignView → Abstraction → Type 0
IsLawfulAbstraction d abstraction.Flushing = Unit {0}
IsLawfulAbstraction d (abstraction.Given lets parts) =
    IsLawfulGiven d (map local_view lets) (list_of_views (expr_views parts))
