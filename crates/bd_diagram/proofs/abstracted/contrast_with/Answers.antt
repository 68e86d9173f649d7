use Rattle.std.proofs.Common.{List, [], ◌∷◌, ◌++◌, ◌∙◌, ap, subst}
use Rattle.bd_model.specs.DesignView.{design_view}
use Rattle.bd_model.specs.Cycle.{flushed}
use Rattle.bd_model.specs.declared.table.Value.{Value}
use Rattle.bd_diagram.specs.Diagrams.{IsOther}
use Rattle.bd_diagram.specs.declared.comparison.Comparison.{Comparison}
use Rattle.bd_diagram.proofs.Flushed.{enough_states, end_visible}
use Rattle.bd_diagram.proofs.abstracted.contrast_with.Goals as goal

pub visible_end-requires : goal.visible_end-requires
visible_end-requires c = enough_states (design_view c.args.design.now) _ _ _ c.in_ok-before.ensures

pub returns : goal.returns
returns c = λ abs is.
    let d = design_view c.args.design.now in
    let case = c.args.case.now in
    let other = c.in_ok-other_of.field-0 in
    let stands = end_visible d _ _ _ _ c.in_ok-before.ensures c.in_ok-visible.ensures in
    record {
      before = c.in_ok-before.ensures;
      after = c.nowhere.ensures;
      lets = c.new.ensures;
      visible = stands;
      other = other;
      is_other =
          subst (λ (s : List Value). IsOther (flushed d case.interp case.state) s other) is
          (subst (λ (s : List Value). IsOther s c.args.other other) stands c.in_ok-other_of.ensures);
      comparisons = c.from_vec.ensures ∙ c.in_ok-push.ensures.items ∙ ap (λ (xs : List Comparison). xs ++ other ∷ []) c.new-comparisons.ensures.items;
    }
