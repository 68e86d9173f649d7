use Rattle.std.proofs.Common.{List, [], ◌∷◌, ◌∙◌, ap, subst}
use Rattle.std.proofs.lemmas.List.Elements.{same_from_all_zip}
use Rattle.bd_model.specs.DesignView.{design_view}
use Rattle.bd_model.specs.declared.table.Value.{Value}
use Rattle.bd_diagram.specs.Diagrams.{AreComparisonsOf}
use Rattle.bd_diagram.proofs.abstracted.diagram_between.Goals as goal

pub returns : goal.returns
returns c = λ abs first stands.
    let d = design_view c.args.design.now in
    let case = c.args.case.now in
    record {
      before = c.in_ok-alone.ensures ∙ ap (λ (s : List Value). s ∷ []) (same_from_all_zip _ case.state c.in_ok-clone.field-0 c.in_ok-clone.ensures.cases (λ v w h. h));
      after = c.in_ok-alone-2.ensures ∙ ap (λ (s : List Value). s ∷ []) c.in_ok-next.ensures;
      lets = c.in_ok-lets.ensures;
      visible = stands;
      counts = c.in_ok-comparisons.ensures.counts;
      comparisons =
          subst (λ (s : List Value). AreComparisonsOf d case (abs case.interp case.state) s c.in_ok-comparisons.comparisons) stands
          (subst (λ (s : List Value). AreComparisonsOf d case s c.args.stands c.in_ok-comparisons.comparisons) first c.in_ok-comparisons.ensures.each);
    }
