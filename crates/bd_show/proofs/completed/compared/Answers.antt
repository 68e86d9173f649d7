use Rattle.std.proofs.Common.{◌∙◌}
use Rattle.bd_model.specs.Abstraction.{abstraction_of}
use Rattle.bd_app.specs.Loading.{bytes_of}
use Rattle.bd_model.specs.DesignView.{design_view}
use Rattle.bd_show.proofs.Joins.{compared_shown, same_lists}
use Rattle.bd_show.proofs.completed.compared.Goals as goal

pub drawn-requires-clause-seen : goal.drawn-requires-clause-seen
drawn-requires-clause-seen c =
    let abs = abstraction_of (design_view c.args.joined.now.design) c.args.joined.now.abs in
    record {
      abs = abs;
      agrees = same_lists c.same-agrees.result _ _ _ _ c.same-agrees.ensures (c.as_slice.ensures ∙ c.in_ok-flushed.ensures) (c.as_slice-2.ensures ∙ c.in_ok-other.ensures);
      diagram = c.in_ok-diagram.ensures abs c.in_ok-other.ensures;
    }

pub returns : goal.returns
returns c =
    compared_shown (bytes_of c.args.shown.text.now) (design_view c.args.joined.now.design) (abstraction_of (design_view c.args.joined.now.design) c.args.joined.now.abs) c.args.case.now c.same-agrees.result _ _
    c.showing.result c.requires.asked c.requires.inside (same_lists c.same-agrees.result _ _ _ _ c.same-agrees.ensures (c.as_slice.ensures ∙ c.in_ok-flushed.ensures) (c.as_slice-2.ensures ∙ c.in_ok-other.ensures))
    c.in_ok-picture.ensures c.compared_note.ensures c.showing.ensures.ended c.showing.ensures.text c.showing.ensures.page
