use Rattle.std.proofs.Common.{◌∙◌, ap}
use Rattle.bd_model.specs.Abstraction.{abstraction_of}
use Rattle.bd_app.specs.Loading.{bytes_of}
use Rattle.bd_model.specs.DesignView.{design_view}
use Rattle.bd_show.specs.Claims.{completed_note}
use Rattle.bd_show.proofs.Joins.{completed_shown}
use Rattle.bd_show.proofs.completed.completed.Goals as goal

pub drawn-requires-clause-seen : goal.drawn-requires-clause-seen
drawn-requires-clause-seen c = record {
  abs = abstraction_of (design_view c.args.joined.now.design) c.args.joined.now.abs;
  judged = c.requires.judged;
  diagram = c.in_ok-diagram.ensures;
}

pub returns : goal.returns
returns c =
    completed_shown (bytes_of c.args.shown.text.now) (design_view c.args.joined.now.design) (abstraction_of (design_view c.args.joined.now.design) c.args.joined.now.abs) c.args.case.now c.args.judged _ _
    c.showing.result c.requires.judged c.requires.asked c.in_ok-picture.ensures (c.completed_note-note.ensures ∙ ap (λ x. completed_note x c.args.judged) c.claim_in.ensures) c.showing.ensures.ended c.showing.ensures.text
    c.showing.ensures.page
