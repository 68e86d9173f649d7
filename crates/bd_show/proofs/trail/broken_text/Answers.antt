use Rattle.bd_model.specs.DesignView.{design_view}
use Rattle.bd_show.proofs.Trails.{break_shown}
use Rattle.bd_show.proofs.trail.broken_text.Goals as goal

pub returns : goal.returns
returns c =
    break_shown (design_view c.args.design.now) c.args.trail.now c.args.cycle c.in_ok-picture.picture.sentence.items c.in_ok-shown.shown.items
    c.as_slice-tables.result.now c.in_ok-text.text.items c.push.new.self.items c.extend_from_slice.new.self.items c.requires.breaking
    c.in_ok-picture.ensures c.in_ok-shown.ensures c.as_slice-tables.ensures.value c.in_ok-text.ensures c.in_ok-push.ensures.items c.in_ok-extend_from_slice.ensures.items
