use Rattle.std.proofs.Common.{map}
use Rattle.bd_model.specs.DesignView.{design_view, local_view}
use Rattle.bd_model.specs.Lawful.{context_of}
use Rattle.bd_about.proofs.Earlier.{use_earlier}
use Rattle.bd_about.proofs.unread.in_pipe.Goals as goal

pub add_lets-requires : goal.add_lets-requires
add_lets-requires c = rw c.as_slice.ensures (use_earlier (context_of (design_view c.args.design.now) (design_view c.args.design.now).pipe) (map local_view c.args.design.now.pipe.locals) c.requires.pipe.locals)

pub returns : goal.returns
returns c = (rw c.as_slice.ensures at c.in_ok-add_lets.ensures).each _ c.in_ok-marks.ensures
