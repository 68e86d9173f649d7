use Rattle.std.proofs.Common.{refl}
use Rattle.bd_model.specs.DesignView.{local_view}
use Rattle.bd_slice.proofs.Accounting.{idle_reason, no_idle_reason, view_count}
use Rattle.bd_slice.proofs.reason.Run.idle.Goals as goal

pub returns-in_ok-found-in-Some : goal.returns-in_ok-found-in-Some
returns-in_ok-found-in-Some c = λ history has.
    let at = c.in-Some.ensures.there in
    idle_reason _ _ c.args.cycle _ c.args.number at.0 _ _ c.requires.lawful c.requires.flush (view_count local_view _ _ _ c.len-count.ensures refl) at.1 at.2 (c.in_ok-found-in-Some.ensures history has)

pub returns-in-None : goal.returns-in-None
returns-in-None c = λ history has. no_idle_reason _ _ c.args.cycle c.args.number _ c.requires.flush c.in-None.ensures.past c.plain.ensures.facts c.plain.ensures.value
