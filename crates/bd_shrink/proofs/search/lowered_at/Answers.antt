use Rattle.bd_shrink.proofs.Lowered.{zero_last, gone_last, least_gone, read_as}
use Rattle.bd_shrink.proofs.search.lowered_at.Goals as goal

pub returns-in-None : goal.returns-in-None
returns-in-None c =
    zero_last c.args.question.now c.args.fates.now.items c.args.place c.requires.within (read_as c.args.fates.now.items c.args.place _ _ c.index.ensures c.in-Stays.is) (rw c.in-None.is at c.in_ok-less-in-Stays.ensures) _
    c.tried-in-None.ensures

pub returns-in-Zero : goal.returns-in-Zero
returns-in-Zero c = gone_last c.args.question.now c.args.fates.now.items c.args.place c.requires.within (read_as c.args.fates.now.items c.args.place _ _ c.index.ensures c.in-Zero.is) _ c.tried-in-Zero.ensures

pub returns-in-Gone : goal.returns-in-Gone
returns-in-Gone c = least_gone c.args.question.now c.args.fates.now.items c.args.place (read_as c.args.fates.now.items c.args.place _ _ c.index.ensures c.in-Gone.is)
