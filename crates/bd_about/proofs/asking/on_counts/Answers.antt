use Rattle.bd_about.proofs.asking.on_counts.Goals as goal

pub found-requires : goal.found-requires
found-requires c = rw c.with_counts-changed.ensures c.requires
