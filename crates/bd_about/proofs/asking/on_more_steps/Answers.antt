use Rattle.std.proofs.Common.{arith}
use Rattle.bd_model.specs.DesignView.{design_view}
use Rattle.bd_about.proofs.Changed.{more_steps_lawful}
use Rattle.bd_about.proofs.asking.on_more_steps.Goals as goal

pub on_counts-requires : goal.on_counts-requires
on_counts-requires c = more_steps_lawful (design_view c.args.design) c.requires (omega arith)
