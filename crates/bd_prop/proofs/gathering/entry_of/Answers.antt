use Rattle.std.proofs.Common.{[], ◌∙◌}
use Rattle.std.proofs.lemmas.List.{get_or_default}
use Rattle.bd_prop.proofs.gathering.entry_of.Goals as goal

pub returns : goal.returns
returns c = c.as_slice.ensures ∙ c.index-entries-id.is ∙ get_or_default c.args.entries.now c.args.id c.index-entries-id.result [] c.requires
