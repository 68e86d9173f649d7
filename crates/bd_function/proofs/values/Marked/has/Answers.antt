use Rattle.std.proofs.Common.{ap, ◌∙◌}
use Rattle.bd_function.specs.Values.{is_marked}
use Rattle.bd_function.proofs.values.Marked.has.Goals as goal

pub returns : goal.returns
returns c = c.contains.ensures ∙ ap (λ l. is_marked l c.args.var) c.self.view_is
