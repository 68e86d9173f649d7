use Rattle.std.proofs.Common.{ap, ◌∙◌, true, cond, ◌==◌}
use Rattle.bd_function.specs.Values.{is_marked}
use Rattle.bd_function.proofs.values.Marked.insert.Goals as goal

pub returns-clause-ok : goal.returns-clause-ok
returns-clause-ok c = λ q. c.in_ok-insert.ensures.updates.0 q ∙ ap (λ l. cond (c.args.var == q) true (is_marked l q)) c.self.view_is
