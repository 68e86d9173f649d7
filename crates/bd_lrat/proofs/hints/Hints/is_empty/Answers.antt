use Rattle.std.proofs.Common.{sym, ap, ◌∙◌, length, ◌==◌}
use Rattle.bd_lrat.proofs.HintLists.{length-hints_from}
use Rattle.bd_lrat.proofs.hints.Hints.is_empty.Goals as goal

pub returns : goal.returns
returns c = c.is_empty.ensures ∙ ap (λ n. n == 0) (c.self.inside.ids.ok.0 ∙ sym (length-hints_from 0 c.self.inside.ids.items c.self.inside.rats.items) ∙ ap length c.self.view_is)
