use Rattle.std.proofs.Common.{◌∙◌, ap, sym, Some, cond}
use Rattle.bd_equality.specs.inner.Sets.{done_in, known}
use Rattle.bd_equality.proofs.Known.{key_eq-is, lookup-key}
use Rattle.bd_equality.proofs.settled.Settled.keep.Goals as goal

pub returns : goal.returns
returns c = λ w.
    let before = lookup-key c.self.inside.nodes.entries w ∙ ap (λ es. known es w) c.self.view_is in
    sym (lookup-key c.insert.new.self.entries w) ∙ c.in_ok-insert.ensures.updates.0 w
    ∙ (λ j. cond (key_eq-is c.args.wanted.now w j) (Some (done_in c.args.way c.args.node)) (before j))
