use Rattle.std.proofs.Common.{◌∙◌, ap, sym, Some, cond}
use Rattle.bd_prop.specs.Values.{held}
use Rattle.bd_prop.proofs.Values.{atom_eq-is, lookup-held}
use Rattle.bd_prop.proofs.atom.AtomValues.set.Goals as goal

pub returns-clause-ok : goal.returns-clause-ok
returns-clause-ok c = λ q.
    let before = lookup-held c.self.inside.values.entries q ∙ ap (λ es. held es q) c.self.view_is in
    sym (lookup-held c.insert.new.self.entries q) ∙ c.in_ok-insert.ensures.updates.0 q
    ∙ (λ i. cond (atom_eq-is c.args.atom q i) (Some c.args.value) (before i))
