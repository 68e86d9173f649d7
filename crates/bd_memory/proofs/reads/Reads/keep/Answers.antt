use Rattle.std.proofs.Common.{◌∙◌, ap, sym, Some, cond}
use Rattle.bd_memory.specs.declared.reads.ReadKey.{ReadKey}
use Rattle.bd_memory.specs.inner.Reads.{known}
use Rattle.bd_memory.proofs.Known.{key_eq-is, lookup-key}
use Rattle.bd_memory.proofs.reads.Reads.keep.Goals as goal

pub returns : goal.returns
returns c = λ m a.
    let key : ReadKey = record { memory = m; address = a } in
    let new : ReadKey = record { memory = c.args.memory; address = c.args.address } in
    let before = lookup-key c.self.inside.words.entries key ∙ ap (λ es. known es m a) c.self.view_is in
    sym (lookup-key c.insert.new.self.entries key) ∙ c.in_ok-insert.ensures.updates.0 key
    ∙ (λ i. cond (key_eq-is new key i) (Some c.args.word) (before i))
