use Rattle.std.proofs.Common.{◌∙◌, ap, sym, take, arith}
use Rattle.std.proofs.lemmas.List.{length-take-le, get_or-take, take-take}
use Rattle.bd_sim.specs.inner.Writes.{made_by, memory_after, written}
use Rattle.bd_sim.proofs.Chains.{chain-written, chain-past}
use Rattle.bd_sim.proofs.writes.Memories.last_write.Goals as goal

pub returns-then-place-count-clause-none : goal.returns-then-place-count-clause-none
returns-then-place-count-clause-none c none =
    let m = c.args.self.now in
    let front = take c.args.count m.writes.items in
    let size = length-take-le c.args.count m.writes.items (omega (arith, c.requires)) in
    ap (memory_after m c.args.count) c.in-Written.is
    ∙ chain-past m.state.now m.given.now front c.in-Written.place (omega (arith, size, c.if-place-count.true))
    ∙ sym (ap (memory_after m 0) c.in-Written.is)

pub returns-else-place-count-clause-made : goal.returns-else-place-count-clause-made
returns-else-place-count-clause-made c =
    let m = c.args.self.now in
    let front = take c.args.count m.writes.items in
    let w = c.index.result.now in
    let size = length-take-le c.args.count m.writes.items (omega (arith, c.requires)) in
    ap (memory_after m c.args.count) c.in-Written.is
    ∙ chain-written m.state.now m.given.now front c.in-Written.place w (omega (arith, size, c.if-place-count.false)) (get_or-take c.args.count m.writes.items c.in-Written.place w (omega (arith, c.if-place-count.false)) ∙ sym c.index.ensures)
    ∙ ap (λ ws. written m.state.now m.given.now (made_by m.state.now m.given.now ws) w) (take-take c.in-Written.place c.args.count m.writes.items (omega (arith, c.if-place-count.false)))
