use Rattle.std.proofs.Common.{◌∙◌, ◌++◌, ◌∷◌, [], ap, refl, arith}
use Rattle.bd_sim.specs.declared.writes.Chain.TheVariants as chain
use Rattle.bd_sim.specs.declared.writes.Write.{Write}
use Rattle.bd_sim.specs.declared.writes.Memories.{Memories}
use Rattle.bd_sim.specs.inner.Writes.{chain_in, made_by}
use Rattle.bd_sim.proofs.Chains.{chain-last, kept-stays}
use Rattle.bd_sim.proofs.writes.Memories.write.Goals as goal

pub returns-clause-value : goal.returns-clause-value
returns-clause-value c =
    let m = c.args.self.now in
    let w : Write = record { below = c.args.below; slot = c.args.slot } in
    ap (λ ws. chain_in m.state.now m.given.now (made_by m.state.now m.given.now ws) (chain.Written c.len-place.result)) c.in_ok-push.ensures.items
    ∙ ap (λ n. chain_in m.state.now m.given.now (made_by m.state.now m.given.now (m.writes.items ++ w ∷ [])) (chain.Written n)) (omega (arith, c.len-place.ensures, m.writes.ok.0))
    ∙ chain-last m.state.now m.given.now m.writes.items w

pub returns-clause-grows : goal.returns-clause-grows
returns-clause-grows c =
    let m = c.args.self.now in
    let w : Write = record { below = c.args.below; slot = c.args.slot } in
    let n : Memories = record { state = m.state; given = m.given; writes = c.push.new.self } in
    (refl, refl, kept-stays m n w refl refl c.in_ok-push.ensures.items)
