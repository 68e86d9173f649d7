use Rattle.std.proofs.Common.{◌≡◌, ◌∙◌, take, sym, subst, inl, inr}
use Rattle.std.specs.Prelude.{◌⊎◌}
use Rattle.bd_cnf.proofs.Literals.{literal_eq-true}
use Rattle.bd_watch.proofs.ThirdLiterals.{HasBesides, taken_more, besides_same}
use Rattle.bd_watch.proofs.load.third.Goals.{then-is-via-then-is, then-is-via-else-is+then-is-2}
use Rattle.bd_watch.proofs.load.third.Goals as goal

pub loop-lit-preserved-then-is : goal.loop-lit-preserved-then-is
loop-lit-preserved-then-is c =
    let lits = c.args.lits.now in
    let l = c.lit-item.result in
    let one : (l ≡ c.args.first) ⊎ (l ≡ c.args.second) = elim c.then-is.branch [
      | then-is-via-then-is w ↦ inl (sym c.of-packed.ensures ∙ literal_eq-true c.of-packed.result c.args.first (sym c.is.ensures ∙ w.if-is.true))
      | then-is-via-else-is+then-is-2 w ↦ inr (sym c.of-packed.ensures ∙ literal_eq-true c.of-packed.result c.args.second (sym w.is-else-is.ensures ∙ w.if-is-2.true))
    ] in
    subst (λ part. HasBesides part c.args.first c.args.second c.loop-lit.third) (sym (taken_more lits c.loop-lit.lit-index l c.loop-lit-test.true c.lit-item.is))
    (besides_same (take c.loop-lit.lit-index lits) c.args.first c.args.second l c.loop-lit.third c.loop-lit.invariant one)
