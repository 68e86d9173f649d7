use Rattle.std.proofs.Common.{◌≡◌, ◌+◌, ◌++◌, ◌∷◌, [], ℕ, suc, List, slice_get, Some, IsTrue, length, ap, sym, ◌∙◌, subst, arith, true≢false}
use Rattle.bd_model.specs.declared.table.Scalar.{Scalar}
use Rattle.bd_terms.specs.Denotation.{World}
use Rattle.bd_terms.specs.Reaches.{Reaches}
use Rattle.bd_function.specs.Tables.{world_of_tables}
use Rattle.bd_function.proofs.Flattening.{plain_reached}
use Rattle.bd_diverse.specs.inner.Rows.{AddsTerm}
use Rattle.bd_diverse.specs.inner.Spread.{Spreading}
use Rattle.bd_diverse.proofs.Rowing.{started}
use Rattle.bd_diverse.proofs.Spreading.{Spreading-skip, Spreading-start}
use Rattle.bd_diverse.proofs.Valuing.{term-spread}
use Rattle.bd_diverse.proofs.diverse.spread.Goals as goal
use Rattle.bd_diverse.proofs.diverse.spread.Goals.{then-has+in_ok-scalar, else-has}

pub loop-index-init : goal.loop-index-init
loop-index-init c =
    let o = c.args.old.now in
    let w = world_of_tables c.args.tables.now in
    let g = c.args.graph.now in
    subst (λ (l : List Scalar). Spreading o.positive o.bound w g c.args.root 0 l (world_of_tables c.in_ok-spread.spread.items)) (sym c.in_ok-done.ensures.items)
    (subst (λ (v : World). Spreading o.positive o.bound w g c.args.root 0 [] v)
    (λ j s. sym (ap (λ l. world_of_tables l s) c.in_ok-spread.ensures ∙ started c.args.tables.now s) j)
    (Spreading-start o.positive o.bound w g c.len.ensures.graph c.args.root))

pub loop-index-preserved : goal.loop-index-preserved
loop-index-preserved c =
    let o = c.args.old.now in
    let w = world_of_tables c.args.tables.now in
    let g = c.args.graph.now in
    let root = c.args.root in
    let graph = c.len.ensures.graph in
    let i = c.loop-index.index in
    let done = c.loop-index.done.items in
    let next : suc i ≡ i + 1 = omega arith in
    elim c.if-has.branch [
      | then-has+in_ok-scalar b ↦
          let r : Reaches g root i = subst (Reaches g root) c.id-id.ensures ((c.in_ok-marks.ensures.marks c.id-id.result).0 (sym c.has.ensures ∙ b.if-has.true)) in
          let there : slice_get g i ≡ Some b.node.result.now = ap (slice_get g) (sym c.id-id.ensures) ∙ b.node.ensures.node in
          let adds = subst (λ (l : List Scalar). AddsTerm w o l b.node.result.now (world_of_tables c.loop-index.spread.items) (world_of_tables b.spread_term.new.spread.items) b.in_ok-scalar.scalar) b.deref.ensures.value b.in_ok-scalar.ensures in
          let s = term-spread w o g graph root c.requires.root c.requires.memory c.requires.old i done (world_of_tables c.loop-index.spread.items) (world_of_tables b.spread_term.new.spread.items) c.loop-index.invariant r b.node.result.now b.in_ok-scalar.scalar there adds in
          let items : done ++ b.in_ok-scalar.scalar ∷ [] ≡ c.push.new.self.items = sym (c.in_ok-push.ensures.items ∙ ap (λ x. done ++ x ∷ []) b.scalar-is) in
          subst (λ (n : ℕ). Spreading o.positive o.bound w g root n c.push.new.self.items (world_of_tables c.if-has.spread.items)) next
          (subst (λ (l : List Scalar). Spreading o.positive o.bound w g root (suc i) l (world_of_tables c.if-has.spread.items)) items
          (subst (λ (v : World). Spreading o.positive o.bound w g root (suc i) (done ++ b.in_ok-scalar.scalar ∷ []) v) (sym (λ j. world_of_tables ((b.spread-is j).items))) s))
      | else-has b ↦
          let never : Reaches g root i → ⊥ = λ r. true≢false (sym ((c.in_ok-marks.ensures.marks c.id-id.result).1 (subst (Reaches g root) (sym c.id-id.ensures) r)) ∙ sym c.has.ensures ∙ b.if-has.false) in
          let s = Spreading-skip o.positive o.bound w g graph root i done (world_of_tables c.loop-index.spread.items) c.loop-index.invariant c.if-has.scalar
          (λ k node r there. plain_reached g graph root c.requires.memory k node r there) never in
          subst (λ (n : ℕ). Spreading o.positive o.bound w g root n c.push.new.self.items (world_of_tables c.if-has.spread.items)) next
          (subst (λ (l : List Scalar). Spreading o.positive o.bound w g root (suc i) l (world_of_tables c.if-has.spread.items)) (sym c.in_ok-push.ensures.items)
          (subst (λ (v : World). Spreading o.positive o.bound w g root (suc i) (done ++ c.if-has.scalar ∷ []) v) (sym (λ j. world_of_tables ((b.spread-is j).items))) s))
    ]
