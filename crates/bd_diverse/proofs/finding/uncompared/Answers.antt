use Rattle.std.proofs.Common.{◌≡◌, ◌+◌, ◌⊎◌, ◌↔◌, Contains, List, true, false, ap, sym, ◌∙◌, subst, slice_get, Some, arith, length, inl, inr}
use Rattle.bd_terms.specs.declared.node.Sym.{Sym}
use Rattle.bd_diverse.specs.inner.Applied.{AppliesSymbol, is_reached}
use Rattle.bd_diverse.proofs.Applying.{Collects, Collects-more, Collects-passed}
use Rattle.bd_diverse.proofs.finding.uncompared.Goals as goal
use Rattle.bd_diverse.proofs.finding.uncompared.Goals.{then-is_any+in_ok-add_unless, else-is_any}

pub loop-index-preserved : goal.loop-index-preserved
loop-index-preserved c =
    let g = c.args.graph.now in
    let test = is_reached c.args.marks.now in
    let i = c.loop-index.index in
    let P : Sym → Type 0 = λ s. ¬ Contains c.args.compared.now.keys s in
    elim c.if-is_any.branch [
      | then-is_any+in_ok-add_unless w ↦
          subst (λ (l : List Sym). Collects g test P (i + 1) l) (sym (λ j. (w.symbols-is j).keys))
          (Collects-more g test P i c.loop-index.symbols.keys w.add_unless.new.symbols.keys w.node.result.now c.loop-index.invariant
          (ap (slice_get g) (sym w.id.ensures) ∙ w.node.ensures.node) (sym c.is_any.ensures ∙ w.if-is_any.true) w.in_ok-add_unless.ensures)
      | else-is_any w ↦
          subst (λ (l : List Sym). Collects g test P (i + 1) l) (sym (λ j. (w.symbols-is j).keys))
          (Collects-passed g test P i c.loop-index.symbols.keys c.loop-index.invariant (sym c.is_any.ensures ∙ w.if-is_any.false))
    ]

pub returns : goal.returns
returns c =
    let last : c.loop-index.index ≡ length c.args.graph.now = omega arith in
    subst (λ i. Collects c.args.graph.now (is_reached c.args.marks.now) (λ s. ¬ Contains c.args.compared.now.keys s) i c.loop-index.symbols.keys) last c.loop-index.invariant
