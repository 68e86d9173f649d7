use Rattle.std.proofs.Common.{◌≡◌, ◌+◌, ◌⊎◌, ◌↔◌, Contains, List, true, false, ap, sym, ◌∙◌, subst, slice_get, Some, arith, length, inl, inr}
use Rattle.bd_terms.specs.declared.node.Sym.{Sym}
use Rattle.bd_diverse.specs.inner.Applied.{AppliesSymbol, is_compared}
use Rattle.bd_diverse.proofs.Applying.{Collects, Collects-more, Collects-passed, unconditional}
use Rattle.bd_diverse.proofs.finding.compared.Goals as goal
use Rattle.bd_diverse.proofs.finding.compared.Goals.{then-marks-index+in_ok-add, else-marks-index}

pub loop-index-preserved : goal.loop-index-preserved
loop-index-preserved c =
    let g = c.args.graph.now in
    let test = is_compared c.args.marks.now in
    let i = c.loop-index.index in
    let P : Sym → Type 0 = λ s. Unit {0} in
    elim c.if-marks-index.branch [
      | then-marks-index+in_ok-add w ↦
          subst (λ (l : List Sym). Collects g test P (i + 1) l) (sym (λ j. (w.found-is j).keys))
          (Collects-more g test P i c.loop-index.found.keys w.add.new.symbols.keys w.node.result.now c.loop-index.invariant
          (ap (slice_get g) (sym w.id.ensures) ∙ w.node.ensures.node) w.if-marks-index.true (unconditional _ _ _ w.in_ok-add.ensures))
      | else-marks-index w ↦
          subst (λ (l : List Sym). Collects g test P (i + 1) l) (sym (λ j. (w.found-is j).keys))
          (Collects-passed g test P i c.loop-index.found.keys c.loop-index.invariant w.if-marks-index.false)
    ]

pub returns : goal.returns
returns c s =
    let last : c.loop-index.index ≡ length c.args.graph.now = omega arith in
    let h = subst (λ i. Collects c.args.graph.now (is_compared c.args.marks.now) (λ s. Unit {0}) i c.loop-index.found.keys) last c.loop-index.invariant s in
    (λ k. (h.0 k).0, λ a. h.1 (a, tt))
