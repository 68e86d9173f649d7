use Rattle.std.proofs.Common.{◌≡◌, ◌+◌, ◌<◌, Contains, List, ℕ, get_or, length, take, ap, sym, ◌∙◌, subst, arith, true≢false}
use Rattle.std.proofs.lemmas.List.{take_all}
use Rattle.bd_function.specs.declared.flat.FlatRow.{FlatRow}
use Rattle.bd_function.specs.declared.flat.FlatSym.{FlatSym}
use Rattle.bd_diverse.specs.Marked.{HasVariable}
use Rattle.bd_diverse.proofs.Marking.{Marks, MarksSymbols, MarksSymbols-more, MarksSymbols-passed}
use Rattle.bd_diverse.proofs.finding.marked.Goals as goal
use Rattle.bd_diverse.proofs.finding.marked.Goals.{then-has+in_ok-mark_rows, else-has}

pub loop-symbol-preserved : goal.loop-symbol-preserved
loop-symbol-preserved c =
    let p = c.args.positive.now in
    let syms = c.as_slice-symbol-items.result.now in
    let i = c.loop-symbol.symbol-index in
    let d = c.symbol-item.result in
    let item : d ≡ get_or syms i d = c.symbol-item.is in
    let inside : i < length syms = omega arith in
    elim c.if-has.branch [
      | then-has+in_ok-mark_rows w ↦
          subst (λ (l : List ℕ). MarksSymbols p (take (i + 1) syms) l) (sym w.marked-is)
          (MarksSymbols-more p c.loop-symbol.marked syms i d inside c.loop-symbol.invariant w.mark_rows.new.marked
          (subst (λ (x : FlatSym). Contains p x.sym) item (c.has.ensures.0 w.if-has.true))
          (subst (λ (rows : List FlatRow). Marks c.loop-symbol.marked w.mark_rows.new.marked (HasVariable rows)) (w.as_slice.ensures ∙ ap (λ (x : FlatSym). x.rows) item) w.in_ok-mark_rows.ensures))
      | else-has w ↦
          subst (λ (l : List ℕ). MarksSymbols p (take (i + 1) syms) l) (sym w.marked-is)
          (MarksSymbols-passed p c.loop-symbol.marked syms i d inside c.loop-symbol.invariant
          (λ k. true≢false (sym (c.has.ensures.1 (subst (λ (x : FlatSym). Contains p x.sym) (sym item) k)) ∙ w.if-has.false)))
    ]

pub returns : goal.returns
returns c =
    subst (λ (l : List FlatSym). MarksSymbols c.args.positive.now l c.loop-symbol.marked)
    (take_all c.loop-symbol.symbol-index c.as_slice-symbol-items.result.now (omega arith) ∙ c.as_slice-symbol-items.ensures) c.loop-symbol.invariant
