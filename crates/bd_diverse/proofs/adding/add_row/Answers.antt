use Rattle.std.proofs.Common.{◌≡◌, ◌<◌, ◌++◌, ◌∷◌, [], List, length, ap, sym, ◌∙◌, arith}
use Rattle.std.proofs.lemmas.Result.{on_ok_weaker}
use Rattle.bd_terms.specs.declared.node.Sym.{Sym}
use Rattle.bd_function.specs.declared.symbol_tables.SymTable.{SymTable}
use Rattle.bd_function.specs.Tables.{world_of_tables}
use Rattle.bd_diverse.specs.inner.Rows.{place_of, row_pushed}
use Rattle.bd_diverse.specs.inner.Spread.{with_row}
use Rattle.bd_diverse.proofs.Rowing.{no_rows, pushed-new, pushed-there}
use Rattle.bd_diverse.proofs.adding.add_row.Goals as goal
use Rattle.bd_diverse.proofs.adding.add_row.Goals.{then-place-len+in_ok-push, else-place-len}

pub returns : goal.returns
returns c =
    let old = c.args.tables.now.items in
    let s = c.args.sym in
    let r = c.args.row in
    let at : c.place-place.result ≡ place_of old s = c.place-place.ensures.place ∙ ap (λ (l : List SymTable). place_of l s) c.deref.ensures.value in
    let grown : (t : Sym) → world_of_tables (row_pushed c.if-place-len.tables.items c.place-place.result r) t ≡ with_row (world_of_tables old) s r t =
    λ t. elim c.if-place-len.branch [
      | then-place-len+in_ok-push w ↦
          let after : c.place-place.result ≡ length old = omega (arith, ap length c.deref.ensures.value, c.deref.ensures.len, c.len.ensures, w.if-place-len.true) in
          let items : c.if-place-len.tables.items ≡ old ++ no_rows s ∷ [] = (λ j. (w.tables-is j).items) ∙ w.in_ok-push.ensures.items ∙ ap (λ x. old ++ x ∷ []) w.empty.ensures in
          (λ j. world_of_tables (row_pushed (items j) (after j) r) t) ∙ pushed-new old s r t (sym at ∙ after)
      | else-place-len w ↦
          let inside : place_of old s < length old = omega (arith, at, ap length c.deref.ensures.value, c.deref.ensures.len, c.len.ensures, c.place-place.ensures.inside, w.if-place-len.false) in
          (λ j. world_of_tables (row_pushed ((w.tables-is j).items) (at j) r) t) ∙ pushed-there old s r t inside
    ] in
    on_ok_weaker c.push_row.result (λ e t. ap (λ (l : List SymTable). world_of_tables l t) e ∙ grown t) c.push_row.ensures
