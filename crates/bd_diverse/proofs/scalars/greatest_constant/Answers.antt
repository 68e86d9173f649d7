use Rattle.std.proofs.Common.{◌≡◌, ◌≤◌, ◌<◌, ◌+◌, ◌++◌, ◌∷◌, inl, inr, [], List, length, take, get_or, ap, sym, ◌∙◌, subst, arith}
use Rattle.std.proofs.lemmas.Bool.Decides.{nat_tests}
use Rattle.std.proofs.lemmas.Grind.{common_steps}
use Rattle.std.proofs.lemmas.List.{take_more}
use Rattle.bd_model.specs.declared.table.Table.{Table}
use Rattle.bd_model.specs.Table.{at}
use Rattle.bd_model.specs.Value.{scalar_word}
use Rattle.bd_terms.specs.Denotation.{applied}
use Rattle.bd_function.specs.declared.symbol_tables.SymTable.{SymTable}
use Rattle.bd_function.specs.Tables.{world_of_tables}
use Rattle.bd_diverse.proofs.Rowing.{world-push}
use Rattle.bd_diverse.proofs.scalars.greatest_constant.Goals as goal

pub loop-table-preserved : goal.loop-table-preserved
loop-table-preserved c s =
    let ts = c.args.tables.now in
    let i = c.loop-table.table-index in
    let d = c.table-item.result in
    let inside : i < length ts = omega arith in
    let whole : take (i + 1) ts ≡ take i ts ++ get_or ts i d ∷ [] = take_more ts i d inside in
    let before = c.loop-table.invariant s in
    let item : scalar_word (at (get_or ts i d).table []) ≡ c.word.result = ap (λ (t : SymTable). scalar_word (at t.table [])) (sym c.table-item.is) ∙ ap scalar_word (sym c.at.ensures) ∙ sym c.word.ensures in
    let grows : c.loop-table.most ≤ c.max-most.result = grind (arith, nat_tests, common_steps) in
    let covers : c.word.result ≤ c.max-most.result = grind (arith, nat_tests, common_steps) in
    subst (λ (l : List SymTable). applied (world_of_tables l) s [] ≤ c.max-most.result) (sym whole)
    (elim (world-push (take i ts) (get_or ts i d) s) [
      | inl e ↦ let k = ap (λ (t : Table). scalar_word (at t [])) e in omega (arith, k, before, grows)
      | inr e ↦ let k = ap (λ (t : Table). scalar_word (at t [])) e in omega (arith, k, item, covers)
    ])
