use Rattle.std.proofs.Common.{cond, get_or, take, Some, sym, ◌∙◌, subst}
use Rattle.std.proofs.lemmas.List.{take_more}
use Rattle.bd_prop.specs.declared.atom.Atom.TheVariants.{Edge}
use Rattle.bd_prop.proofs.Values.{atom_eq-is}
use Rattle.bd_tseitin.specs.declared.row.AtomVar.{AtomVar}
use Rattle.bd_verify.specs.inner.Numbers.{Finds}
use Rattle.bd_verify.proofs.AtomMap.{Finds-more, lookup-atom}
use Rattle.bd_verify.proofs.numbers.found.Goals as goal

pub loop-row-preserved : goal.loop-row-preserved
loop-row-preserved c =
    let rows = c.args.atoms.now in
    let i = c.loop-row.row-index in
    let dft : AtomVar = record { atom = Edge 0 0; var = 0 } in
    let row : AtomVar = get_or rows i dft in
    let old = c.loop-row.found.entries in
    let new = c.insert.new.self.entries in
    subst (Finds new) (sym (take_more rows i dft c.loop-row-test.true))
    (Finds-more old new (take i rows) row.atom row.var c.loop-row.invariant (λ q.
    sym (lookup-atom new q) ∙ c.in_ok-insert.ensures.updates.0 q ∙ (λ j. cond (atom_eq-is row.atom q j) (Some row.var) (lookup-atom old q j))))
