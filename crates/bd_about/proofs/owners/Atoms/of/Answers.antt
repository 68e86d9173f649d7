use Rattle.std.proofs.Common.{◌≡◌, ◌∙◌, None, ap, sym}
use Rattle.std.proofs.lemmas.List.{drop_all}
use Rattle.bd_about.specs.inner.Owned.{held, is_found, last_atom}
use Rattle.bd_about.proofs.Owned.{last_decides, one-atom}
use Rattle.bd_about.proofs.owners.Atoms.of.Goals as goal

pub returns : goal.returns
returns c = λ passes x.
    let f = c.args.formula.now in
    let l = c.loop-row in
    let items = c.as_slice-row-items.result.now in
    let done : held l.atoms x ≡ last_atom x None items = sym (ap (last_atom x (held l.atoms x)) (drop_all l.row-index items c.loop-row-test.false)) ∙ l.invariant x in
    ap (is_found passes) (done ∙ ap (last_atom x None) c.as_slice-row-items.ensures)
    ∙ last_decides _ _ passes f.atoms (one-atom f.cnf.vars f.atoms f.rows x)
