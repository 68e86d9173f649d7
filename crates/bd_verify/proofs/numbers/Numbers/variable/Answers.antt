use Rattle.std.proofs.Common.{◌≡◌, ◌<◌, ◌+◌, cond, None, Some, sym, ◌∙◌, subst, ◌∷◌, [], length}
use Rattle.std.specs.Map.{lookup}
use Rattle.bd_prop.specs.declared.atom.Atom.{Atom}
use Rattle.bd_prop.specs.declared.atom.Atom.TheVariants as atom
use Rattle.bd_prop.proofs.Same.{atom_eq}
use Rattle.bd_prop.proofs.Values.{atom_eq-is}
use Rattle.bd_tseitin.specs.Rows.{AreRows}
use Rattle.bd_tseitin.proofs.Further.{AreRows-push}
use Rattle.bd_verify.specs.Kept.{AddsRows, edge_row}
use Rattle.bd_verify.specs.inner.Numbers.{Finds, most_variables}
use Rattle.bd_verify.proofs.AddedRows.{AddsRows-none, AddsRows-one, few-more}
use Rattle.bd_verify.proofs.AtomMap.{Finds-more, lookup-atom}
use Rattle.bd_verify.proofs.numbers.Numbers.variable.Goals as goal

pub returns-in-Some-clause-row : goal.returns-in-Some-clause-row
returns-in-Some-clause-row c =
    let n = c.args.self.now in
    let a : Atom = atom.Edge c.args.edge.now.from c.args.edge.now.to in
    let found : lookup (atom_eq a) n.found.entries ≡ Some c.in-Some.var.now = sym c.in-Some.ensures.value in
    c.requires.finds.found a c.in-Some.var.now (sym (lookup-atom n.found.entries a) ∙ found)

pub returns-in-Some-clause-rows : goal.returns-in-Some-clause-rows
returns-in-Some-clause-rows c = AddsRows-none (c.args.edge.now ∷ []) c.args.self.now.vars c.args.self.now.atoms c.requires.rows

pub returns-clause-rows : goal.returns-clause-rows
returns-clause-rows c =
    let n = c.args.self.now in
    let edge = c.args.edge.now in
    let a : Atom = atom.Edge edge.from edge.to in
    let none : lookup (atom_eq a) n.found.entries ≡ None = sym c.in_default.ensures.value in
    subst (AddsRows (edge ∷ []) n.vars n.atoms (n.vars + 1)) (sym c.in_ok-push.ensures.ok)
    (AddsRows-one edge n.vars n.atoms c.requires.rows (c.requires.finds.missing a (sym (lookup-atom n.found.entries a) ∙ none)))

pub returns-clause-numbered : goal.returns-clause-numbered
returns-clause-numbered c =
    let n = c.args.self.now in
    let var = n.vars + 1 in
    let edge = c.args.edge.now in
    let a : Atom = atom.Edge edge.from edge.to in
    let old = n.found.entries in
    let new = c.insert.new.self.entries in
    let none : lookup (atom_eq a) old ≡ None = sym c.in_default.ensures.value in
    record {
      rows = subst (AreRows var) (sym c.in_ok-push.ensures.ok) (AreRows-push n.vars n.atoms a c.requires.rows (c.requires.finds.missing a (sym (lookup-atom old a) ∙ none)));
      finds = subst (Finds new) (sym c.in_ok-push.ensures.ok)
          (Finds-more old new n.atoms a var c.requires.finds (λ q.
          sym (lookup-atom new q) ∙ c.in_ok-insert.ensures.updates.0 q ∙ (λ j. cond (atom_eq-is a q j) (Some var) (lookup-atom old q j))));
      few = subst (λ l. var < most_variables + length l) (sym c.in_ok-push.ensures.ok) (few-more most_variables n.vars n.atoms (edge_row edge var) c.requires.few);
    }
