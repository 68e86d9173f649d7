use Rattle.std.proofs.Common.{◌≡◌, ◌∙◌, ℕ, Bool, true, List, ap, sym, subst}
use Rattle.bd_prop.specs.declared.atom.Atom.{Atom}
use Rattle.bd_prop.specs.Truth.{truth_at}
use Rattle.bd_cnf.specs.Literal.{Literal}
use Rattle.bd_cnf.specs.Clause.{Satisfies}
use Rattle.bd_cnf.specs.Problem.{Problem, problem, AreWithin}
use Rattle.bd_tseitin.specs.declared.row.AtomVar.{AtomVar}
use Rattle.bd_tseitin.specs.Rows.{AreRows, Agree, HasAtom}
use Rattle.bd_tseitin.specs.Form.{AreLocal, IsTseitin, Extends}
use Rattle.bd_tseitin.proofs.Local.{are_local}
use Rattle.bd_tseitin.proofs.Laws.{within_form, AreRows-form, denoted, denoted_satisfies, denoted_agrees, value-denoted, satisfied_holds, rows_exact}
use Rattle.bd_tseitin.proofs.form.clauses.Goals as goal

pub new-requires : goal.new-requires
new-requires c =
    let parts = c.in_ok-parts.parts in
    subst (AreWithin parts.vars) (sym c.from_vec.ensures)
    (within_form c.args.prop.now c.args.root parts.vars parts.clauses.items parts.atoms.items c.in_ok-parts.ensures.graph c.requires c.in_ok-parts.ensures.form)

pub invariant_of-result : goal.invariant_of-result
invariant_of-result c =
    let parts = c.in_ok-parts.parts in
    let are : AreRows parts.vars parts.atoms.items =
    AreRows-form c.args.prop.now c.args.root parts.vars parts.clauses.items parts.atoms.items c.in_ok-parts.ensures.graph c.requires c.in_ok-parts.ensures.form c.in_ok-parts.ensures.different in
    record {
      rows = subst (λ (p : Problem). AreRows p.vars c.from_vec-2.result) (sym c.new.ensures) (subst (AreRows parts.vars) (sym c.from_vec-2.ensures) are);
    }

pub returns-clause-form : goal.returns-clause-form
returns-clause-form c =
    let prop = c.args.prop.now in
    let root = c.args.root in
    let parts = c.in_ok-parts.parts in
    let graph = c.in_ok-parts.ensures.graph in
    let form = c.in_ok-parts.ensures.form in
    let P : ℕ → List (List Literal) → List AtomVar → Type 0 = λ vars clauses rows.
    (t : IsTseitin prop root vars clauses rows) × AreLocal prop root t.literal_of clauses × ((v : Atom → Bool) → truth_at v prop root ≡ true → Extends prop root v clauses rows t.literal_of) in
    let made : P parts.vars parts.clauses.items parts.atoms.items = (
      form,
      are_local prop root parts.vars parts.clauses.items parts.atoms.items form,
      λ v holds. record {
        assignment = denoted prop root parts.vars parts.clauses.items parts.atoms.items graph c.requires form v;
        satisfies = denoted_satisfies prop root parts.vars parts.clauses.items parts.atoms.items graph c.requires form v holds;
        agrees = denoted_agrees prop root parts.vars parts.clauses.items parts.atoms.items graph c.requires form v;
        denotes = value-denoted prop root parts.vars parts.clauses.items parts.atoms.items graph c.requires form v;
      },
    ) in
    subst (λ (p : Problem). P p.vars p.clauses c.from_vec-2.result) (sym (c.new.ensures ∙ ap (problem parts.vars) c.from_vec.ensures))
    (subst (P parts.vars parts.clauses.items) (sym c.from_vec-2.ensures) made)

pub returns-clause-inputs : goal.returns-clause-inputs
returns-clause-inputs c = λ a v sat agree.
    let parts = c.in_ok-parts.parts in
    let same : c.new.result.clauses ≡ parts.clauses.items = ap (λ (p : Problem). p.clauses) c.new.ensures ∙ c.from_vec.ensures in
    satisfied_holds c.args.prop.now c.args.root parts.vars parts.clauses.items parts.atoms.items c.in_ok-parts.ensures.graph c.requires c.in_ok-parts.ensures.form a v
    (subst (Satisfies a) same sat) (subst (Agree a v) c.from_vec-2.ensures agree)

pub returns-clause-atoms : goal.returns-clause-atoms
returns-clause-atoms c = λ a.
    let parts = c.in_ok-parts.parts in
    let exact = rows_exact c.args.prop.now c.args.root parts.vars parts.clauses.items parts.atoms.items c.in_ok-parts.ensures.graph c.requires c.in_ok-parts.ensures.form a in
    (λ has. exact.0 (subst (λ rows. HasAtom rows a) c.from_vec-2.ensures has), λ up. subst (λ rows. HasAtom rows a) (sym c.from_vec-2.ensures) (exact.1 up))
