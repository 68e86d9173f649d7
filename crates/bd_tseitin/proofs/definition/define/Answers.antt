use Rattle.std.proofs.Common.{sym, subst}
use Rattle.std.proofs.lemmas.Result.{on_ok_weaker}
use Rattle.bd_tseitin.specs.Definition.{and_clauses, definition, or_clauses}
use Rattle.bd_tseitin.specs.inner.Step.{known, Pushes}
use Rattle.bd_tseitin.proofs.Joined.{known_is}
use Rattle.bd_tseitin.proofs.definition.define.Goals as goal

pub returns-in-And : goal.returns-in-And
returns-in-And c =
    let ls = c.args.literals.now in
    let old = c.args.clauses.now.items in
    let new = c.define_and.new.clauses.items in
    on_ok_weaker c.define_and.result
    (λ made. subst (λ n. Pushes old (definition (known ls) c.args.gate n) new) (sym c.in-And.is)
    (subst (λ ds. Pushes old ds new) (λ i. and_clauses c.args.gate (known_is ls c.in-And.a _ c.literal-a.ensures i) (known_is ls c.in-And.b _ c.literal-b.ensures i)) made))
    c.define_and.ensures

pub returns-in-Or : goal.returns-in-Or
returns-in-Or c =
    let ls = c.args.literals.now in
    let old = c.args.clauses.now.items in
    let new = c.define_or.new.clauses.items in
    on_ok_weaker c.define_or.result
    (λ made. subst (λ n. Pushes old (definition (known ls) c.args.gate n) new) (sym c.in-Or.is)
    (subst (λ ds. Pushes old ds new) (λ i. or_clauses c.args.gate (known_is ls c.in-Or.a _ c.literal-a-in-Or.ensures i) (known_is ls c.in-Or.b _ c.literal-b-in-Or.ensures i)) made))
    c.define_or.ensures

pub returns-in-Ite : goal.returns-in-Ite
returns-in-Ite c =
    let ls = c.args.literals.now in
    let old = c.args.clauses.now.items in
    let new = c.define_tree.new.clauses.items in
    on_ok_weaker c.define_tree.result
    (λ made. subst (λ n. Pushes old (definition (known ls) c.args.gate n) new) (sym c.in-Ite.is) made)
    c.define_tree.ensures
