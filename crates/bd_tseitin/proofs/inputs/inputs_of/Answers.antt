use Rattle.std.proofs.Common.{◌≡◌, ◌≤◌, ◌∙◌, ℕ, Bool, List, length, get_or, cond, Some, subst, sym, ap, arith}
use Rattle.bd_prop.specs.Values.{held, is_atom}
use Rattle.bd_prop.specs.declared.atom.Atom.{Atom}
use Rattle.bd_prop.specs.declared.atom.Atom.TheVariants.{Edge}
use Rattle.std.proofs.lemmas.Option.{slice_get-get_or}
use Rattle.bd_cnf.specs.Assignment.{value_of}
use Rattle.bd_tseitin.specs.declared.row.AtomVar.{AtomVar}
use Rattle.bd_tseitin.specs.Rows.{AreApart}
use Rattle.bd_tseitin.proofs.Decoded.{AreInputs, AreInputs-start, AreInputs-more, rows_held, rows_agree}
use Rattle.bd_tseitin.proofs.inputs.inputs_of.Goals as goal

pub loop-row-init : goal.loop-row-init
loop-row-init c = AreInputs-start (value_of c.args.a.now) c.as_slice-row-items.result.now c.new-values.result c.new-values.ensures

pub loop-row-preserved : goal.loop-row-preserved
loop-row-preserved c =
    let rows = c.as_slice-row-items.result.now in
    let apart : AreApart (λ (r : AtomVar). r.atom) rows = subst (AreApart (λ (r : AtomVar). r.atom)) (sym c.as_slice-row-items.ensures) c.args.formula.now.rows.atoms in
    let row : AtomVar = get_or rows c.loop-row.row-index (record { atom = Edge 0 0; var = 0 }) in
    let set : (q : Atom) → held c.set.new.self q ≡ cond (is_atom row.atom q) (Some (value_of c.args.a.now row.var)) (held c.loop-row.values q) =
    λ q. c.in_ok-set.ensures.ok q ∙ ap (λ b. cond (is_atom row.atom q) (Some b) (held c.loop-row.values q)) c.value.ensures in
    AreInputs-more (value_of c.args.a.now) rows apart c.loop-row.row-index row c.loop-row.values c.set.new.self c.loop-row-test.true
    (slice_get-get_or rows c.loop-row.row-index _ c.loop-row-test.true) set c.loop-row.invariant

-- the values when all rows are read
ended : (assignment : ℕ → Bool) (given rows : List AtomVar) (k : ℕ) (values : List (Atom × Bool)) → given ≡ rows → k ≤ length given → length given ≤ k → AreInputs assignment given k values → AreInputs assignment rows (length rows) values
ended assignment given rows k values same low high is =
    let end : k ≡ length given = omega arith in
    subst (λ rs. AreInputs assignment rs (length rs) values) same (subst (λ n. AreInputs assignment given n values) end is)

pub returns-clause-rows : goal.returns-clause-rows
returns-clause-rows c =
    let a = value_of c.args.a.now in
    rows_held a c.args.formula.now.atoms c.loop-row.values (ended a c.as_slice-row-items.result.now c.args.formula.now.atoms c.loop-row.row-index c.loop-row.values c.as_slice-row-items.ensures c.loop-row.auto.row-index-end c.loop-row-test.false c.loop-row.invariant)

pub returns-clause-others : goal.returns-clause-others
returns-clause-others c =
    let a = value_of c.args.a.now in
    (ended a c.as_slice-row-items.result.now c.args.formula.now.atoms c.loop-row.row-index c.loop-row.values c.as_slice-row-items.ensures c.loop-row.auto.row-index-end c.loop-row-test.false c.loop-row.invariant).others

pub returns-clause-agree : goal.returns-clause-agree
returns-clause-agree c =
    let a = value_of c.args.a.now in
    rows_agree a c.args.formula.now.atoms c.loop-row.values (ended a c.as_slice-row-items.result.now c.args.formula.now.atoms c.loop-row.row-index c.loop-row.values c.as_slice-row-items.ensures c.loop-row.auto.row-index-end c.loop-row-test.false c.loop-row.invariant)
