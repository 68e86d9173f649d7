use Rattle.std.proofs.Common.{◌≡◌, ◌<◌, ◌∙◌, ℕ, Bool, List, ap}
use Rattle.std.specs.Prelude.{count_by, slice_index_or}
use Rattle.std.specs.List.{list_any}
use Rattle.std.proofs.lemmas.Result.{IfOk-weaker}
use Rattle.bd_cnf.specs.Literal.{Literal}
use Rattle.bd_terms.specs.declared.node.Sym.TheVariants.{Function}
use Rattle.bd_about.specs.Equations.{clauses_of, is_atom_of, stands_for}
use Rattle.bd_about.specs.inner.Owned.{is_held_for, is_noted, is_owned}
use Rattle.bd_about.specs.inner.Tallied.{no_tally}
use Rattle.bd_about.proofs.equations.clause_counts.Goals as goal

pub returns-clause-counts : goal.returns-clause-counts
returns-clause-counts c =
    let formula = c.args.formula.now in
    let owners = c.args.owners.now in
    let held = c.in_ok-atoms.atoms in
    let same : (f : ℕ) → is_held_for owners held (Function f) ≡ stands_for (is_owned owners) formula.atoms (Function f) =
    λ f i var. c.in_ok-atoms.ensures (is_atom_of (is_owned owners) (Function f)) var i in
    IfOk-weaker c.clause_tallies.result
    (λ tallies. (f : ℕ) → f < c.args.functions → (slice_index_or tallies.items f no_tally).count ≡ count_by (is_noted owners held (Function f)) c.clauses.result.now)
    (λ tallies. (f : ℕ) → f < c.args.functions → (slice_index_or tallies.items f no_tally).count ≡ clauses_of (is_owned owners) formula.atoms formula.cnf.clauses (Function f))
    (λ tallies h f inside.
    h f inside ∙ ap (count_by (is_noted owners held (Function f))) c.clauses.ensures.value
    ∙ ap (λ (p : ℕ → Bool). count_by (λ (clause : List Literal). list_any (λ (l : Literal). p l.var) clause) formula.cnf.clauses) (same f))
    c.clause_tallies.ensures.counts
