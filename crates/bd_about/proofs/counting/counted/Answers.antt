use Rattle.std.proofs.Common.{◌≡◌, ◌<◌, ◌∙◌, ℕ, Contains, ap, subst}
use Rattle.std.specs.Prelude.{slice_index_or}
use Rattle.std.proofs.lemmas.Result.{IfOk-weaker}
use Rattle.bd_about.specs.Applications.{AreCountsOf}
use Rattle.bd_about.specs.Equations.{is_variable_of}
use Rattle.bd_about.specs.inner.Counted.{AreItems, last_count}
use Rattle.bd_about.specs.inner.Owned.{is_owned}
use Rattle.bd_about.proofs.RowCounts.{are-counts}
use Rattle.bd_about.proofs.counting.counted.Goals as goal

pub returns : goal.returns
returns c =
    let flat = c.args.flat.now in
    let formula = c.args.formula.now in
    let edges = c.args.edges.now in
    let among = c.args.symbols.now in
    let owners = c.args.owners.now in
    let rows = c.in_ok-rows.rows.items in
    let es = c.in_ok-equations.equations.items in
    let cs = c.in_ok-clauses.clauses.items in
    let same : is_owned owners ≡ is_variable_of flat.syms = λ i s x. c.requires.owners s x i in
    let known : (f : ℕ) → f < c.args.functions → slice_index_or rows f 0 ≡ last_count f 0 flat.syms =
    λ f inside. c.in_ok-rows.ensures.counts f inside ∙ ap (last_count f 0) c.as_slice.ensures in
    IfOk-weaker c.with_positive.result (AreItems c.as_slice-2.result.now c.as_slice-3.result.now c.as_slice-4.result.now among)
    (AreCountsOf c.args.functions (Contains among) flat.syms edges formula.cnf.clauses formula.atoms)
    (λ applied h.
    are-counts c.args.functions flat.syms edges formula.cnf.clauses formula.atoms (is_owned owners) same flat.flat.once rows es cs c.in_ok-rows.ensures.size known c.in_ok-equations.ensures.counts
    c.in_ok-clauses.ensures.counts among applied
    (subst (λ l. AreItems l es cs among applied) c.as_slice-2.ensures.value
    (subst (λ l. AreItems c.as_slice-2.result.now l cs among applied) c.as_slice-3.ensures.value
    (subst (λ l. AreItems c.as_slice-2.result.now c.as_slice-3.result.now l among applied) c.as_slice-4.ensures.value h))))
    c.with_positive.ensures
