use Rattle.std.proofs.Common.{◌≡◌, ◌≢◌, ◌+◌, ◌<◌, ◌≤◌, ◌++◌, All, AllPairs, length, map, ap, sym, ◌∙◌, subst, arith}
use Rattle.bd_cnf.specs.Problem.{AreWithin}
use Rattle.bd_transitive.specs.Clauses.{AreTriangleClauses}
use Rattle.bd_tseitin.specs.Rows.{AreRows}
use Rattle.bd_verify.specs.Kept.{AddsEdges, AddsRows, AreVariables, denial}
use Rattle.bd_verify.specs.inner.Numbers.{most_variables}
use Rattle.bd_verify.proofs.AddedRows.{AddsRows-among, AddsRows-keeps, AddsRows-trans, AreVariables-all, AreVariables-different, AreVariables-grown, among-both}
use Rattle.bd_verify.proofs.EdgesWithin.{edges-within}
use Rattle.bd_verify.proofs.edges.with_edges.Goals as goal

pub of-requires-clause-rows : goal.of-requires-clause-rows
of-requires-clause-rows c = subst (λ n. AreRows n c.args.formula.atoms) (sym c.vars.ensures) c.args.formula.rows

pub of-requires-clause-few : goal.of-requires-clause-few
of-requires-clause-few c = subst (λ n. n < most_variables) (sym c.vars.ensures) c.requires.few

pub triangles-requires-clause-counted : goal.triangles-requires-clause-counted
triangles-requires-clause-counted c = ap length c.deref.ensures.value ∙ c.in_ok-variables.ensures.variables.counted ∙ ap length c.as_slice.ensures

pub triangles-requires-clause-different : goal.triangles-requires-clause-different
triangles-requires-clause-different c =
    let order = c.args.order.now in
    let mid = c.variables.new.self in
    let vars = c.in_ok-variables.variables.items in
    let named : AreVariables mid.atoms order.edges vars = subst (λ l. AreVariables mid.atoms l vars) c.as_slice.ensures c.in_ok-variables.ensures.variables in
    subst (AllPairs (λ x y. x ≢ y)) (sym c.deref.ensures.value) (AreVariables-different mid.vars mid.atoms order.edges vars c.in_ok-variables.ensures.numbered.rows c.requires.order.edges named)

pub triangles-requires-clause-from_one : goal.triangles-requires-clause-from_one
triangles-requires-clause-from_one c =
    let mid = c.variables.new.self in
    subst (All (λ x. 0 < x)) (sym c.deref.ensures.value)
    (AreVariables-all (λ x. 0 < x) mid.atoms c.as_slice.result.now c.in_ok-variables.variables.items c.in_ok-variables.ensures.numbered.rows.from_one c.in_ok-variables.ensures.variables)

pub push_denials-requires : goal.push_denials-requires
push_denials-requires c =
    let last = c.variables-2.new.self in
    subst (All (λ x. 0 < x)) (sym c.deref-2.ensures.value)
    (AreVariables-all (λ x. 0 < x) last.atoms c.args.apart.now c.in_ok-denied.denied.items c.in_ok-denied.ensures.numbered.rows.from_one c.in_ok-denied.ensures.variables)

pub new-requires : goal.new-requires
new-requires c =
    let old = c.args.formula.cnf in
    let order = c.args.order.now in
    let apart = c.args.apart.now in
    let mid = c.variables.new.self in
    let last = c.variables-2.new.self in
    let vars = c.in_ok-variables.variables.items in
    let denied = c.in_ok-denied.denied.items in
    let triangles = c.in_ok-triangles.triangles in
    let first = c.in_ok-variables.ensures.rows in
    let second = c.in_ok-denied.ensures.rows in
    let start : c.in_ok-numbers.numbers.vars ≡ old.vars = c.in_ok-numbers.ensures.vars ∙ c.vars.ensures in
    let up : mid.vars ≡ c.in_ok-numbers.numbers.vars + length first.more = first.counted in
    let up' : last.vars ≡ mid.vars + length second.more = second.counted in
    let named : AreVariables last.atoms c.as_slice.result.now vars =
    AreVariables-grown mid.atoms last.atoms c.as_slice.result.now vars c.in_ok-variables.ensures.variables (AddsRows-keeps apart mid.vars mid.atoms last.vars last.atoms second) in
    let low : All (λ x. x ≤ last.vars) c.deref.result.now = subst (All (λ x. x ≤ last.vars)) (sym c.deref.ensures.value)
    (AreVariables-all (λ x. x ≤ last.vars) last.atoms c.as_slice.result.now vars c.in_ok-denied.ensures.numbered.rows.within named) in
    let low' : All (λ x. x ≤ last.vars) c.deref-2.result.now = subst (All (λ x. x ≤ last.vars)) (sym c.deref-2.ensures.value)
    (AreVariables-all (λ x. x ≤ last.vars) last.atoms apart denied c.in_ok-denied.ensures.numbered.rows.within c.in_ok-denied.ensures.variables) in
    let is : c.push_denials.new.clauses ≡ old.clauses ++ triangles ++ map denial c.deref-2.result.now =
    c.in_ok-push_denials.ensures ∙ ap (λ l. l ++ map denial c.deref-2.result.now) (c.in_ok-clauses.ensures ∙ ap (λ l. l ++ triangles) c.into_clauses.ensures.value) in
    subst (AreWithin last.vars) (sym is)
    (edges-within old.vars last.vars old.clauses triangles c.deref-2.result.now (omega arith) c.into_clauses.ensures.within (c.in_ok-triangles.ensures.within last.vars low) low')

pub returns : goal.returns
returns c =
    let old = c.args.formula.cnf in
    let rows = c.args.formula.atoms in
    let order = c.args.order.now in
    let apart = c.args.apart.now in
    let begun = c.in_ok-numbers.numbers in
    let mid = c.variables.new.self in
    let last = c.variables-2.new.self in
    let vars = c.in_ok-variables.variables.items in
    let denied = c.in_ok-denied.denied.items in
    let triangles = c.in_ok-triangles.triangles in
    let first : AddsRows order.edges begun.vars begun.atoms mid.vars mid.atoms = subst (λ l. AddsRows l begun.vars begun.atoms mid.vars mid.atoms) c.as_slice.ensures c.in_ok-variables.ensures.rows in
    let second : AddsRows apart mid.vars mid.atoms last.vars last.atoms = c.in_ok-denied.ensures.rows in
    let whole : AddsRows order.edges begun.vars begun.atoms last.vars last.atoms =
    AddsRows-among (order.edges ++ apart) order.edges begun.vars begun.atoms last.vars last.atoms (among-both order.edges apart c.requires.apart)
    (AddsRows-trans order.edges apart begun.vars begun.atoms mid.vars mid.atoms last.vars last.atoms first second) in
    let numbered : AddsRows order.edges old.vars rows last.vars last.atoms =
    subst (λ n. AddsRows order.edges n rows last.vars last.atoms) (c.in_ok-numbers.ensures.vars ∙ c.vars.ensures) (subst (λ l. AddsRows order.edges begun.vars l last.vars last.atoms) c.in_ok-numbers.ensures.atoms whole) in
    let named : AreVariables last.atoms order.edges vars =
    AreVariables-grown mid.atoms last.atoms order.edges vars (subst (λ l. AreVariables mid.atoms l vars) c.as_slice.ensures c.in_ok-variables.ensures.variables) (AddsRows-keeps apart mid.vars mid.atoms last.vars last.atoms second) in
    let is : c.push_denials.new.clauses ≡ old.clauses ++ triangles ++ map denial denied =
    c.in_ok-push_denials.ensures ∙ (λ j. (c.in_ok-clauses.ensures ∙ ap (λ l. l ++ triangles) c.into_clauses.ensures.value) j ++ map denial (c.deref-2.ensures.value j)) in
    subst (λ p. AddsEdges order apart old rows p last.atoms) (sym c.new.ensures) (record {
      numbered = numbered;
      variables = vars;
      named = named;
      triangles = triangles;
      are = subst (λ l. AreTriangleClauses order l triangles) c.deref.ensures.value c.in_ok-triangles.ensures.clauses;
      denied = denied;
      named_apart = c.in_ok-denied.ensures.variables;
      clauses = is;
    })
