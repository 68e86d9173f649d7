-- The ids under which clauses stand are at most the last one.
use Rattle.std.proofs.Common.{◌≡◌, ℕ, ◌+◌, ◌<◌, ◌≤◌, cond, List, [], ◌∷◌, Some, IsSome, is_some, length, sym, ap, ◌∙◌, inl, inr, arith}
use Rattle.std.specs.List.{enumerate_from}
use Rattle.std.specs.Ordering.{nat_cmp, eq_by_cmp}
use Rattle.std.specs.Cmp.{nat_cmp_total}
use Rattle.std.specs.FinMap.{get, find, get-from_entries}
use Rattle.std.proofs.lemmas.Bool.{false≢true, cases_Bool, eqb-true}
use Rattle.bd_cnf.specs.Literal.{Literal}
use Rattle.bd_cnf.specs.Standing.{Standing}
use Rattle.bd_cnf.specs.Problem.{Problem}
use Rattle.bd_lrat.specs.Database.{database_of}
use Rattle.bd_lrat.proofs.Keys.{tied}

-- no clause stands above an id
abbrev pub StandsUpTo : ℕ → Standing → Type 0
StandsUpTo last standing = (id : ℕ) → IsSome (get standing id) → id ≤ last

found_up_to : (n q : ℕ) (cs : List (List Literal)) → IsSome (find nat_cmp q (enumerate_from n cs)) → q < n + length cs
found_up_to n q [] is = absurd (false≢true is)
found_up_to n q (c ∷ cs) is =
    elim (cases_Bool (eq_by_cmp nat_cmp q n)) [
      | inl e ↦ let same : q ≡ n = eqb-true q n (sym (tied q n) ∙ e) in omega arith
      | inr e ↦
          let there : IsSome (find nat_cmp q (enumerate_from (n + 1) cs)) = sym (ap (λ b. is_some (cond b (Some c) (find nat_cmp q (enumerate_from (n + 1) cs)))) e) ∙ is in
          let rest : q < (n + 1) + length cs = found_up_to (n + 1) q cs there in
          omega arith
    ]

-- a formula's clauses stand under the ids up to their number
pub up_to_formula : (p : Problem) → StandsUpTo (database_of p).last (database_of p).clauses
up_to_formula p q is =
    let here : q < 1 + length p.clauses = found_up_to 1 q p.clauses (sym (ap is_some (get-from_entries nat_cmp_total (enumerate_from 1 p.clauses) q)) ∙ is) in
    omega arith
