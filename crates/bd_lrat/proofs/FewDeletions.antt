-- Each covered deletion takes a clause out, so there are no more of them than clauses.
use Rattle.std.proofs.Common.{◌≡◌, ℕ, zero, suc, ◌+◌, ◌-◌, ◌<◌, ◌≤◌, Bool, true, false, cond, is_some, List, [], ◌∷◌, Option, None, Some, length, refl, sym, ap, ◌∙◌, subst, arith}
use Rattle.std.specs.List.{enumerate_from}
use Rattle.std.specs.Ordering.{nat_cmp}
use Rattle.std.specs.Cmp.{nat_cmp_total}
use Rattle.std.specs.FinMap.{get, insert, remove, len, from_entries, contains_key, len-empty, len-insert, len-remove, empty_of_len, get-empty}
use Rattle.std.proofs.lemmas.Bool.{false≢true}
use Rattle.std.proofs.lemmas.List.Elements.{All-head}
use Rattle.std.proofs.lemmas.List.FromFn.{length-enumerate_from}
use Rattle.bd_cnf.specs.Literal.{Literal}
use Rattle.bd_cnf.specs.Problem.{Problem}
use Rattle.bd_cnf.specs.Standing.{Standing}
use Rattle.bd_lrat.specs.declared.line.Line.{Line}
use Rattle.bd_lrat.specs.declared.line.Line.TheVariants.{Add, Delete}
use Rattle.bd_lrat.specs.Database.{Database, database_of, after, numbered, remove_all}
use Rattle.bd_lrat.specs.Deletions.{DeletesCovered, HasCoveredDeletions, deletions, clauses_added}

cond_more : (b : Bool) (n : ℕ) → cond b n (n + 1) ≤ n + 1
cond_more true n = omega arith
cond_more false n = omega arith

cond_less : (b : Bool) (n : ℕ) → cond b (n - 1) n ≤ n
cond_less true n = omega arith
cond_less false n = omega arith

inserted : (standing : Standing) (id : ℕ) (clause : List Literal) → len (insert standing id clause) ≤ len standing + 1
inserted standing id clause = subst (λ n. n ≤ len standing + 1) (sym (len-insert nat_cmp_total standing id clause)) (cond_more (contains_key standing id) (len standing))

removed : (standing : Standing) (id : ℕ) → len (remove standing id) ≤ len standing
removed standing id = subst (λ n. n ≤ len standing) (sym (len-remove nat_cmp_total standing id)) (cond_less (contains_key standing id) (len standing))

removed_all : (standing : Standing) (ids : List ℕ) → len (remove_all standing ids) ≤ len standing
removed_all standing [] = omega arith
removed_all standing (id ∷ ids) =
    let rest : len (remove_all (remove standing id) ids) ≤ len (remove standing id) = removed_all (remove standing id) ids in
    let first : len (remove standing id) ≤ len standing = removed standing id in
    omega arith

-- where a clause stands there is one
some_stands : (standing : Standing) (id : ℕ) → is_some (get standing id) ≡ true → 0 < len standing
some_stands standing id stands = by_size (len standing) refl
  where
    by_size : (n : ℕ) → len standing ≡ n → 0 < n
    by_size zero none = absurd (false≢true (sym (ap (λ (s : Standing). is_some (get s id)) (empty_of_len standing none) ∙ ap is_some (get-empty nat_cmp id)) ∙ stands))
    by_size (suc n) more = omega arith

-- and it is taken out
taken : (standing : Standing) (id : ℕ) → is_some (get standing id) ≡ true → len (remove standing id) + 1 ≤ len standing
taken standing id stands =
    let low : 0 < len standing = some_stands standing id stands in
    let less : len (remove standing id) ≡ len standing - 1 = len-remove nat_cmp_total standing id ∙ ap (λ b. cond b (len standing - 1) (len standing)) stands in
    omega arith

few_from : (db : Database) (added : Option ℕ) (lines : List Line) → DeletesCovered db added lines → deletions lines ≤ len db.clauses + clauses_added lines
few_from db added [] so = omega arith
few_from db added ((Add id clause hints) ∷ lines) so =
    let rest : deletions lines ≤ len (insert db.clauses id clause) + clauses_added lines = few_from (after db (Add id clause hints)) (Some id) lines so in
    let grown : len (insert db.clauses id clause) ≤ len db.clauses + 1 = inserted db.clauses id clause in
    omega arith
few_from db added ((Delete id []) ∷ lines) so = absurd (so.0.some refl)
few_from db added ((Delete id (gone ∷ more)) ∷ lines) so =
    let rest : deletions lines ≤ len (remove_all (remove db.clauses gone) more) + clauses_added lines = few_from (after db (Delete id (gone ∷ more))) added lines so.1 in
    let others : len (remove_all (remove db.clauses gone) more) ≤ len (remove db.clauses gone) = removed_all (remove db.clauses gone) more in
    let first : len (remove db.clauses gone) + 1 ≤ len db.clauses = taken db.clauses gone (All-head (λ i. is_some (get db.clauses i) ≡ true) gone more so.0.stand) in
    omega arith

few_entries : (es : List (ℕ × List Literal)) → len (from_entries {R = nat_cmp} es) ≤ length es
few_entries [] = subst (λ n. n ≤ 0) (sym (len-empty nat_cmp (List Literal))) (omega arith)
few_entries (e ∷ es) =
    let rest : len (from_entries {R = nat_cmp} es) ≤ length es = few_entries es in
    let grown : len (insert (from_entries {R = nat_cmp} es) e.0 e.1) ≤ len (from_entries {R = nat_cmp} es) + 1 = inserted (from_entries es) e.0 e.1 in
    omega arith

pub few_deletions : (p : Problem) (lines : List Line) → HasCoveredDeletions p lines → deletions lines ≤ length p.clauses + clauses_added lines
few_deletions p lines so =
    let all : deletions lines ≤ len (numbered p.clauses) + clauses_added lines = few_from (database_of p) None lines so in
    let start : len (numbered p.clauses) ≤ length (enumerate_from 1 p.clauses) = few_entries (enumerate_from 1 p.clauses) in
    omega (arith, length-enumerate_from 1 p.clauses)
