-- What holds of each clause that stands, through additions and deletions.
use Rattle.std.proofs.Common.{ℕ, Bool, true, false, cond, List, Option, None, Some, IfSome, sym, subst}
use Rattle.std.specs.Ordering.{nat_cmp, eq_by_cmp}
use Rattle.std.specs.Cmp.{nat_cmp_total}
use Rattle.std.specs.FinMap.{get, insert, remove, get-insert, get-remove}
use Rattle.bd_cnf.specs.Literal.{Literal}
use Rattle.bd_cnf.specs.Standing.{Standing, EachStanding}

module _ (P : List Literal → Type 0) where
  pub either : (b : Bool) (x y : Option (List Literal)) → IfSome x P → IfSome y P → IfSome (cond b x y) P
  either true x y h k = h
  either false x y h k = k

  pub each_insert : (standing : Standing) (id : ℕ) (clause : List Literal) → P clause → EachStanding P standing → EachStanding P (insert standing id clause)
  each_insert standing id clause here each q =
      subst (λ o. IfSome o P) (sym (get-insert nat_cmp_total standing id clause q)) (either (eq_by_cmp nat_cmp q id) (Some clause) (get standing q) here (each q))

  pub each_remove : (standing : Standing) (id : ℕ) → EachStanding P standing → EachStanding P (remove standing id)
  each_remove standing id each q =
      subst (λ o. IfSome o P) (sym (get-remove nat_cmp_total standing id q)) (either (eq_by_cmp nat_cmp q id) None (get standing q) tt (each q))
