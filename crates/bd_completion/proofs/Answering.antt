-- What an answer on the root of a question says of an abstraction.
use Rattle.std.proofs.Common.{◌≡◌, ℕ, Bool, true, false, List, inl, inr, sym, subst}
use Rattle.bd_model.specs.Abstraction.{AbstractionView}
use Rattle.bd_model.specs.DesignView.{DesignView}
use Rattle.bd_model.specs.Conditions.{Abstraction}
use Rattle.bd_model.specs.Cycle.{flushed}
use Rattle.bd_model.specs.Fits.{Fits}
use Rattle.bd_model.specs.Lawful.{IsLawful}
use Rattle.bd_model.specs.Right.{Agrees, RightBy}
use Rattle.bd_model.specs.Same.{Same}
use Rattle.bd_model.specs.declared.case.Case.{Case}
use Rattle.bd_model.specs.declared.case.Trail.{Trail}
use Rattle.bd_model.specs.declared.table.Value.{Value}
use Rattle.bd_model.proofs.SameDecided.{same_values, same_values-Decides}
use Rattle.bd_model.proofs.Settled.{IsTrue-settled}
use Rattle.bd_terms.specs.declared.node.Node.{Node}
use Rattle.bd_terms.specs.Graph.{IsGraph}
use Rattle.bd_terms.specs.Valid.{IsValid}
use Rattle.bd_symbolic.specs.Widened.{case_of_trail, widened}
use Rattle.bd_goal.specs.Laws.{BreaksSome, Differs}
use Rattle.bd_cdcl.specs.declared.solver.Found.{Found}
use Rattle.bd_verify.specs.declared.verdict.Mode.TheVariants.{Plain}
use Rattle.bd_verify.specs.declared.verdict.Work.{Work}
use Rattle.bd_verify.specs.Decided.{Falsifies, IsKnownRoot, IsRootWork}
use Rattle.bd_verify.proofs.Judgements.{right-unless-by}
use Rattle.bd_verify.proofs.RootAnswers.{such-keeps, such-kept, such-known, such-none, such-some}
use Rattle.bd_completion.specs.Answer.{IsWorkBy}
use Rattle.bd_completion.specs.Kept.{IsRootBy, IsSought, abstraction_by}
use Rattle.bd_completion.proofs.Roots.{root-decides, root-known}

-- two states that don't differ are the same
undiffering-same : (a b : List Value) → ((Same a b → ⊥) → ⊥) → Same a b
undiffering-same a b h = elim (IsTrue-settled (same_values a b)) [
  | inl is ↦ (same_values-Decides a b).0 is
  | inr not ↦ absurd (h (λ same. not ((same_values-Decides a b).1 same)))
]

-- an abstraction that differs from flushing in no case agrees with it
pub agrees-unless : (d : DesignView) (abs : Abstraction) → ((c : Case) → Fits d c → Differs d abs c → ⊥) → Agrees d abs
agrees-unless d abs none c fits inside = undiffering-same (abs c.interp c.state) (flushed d c.interp c.state) (λ differ. none c fits (inside, differ))

module _ (d : DesignView) (lawful : IsLawful d) (abs : AbstractionView) (agree : Bool) (nodes : List Node) (root : ℕ) (is : IsRootBy d abs agree nodes root) where
  -- its work is that of the question
  pub work-by : (budget : ℕ) (answer : Found) (w : Work) → IsRootWork d 1 nodes root Plain budget answer w → IsWorkBy d abs agree budget answer w
  work-by budget answer w h = record {
    kept = such-kept d lawful (IsSought d (abstraction_by d abs) agree) (IsRootBy d abs agree) (root-known d abs agree) (root-decides d lawful abs agree) nodes root is Plain w.cnf h.kept;
    keeps = such-keeps d lawful (IsSought d (abstraction_by d abs) agree) (IsRootBy d abs agree) (root-known d abs agree) (root-decides d lawful abs agree) nodes root is Plain w.cnf h.kept;
    law = h.law;
  }

  none-by : IsGraph nodes → IsValid d nodes root → (c : Case) → Fits d c → IsSought d (abstraction_by d abs) agree c → ⊥
  none-by = such-none d lawful (IsSought d (abstraction_by d abs) agree) (IsRootBy d abs agree) (root-known d abs agree) (root-decides d lawful abs agree) nodes root is

  -- where it is valid, the design is right by the abstraction
  pub valid-right : agree ≡ false → IsGraph nodes → IsValid d nodes root → RightBy d (abstraction_by d abs)
  valid-right e g valid = right-unless-by d (abstraction_by d abs) lawful (subst (λ a. (c : Case) → Fits d c → IsSought d (abstraction_by d abs) a c → ⊥) e (none-by g valid))

  -- or the abstraction agrees with flushing
  pub valid-agrees : agree ≡ true → IsGraph nodes → IsValid d nodes root → Agrees d (abstraction_by d abs)
  valid-agrees e g valid = agrees-unless d (abstraction_by d abs) (subst (λ a. (c : Case) → Fits d c → IsSought d (abstraction_by d abs) a c → ⊥) e (none-by g valid))

  some-by : (a : Bool) → agree ≡ a → IsGraph nodes → (t : Trail) → Falsifies d 1 nodes root t → (c : Case) → c ≡ case_of_trail t → Fits d c × IsSought d (abstraction_by d abs) a c
  some-by a e g t h c same =
      let found = such-some d lawful (IsSought d (abstraction_by d abs) agree) (IsRootBy d abs agree) (root-known d abs agree) (root-decides d lawful abs agree) nodes root is g t h in
      subst (λ k. Fits d k × IsSought d (abstraction_by d abs) a k) (sym same) (found.0, subst (λ b. IsSought d (abstraction_by d abs) b (case_of_trail t)) e found.1)

  -- and the case of a trail in whose world it is false breaks a condition
  pub false-breaks : agree ≡ false → IsGraph nodes → (t : Trail) → Falsifies d 1 nodes root t → (c : Case) → c ≡ case_of_trail t → Fits d c × BreaksSome d (abstraction_by d abs) c
  false-breaks e = some-by false e

  -- or differs
  pub false-differs : agree ≡ true → IsGraph nodes → (t : Trail) → Falsifies d 1 nodes root t → (c : Case) → c ≡ case_of_trail t → Fits d c × Differs d (abstraction_by d abs) c
  false-differs e = some-by true e
