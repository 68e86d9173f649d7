-- What a solver's answer comes to: the first line that isn't accepted, or the first clause that is false, by number
-- (clausal proofs in textual LRAT, checked line by line).
use Rattle.std.specs.Prelude.{◌≡◌, ℕ, ◌+◌, ◌==◌, Bool, List, [], ◌∷◌, Option, None, Some, if◌then◌else◌}
use Rattle.std.specs.List.{list_any}
use Rattle.bd_cnf.specs.Literal.{Literal}
use Rattle.bd_cnf.specs.Clause.{clause_value}
use Rattle.bd_cnf.specs.Assignment.{value_of}
use Rattle.bd_cnf.specs.Problem.{Problem}
use Rattle.bd_lrat.specs.declared.line.Line.{Line}
use Rattle.bd_lrat.specs.Database.{database_of}
use Rattle.bd_lrat.specs.Log.{additions, adds_empty, refused_from}
use Rattle.bd_cdcl.specs.declared.solver.Found.{Found}
use Rattle.bd_cdcl.specs.declared.solver.Found.TheVariants as found
use Rattle.bd_verify.specs.declared.settling.Settled.{Settled}
use Rattle.bd_verify.specs.declared.settling.Settled.TheVariants.{Refuted, Model, Spent, BadProof, NoEnd, BadModel}

-- the number of the first clause, from n, that is false
abbrev pub false_from : ℕ → (ℕ → Bool) → List (List Literal) → Option ℕ
false_from n v [] = None
false_from n v (c ∷ cs) = if clause_value v c then false_from (n + 1) v cs else Some n

-- an accepted log that is to add the empty clause
abbrev pub refuted : List Line → Settled
refuted log = if list_any adds_empty log then Refuted log else NoEnd (additions log)

-- an accepted log that is to add so many clauses of one literal or more
abbrev pub spent : ℕ → List Line → Settled
spent budget log = if additions log == budget then Spent log else NoEnd (additions log)

abbrev pub proof_or : Option ℕ → Settled → Settled
proof_or (Some n) settled = BadProof n
proof_or None settled = settled

abbrev pub model_or : Option ℕ → Settled → Settled
model_or (Some n) settled = BadModel n
model_or None settled = settled

-- what an answer with its log comes to
abbrev pub settled_of : Problem → ℕ → Found → List Line → Settled
settled_of p budget (found.Model a) log = model_or (false_from 1 (value_of a) p.clauses) (Model a log)
settled_of p budget found.Refuted log = proof_or (refused_from 1 (database_of p) log) (refuted log)
settled_of p budget found.Spent log = proof_or (refused_from 1 (database_of p) log) (spent budget log)

-- for an answer and a log that the solver may say, it is exactly that
pub record Settles (says : Found → List Line → Type 0) (p : Problem) (budget : ℕ) (settled : Settled) : Type 0 where
  pub found : Found
  pub log : List Line
  pub said : says found log
  pub is : settled ≡ settled_of p budget found log
