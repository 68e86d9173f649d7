use Rattle.std.proofs.Common.{List, [], ◌∷◌, subst}
use Rattle.std.proofs.lemmas.Result.{on_ok_weaker}
use Rattle.bd_cnf.specs.Literal.{Literal}
use Rattle.bd_tseitin.specs.inner.Step.{Pushes}
use Rattle.bd_tseitin.proofs.Joined.{Pushes-join}
use Rattle.bd_tseitin.proofs.definition.define_or.Goals as goal

pub returns : goal.returns
returns c =
    let gate = c.args.gate in
    let a = c.args.a in
    let b = c.args.b in
    let old = c.args.clauses.now.items in
    let one = c.push.new.clauses.items in
    let two = c.push-2.new.clauses.items in
    let three = c.push-3.new.clauses.items in
    let first : List Literal = gate ∷ c.negated.result ∷ [] in
    let second : List Literal = gate ∷ c.negated-2.result ∷ [] in
    let third : List Literal = c.negated-3.result ∷ a ∷ b ∷ [] in
    on_ok_weaker c.push-3.result
    (λ made. subst (λ ds. Pushes old ds three)
    (λ i. (gate ∷ c.negated.ensures i ∷ []) ∷ (gate ∷ c.negated-2.ensures i ∷ []) ∷ (c.negated-3.ensures i ∷ a ∷ b ∷ []) ∷ [])
    (Pushes-join (first ∷ []) (second ∷ third ∷ []) old one three c.in_ok-push.ensures (Pushes-join (second ∷ []) (third ∷ []) one two three c.in_ok-push-2.ensures made)))
    c.push-3.ensures
