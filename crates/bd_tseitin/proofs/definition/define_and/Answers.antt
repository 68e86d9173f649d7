use Rattle.std.proofs.Common.{List, [], ◌∷◌, subst}
use Rattle.std.proofs.lemmas.Result.{on_ok_weaker}
use Rattle.bd_cnf.specs.Literal.{Literal}
use Rattle.bd_tseitin.specs.inner.Step.{Pushes}
use Rattle.bd_tseitin.proofs.Joined.{Pushes-join}
use Rattle.bd_tseitin.proofs.definition.define_and.Goals as goal

pub returns : goal.returns
returns c =
    let gate = c.args.gate in
    let a = c.args.a in
    let b = c.args.b in
    let old = c.args.clauses.now.items in
    let one = c.push.new.clauses.items in
    let two = c.push-2.new.clauses.items in
    let three = c.push-3.new.clauses.items in
    let first : List Literal = c.negated.result ∷ a ∷ [] in
    let second : List Literal = c.negated-2.result ∷ b ∷ [] in
    let third : List Literal = gate ∷ c.negated-3.result ∷ c.negated-4.result ∷ [] in
    on_ok_weaker c.push-3.result
    (λ made. subst (λ ds. Pushes old ds three)
    (λ i. (c.negated.ensures i ∷ a ∷ []) ∷ (c.negated-2.ensures i ∷ b ∷ []) ∷ (gate ∷ c.negated-3.ensures i ∷ c.negated-4.ensures i ∷ []) ∷ [])
    (Pushes-join (first ∷ []) (second ∷ third ∷ []) old one three c.in_ok-push.ensures (Pushes-join (second ∷ []) (third ∷ []) one two three c.in_ok-push-2.ensures made)))
    c.push-3.ensures
