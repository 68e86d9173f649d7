use Rattle.std.proofs.Common.{◌≡◌, ◌∙◌, [], ◌∷◌, ◌++◌, ap, subst}
use Rattle.std.proofs.lemmas.Result.{on_ok_weaker}
use Rattle.bd_cnf.specs.Literal.{Literal, negate}
use Rattle.bd_tseitin.specs.inner.Step.{Pushes}
use Rattle.bd_tseitin.proofs.Joined.{Pushes-join}
use Rattle.bd_tseitin.proofs.definition.define_leaf.Goals as goal

pub returns : goal.returns
returns c =
    let path = c.args.path.now in
    let gate = c.args.gate in
    let leaf = c.args.leaf in
    let old = c.args.clauses.now.items in
    let one = c.push.new.clauses.items in
    let two = c.push-2.new.clauses.items in
    let below : c.deref.result.now ≡ path ++ negate gate ∷ leaf ∷ [] = c.deref.ensures.value ∙ c.in_ok-below.ensures ∙ ap (λ (l : Literal). path ++ l ∷ leaf ∷ []) c.negated.ensures in
    let above : c.deref-2.result.now ≡ path ++ gate ∷ negate leaf ∷ [] = c.deref-2.ensures.value ∙ c.in_ok-above.ensures ∙ ap (λ (l : Literal). path ++ gate ∷ l ∷ []) c.negated-2.ensures in
    on_ok_weaker c.push-2.result
    (λ made. subst (λ ds. Pushes old ds two) (λ i. below i ∷ above i ∷ [])
    (Pushes-join (c.deref.result.now ∷ []) (c.deref-2.result.now ∷ []) old one two c.in_ok-push.ensures made))
    c.push-2.ensures
