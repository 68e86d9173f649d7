use Rattle.std.proofs.Common.{◌≡◌, ◌++◌, ◌∷◌, [], false, true, ◌∙◌}
use Rattle.std.proofs.lemmas.Result.{IfOk-weaker}
use Rattle.bd_equality.specs.declared.wanted.Visit.TheVariants.{Enter}
use Rattle.bd_equality.specs.declared.wanted.Wanted.TheVariants.{Truth}
use Rattle.bd_equality.specs.inner.Split.{part}
use Rattle.bd_equality.proofs.Passing.{three_pushed}
use Rattle.bd_equality.proofs.parts.push_sides.Goals as goal

pub returns : goal.returns
returns c =
    let nodes = c.args.graph.now in
    let old = c.args.visits.now.items in
    let new = c.push-3.new.visits.items in
    let no = part nodes false c.args.control c.args.left c.args.right in
    let yes = part nodes true c.args.control c.args.left c.args.right in
    IfOk-weaker c.push-3.result (λ _. new ≡ c.push-2.new.visits.items ++ Enter c.sides-yes.result.0 ∷ []) (λ _. new ≡ old ++ Enter (Truth c.args.control) ∷ Enter no ∷ Enter yes ∷ [])
    (λ _ e.
    three_pushed old c.push.new.visits.items c.push-2.new.visits.items new (Enter (Truth c.args.control)) (Enter c.sides-yes.result.1) (Enter c.sides-yes.result.0) c.in_ok-push.ensures c.in_ok-push-2.ensures e
    ∙ (λ i. old ++ Enter (Truth c.args.control) ∷ Enter (c.sides-yes.ensures.no i) ∷ Enter (c.sides-yes.ensures.yes i) ∷ []))
    c.push-3.ensures
