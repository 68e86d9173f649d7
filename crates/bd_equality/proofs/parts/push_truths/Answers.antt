use Rattle.std.proofs.Common.{◌≡◌, ◌++◌, ◌∷◌, [], Some, slice_get, map, ap, sym, ◌∙◌, append-nil}
use Rattle.std.proofs.lemmas.Result.{IfOk-weaker}
use Rattle.bd_terms.specs.declared.node.Node.TheVariants.{Not, And, Or, Ite, Eq}
use Rattle.bd_equality.specs.declared.wanted.Visit.TheVariants.{Enter}
use Rattle.bd_equality.specs.declared.wanted.Wanted.TheVariants.{Truth}
use Rattle.bd_equality.specs.inner.Split.{node_parts}
use Rattle.bd_equality.proofs.Passing.{no_parts, pushed_parts, three_pushed, two_pushed}
use Rattle.bd_equality.proofs.parts.push_truths.Goals as goal

pub returns-in-Not : goal.returns-in-Not
returns-in-Not c =
    IfOk-weaker c.push.result (λ _. c.push.new.visits.items ≡ c.args.visits.now.items ++ Enter (Truth c.in-Not.a) ∷ []) (λ _. c.push.new.visits.items ≡ c.args.visits.now.items ++ map Enter (node_parts (slice_get c.args.graph.now c.args.id)))
    (λ _ e. pushed_parts c.args.visits.now.items c.push.new.visits.items (slice_get c.args.graph.now c.args.id) (Not c.in-Not.a) (c.node.ensures.node ∙ ap Some c.in-Not.is) e) c.push.ensures

pub returns-in_ok-push-in-And : goal.returns-in_ok-push-in-And
returns-in_ok-push-in-And c =
    let old = c.args.visits.now.items in
    let new = c.push-in-And-2.new.visits.items in
    IfOk-weaker c.push-in-And-2.result (λ _. new ≡ c.push-in-And.new.visits.items ++ Enter (Truth c.in-And.a) ∷ []) (λ _. new ≡ old ++ map Enter (node_parts (slice_get c.args.graph.now c.args.id)))
    (λ _ e.
    pushed_parts old new (slice_get c.args.graph.now c.args.id) (And c.in-And.a c.in-And.b) (c.node.ensures.node ∙ ap Some c.in-And.is)
    (two_pushed old c.push-in-And.new.visits.items new (Enter (Truth c.in-And.b)) (Enter (Truth c.in-And.a)) c.in_ok-push-in-And.ensures e)) c.push-in-And-2.ensures

pub returns-in_ok-push-in-Or : goal.returns-in_ok-push-in-Or
returns-in_ok-push-in-Or c =
    let old = c.args.visits.now.items in
    let new = c.push-in-Or-2.new.visits.items in
    IfOk-weaker c.push-in-Or-2.result (λ _. new ≡ c.push-in-Or.new.visits.items ++ Enter (Truth c.in-Or.a) ∷ []) (λ _. new ≡ old ++ map Enter (node_parts (slice_get c.args.graph.now c.args.id)))
    (λ _ e.
    pushed_parts old new (slice_get c.args.graph.now c.args.id) (Or c.in-Or.a c.in-Or.b) (c.node.ensures.node ∙ ap Some c.in-Or.is)
    (two_pushed old c.push-in-Or.new.visits.items new (Enter (Truth c.in-Or.b)) (Enter (Truth c.in-Or.a)) c.in_ok-push-in-Or.ensures e)) c.push-in-Or-2.ensures

pub returns-in_ok-push-in-Ite-2 : goal.returns-in_ok-push-in-Ite-2
returns-in_ok-push-in-Ite-2 c =
    let old = c.args.visits.now.items in
    let new = c.push-in-Ite-3.new.visits.items in
    IfOk-weaker c.push-in-Ite-3.result (λ _. new ≡ c.push-in-Ite-2.new.visits.items ++ Enter (Truth c.in-Ite.control) ∷ []) (λ _. new ≡ old ++ map Enter (node_parts (slice_get c.args.graph.now c.args.id)))
    (λ _ e.
    pushed_parts old new (slice_get c.args.graph.now c.args.id) (Ite c.in-Ite.control c.in-Ite.yes c.in-Ite.no) (c.node.ensures.node ∙ ap Some c.in-Ite.is)
    (three_pushed old c.push-in-Ite.new.visits.items c.push-in-Ite-2.new.visits.items new (Enter (Truth c.in-Ite.no)) (Enter (Truth c.in-Ite.yes)) (Enter (Truth c.in-Ite.control)) c.in_ok-push-in-Ite.ensures c.in_ok-push-in-Ite-2.ensures e))
    c.push-in-Ite-3.ensures

pub returns-in-Eq : goal.returns-in-Eq
returns-in-Eq c =
    let old = c.args.visits.now.items in
    let new = c.push-in-Eq.new.visits.items in
    IfOk-weaker c.push-in-Eq.result (λ _. new ≡ old ++ Enter c.between.result ∷ []) (λ _. new ≡ old ++ map Enter (node_parts (slice_get c.args.graph.now c.args.id)))
    (λ _ e.
    pushed_parts old new (slice_get c.args.graph.now c.args.id) (Eq c.in-Eq.a c.in-Eq.b) (c.node.ensures.node ∙ ap Some c.in-Eq.is)
    (e ∙ (λ i. old ++ Enter (c.between.ensures i) ∷ []))) c.push-in-Eq.ensures

pub returns-in_default : goal.returns-in_default
returns-in_default c =
    pushed_parts c.args.visits.now.items c.args.visits.now.items (slice_get c.args.graph.now c.args.id) c.node.result.now c.node.ensures.node
    (sym (ap (λ l. c.args.visits.now.items ++ map Enter l) (no_parts c.node.result.now c.in_default.not-Not c.in_default.not-And c.in_default.not-Or c.in_default.not-Ite c.in_default.not-Eq) ∙ append-nil c.args.visits.now.items))
