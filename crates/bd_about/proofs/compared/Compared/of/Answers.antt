use Rattle.std.proofs.Common.{◌≡◌, ◌+◌, ◌∙◌, ◌∷◌, Bool, List, ap, ap₂, drop, get_or, sym}
use Rattle.std.specs.Prelude.{◌||◌}
use Rattle.std.specs.List.{list_any}
use Rattle.std.proofs.lemmas.List.{drop_more}
use Rattle.bd_transitive.specs.declared.graph.Edge.{Edge}
use Rattle.bd_transitive.proofs.Ends.{no_edge}
use Rattle.bd_about.specs.Equations.{is_between}
use Rattle.bd_about.specs.inner.Owned.{is_owned}
use Rattle.bd_about.specs.inner.Paired.{are_found, has_pair}
use Rattle.bd_about.proofs.Pairing.{or_between}
use Rattle.bd_about.proofs.compared.Compared.of.Goals as goal

pub loop-edge-preserved : goal.loop-edge-preserved
loop-edge-preserved c = λ one other.
    let edges = c.args.edges.now in
    let i = c.loop-edge.edge-index in
    let edge : Edge = get_or edges i no_edge in
    let is : Edge → Bool = is_between (is_owned c.args.owners.now) one other in
    let old : Bool = has_pair c.loop-edge.pairs one other in
    let rest : List Edge = drop (i + 1) edges in
    let next : drop i edges ≡ edge ∷ rest = drop_more edges i no_edge c.loop-edge-test.true in
    ap (λ b. b || list_any is rest) (c.in_ok-add.ensures one other ∙ ap₂ (λ a b. are_found a b one other || old) c.get.ensures c.get-in-loop-edge.ensures)
    ∙ or_between (is edge) old (list_any is rest) ∙ ap (λ es. old || list_any is es) (sym next) ∙ c.loop-edge.invariant one other
