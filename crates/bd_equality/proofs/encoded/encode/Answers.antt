use Rattle.std.proofs.Common.{◌≢◌, ◌↔◌, ◌⊎◌, inl, inr, AllPairs, Contains, slice_index_or, sym, subst, option_copied}
use Rattle.std.proofs.lemmas.List.Elements.{Contains-get_or}
use Rattle.bd_equality.specs.Edges.{ReachesEdge}
use Rattle.bd_equality.proofs.Whole.{by_edges_of, edge_of_either, simple_of}
use Rattle.bd_equality.proofs.encoded.encode.Goals as goal

pub returns-clause-edges : goal.returns-clause-edges
returns-clause-edges c = λ e.
    subst (λ l. Contains l e ↔ (ReachesEdge c.in_ok-prop.prop c.in_ok-prop.root e ⊎ Contains c.in_ok-apart.apart e)) (sym c.in_ok-edges.ensures.edges)
    (subst (λ l. Contains c.in_ok-with_reached.field-0 e ↔ (ReachesEdge c.in_ok-prop.prop c.in_ok-prop.root e ⊎ Contains l e)) (sym c.in_ok-apart.ensures.edges) (c.in_ok-with_reached.ensures.edges e))

pub returns-clause-by_edges : goal.returns-clause-by_edges
returns-clause-by_edges c =
    by_edges_of c.args.flat.now.graph c.args.flat.now.root (option_copied c.args.marked) c.in_ok-edges.edges c.in_ok-prop.prop c.in_ok-prop.root c.in_ok-prop.ensures.atoms
    (λ e r. subst (λ l. Contains l e) (sym c.in_ok-edges.ensures.edges) ((c.in_ok-with_reached.ensures.edges e).1 (inl r)))
    c.in_ok-with_reached.ensures.graph c.in_ok-prop.ensures.inside c.in_ok-prop.ensures.denotes

pub returns-clause-vertices : goal.returns-clause-vertices
returns-clause-vertices c = λ k d lt.
    let e = slice_index_or c.in_ok-edges.edges k d in
    let at : Contains c.in_ok-with_reached.field-0 e = subst (λ l. Contains l e) c.in_ok-edges.ensures.edges (Contains-get_or c.in_ok-edges.edges k d lt) in
    edge_of_either c.args.flat.now.graph c.args.flat.now.syms c.args.distinct.now (option_copied c.args.marked) c.in_ok-prop.prop c.in_ok-prop.root e c.in_ok-prop.ensures.atoms
    (elim ((c.in_ok-with_reached.ensures.edges e).0 at) [ inl r ↦ inl r | inr q ↦ inr ((c.in_ok-pairs.ensures e).0 q) ])

pub returns-clause-simple : goal.returns-clause-simple
returns-clause-simple c =
    simple_of c.args.flat.now.graph (option_copied c.args.marked) c.in_ok-edges.edges
    (λ e h.
    let at : Contains c.in_ok-with_reached.field-0 e = subst (λ l. Contains l e) c.in_ok-edges.ensures.edges h in
    edge_of_either c.args.flat.now.graph c.args.flat.now.syms c.args.distinct.now (option_copied c.args.marked) c.in_ok-prop.prop c.in_ok-prop.root e c.in_ok-prop.ensures.atoms
    (elim ((c.in_ok-with_reached.ensures.edges e).0 at) [ inl r ↦ inl r | inr q ↦ inr ((c.in_ok-pairs.ensures e).0 q) ]))
    (subst (AllPairs (λ e f. e ≢ f)) (sym c.in_ok-edges.ensures.edges) c.in_ok-edges.ensures.once)

pub returns-clause-apart_simple : goal.returns-clause-apart_simple
returns-clause-apart_simple c =
    simple_of c.args.flat.now.graph (option_copied c.args.marked) c.in_ok-apart.apart
    (λ e h. edge_of_either c.args.flat.now.graph c.args.flat.now.syms c.args.distinct.now (option_copied c.args.marked) c.in_ok-prop.prop c.in_ok-prop.root e c.in_ok-prop.ensures.atoms
    (inr ((c.in_ok-pairs.ensures e).0 (subst (λ l. Contains l e) c.in_ok-apart.ensures.edges h))))
    (subst (AllPairs (λ e f. e ≢ f)) (sym c.in_ok-apart.ensures.edges) c.in_ok-apart.ensures.once)
