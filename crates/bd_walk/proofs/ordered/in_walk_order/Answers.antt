-- Each term of the walk is carried over in turn, and the root is among them.
use Rattle.std.proofs.Common.{◌≡◌, ℕ, ◌<◌, ◌≤◌, ◌+◌, ◌++◌, ◌∷◌, [], List, length, slice_get, slice_set, slice_index_or, take, Some, refl, ap, sym, ◌∙◌, subst, arith}
use Rattle.std.proofs.lemmas.Grind.{common_steps}
use Rattle.std.proofs.lemmas.List.{get_or_default, take_all, take_more}
use Rattle.std.proofs.lemmas.Option.{slice_get-get_or}
use Rattle.bd_terms.specs.declared.node.Node.{Node}
use Rattle.bd_terms.specs.Graph.{HasSort, IsGraph, children, sort_at}
use Rattle.bd_model.specs.declared.design.Sort.TheVariants as sort
use Rattle.bd_terms.specs.Renamed.{id_at, renamed}
use Rattle.bd_terms.specs.Denotation.{denoted}
use Rattle.bd_terms.proofs.Graphs.{FitsSorts-get}
use Rattle.bd_terms.proofs.Reaching.{children-inside}
use Rattle.bd_walk.specs.Walk.{walk}
use Rattle.bd_walk.specs.inner.Carrying.{IsCarrying, Means}
use Rattle.bd_walk.proofs.Carrying.{IsCarrying-next, IsCarrying-start, carried-root, next-fits, next-uses, walk-inside, walk-next}
use Rattle.bd_walk.proofs.ordered.in_walk_order.Goals as goal

at : (xs : List ℕ) (i x : ℕ) → i < length xs → x ≡ slice_index_or xs i x → slice_get xs i ≡ Some x
at xs i x inside is = slice_get-get_or xs i x inside ∙ ap Some (sym is)

pub loop-id-init : goal.loop-id-init
loop-id-init c =
    let size : length c.in_ok-places.places.items ≡ length c.args.graph.now = grind (arith, common_steps) in
    subst (λ l. IsCarrying c.args.graph.now c.args.root [] l c.in_ok-places.places.items) (sym c.new-ordered.ensures)
    (IsCarrying-start c.args.graph.now c.args.root c.in_ok-places.places.items size)

pub node-requires : goal.node-requires
node-requires c =
    walk-inside c.args.graph.now c.len.ensures.graph c.args.root c.requires.inside c.deref-id-items.result.now (c.deref-id-items.ensures.value ∙ c.in_ok-order.ensures) c.loop-id.id-index c.id-item.result
    (at c.deref-id-items.result.now c.loop-id.id-index c.id-item.result c.loop-id-test.true c.id-item.is)

pub renamed-requires : goal.renamed-requires
renamed-requires c =
    subst (λ n. (k : ℕ) → (d : ℕ) → k < length (children c.node.result.now) → slice_index_or (children c.node.result.now) k d < n) (sym (ap length c.deref.ensures.value ∙ c.loop-id.invariant.size))
    (children-inside c.args.graph.now c.node.result.now (FitsSorts-get c.args.graph.now c.len.ensures.graph c.id-item.result c.node.result.now c.node.ensures.node))

pub build-requires-clause-fits : goal.build-requires-clause-fits
build-requires-clause-fits c =
    next-fits c.args.graph.now c.args.root (take c.loop-id.id-index c.deref-id-items.result.now) c.loop-id.ordered c.loop-id.places.items c.id-item.result c.node.result.now c.in_ok-node.node c.loop-id.invariant
    (walk-next c.args.graph.now c.len.ensures.graph c.args.root c.requires.inside c.deref-id-items.result.now (c.deref-id-items.ensures.value ∙ c.in_ok-order.ensures) c.loop-id.id-index c.id-item.result
    (at c.deref-id-items.result.now c.loop-id.id-index c.id-item.result c.loop-id-test.true c.id-item.is) c.node.result.now c.node.ensures.node)
    (c.in_ok-node.ensures ∙ ap (λ l. renamed l c.node.result.now) c.deref.ensures.value)

pub build-requires-clause-symbols : goal.build-requires-clause-symbols
build-requires-clause-symbols c =
    next-uses c.args.graph.now c.args.root (take c.loop-id.id-index c.deref-id-items.result.now) c.loop-id.ordered c.loop-id.places.items c.id-item.result c.node.result.now c.in_ok-node.node c.loop-id.invariant
    (walk-next c.args.graph.now c.len.ensures.graph c.args.root c.requires.inside c.deref-id-items.result.now (c.deref-id-items.ensures.value ∙ c.in_ok-order.ensures) c.loop-id.id-index c.id-item.result
    (at c.deref-id-items.result.now c.loop-id.id-index c.id-item.result c.loop-id-test.true c.id-item.is) c.node.result.now c.node.ensures.node)
    (c.in_ok-node.ensures ∙ ap (λ l. renamed l c.node.result.now) c.deref.ensures.value)

pub index_mut-requires : goal.index_mut-requires
index_mut-requires c =
    let inside =
    walk-inside c.args.graph.now c.len.ensures.graph c.args.root c.requires.inside c.deref-id-items.result.now (c.deref-id-items.ensures.value ∙ c.in_ok-order.ensures) c.loop-id.id-index c.id-item.result
    (at c.deref-id-items.result.now c.loop-id.id-index c.id-item.result c.loop-id-test.true c.id-item.is) in
    omega (arith, c.index.ensures, inside, c.loop-id.invariant.size)

pub loop-id-preserved : goal.loop-id-preserved
loop-id-preserved c =
    let there = at c.deref-id-items.result.now c.loop-id.id-index c.id-item.result c.loop-id-test.true c.id-item.is in
    IsCarrying-next c.args.graph.now c.args.root (take c.loop-id.id-index c.deref-id-items.result.now) (take (c.loop-id.id-index + 1) c.deref-id-items.result.now) c.loop-id.ordered c.build.new.self
    c.loop-id.places.items (slice_set c.loop-id.places.items c.index.result c.in_ok-places-2.field-0) c.id-item.result c.node.result.now c.in_ok-node.node c.in_ok-places-2.field-0 c.loop-id.invariant
    (walk-next c.args.graph.now c.len.ensures.graph c.args.root c.requires.inside c.deref-id-items.result.now (c.deref-id-items.ensures.value ∙ c.in_ok-order.ensures) c.loop-id.id-index c.id-item.result there c.node.result.now c.node.ensures.node)
    (c.in_ok-node.ensures ∙ ap (λ l. renamed l c.node.result.now) c.deref.ensures.value)
    c.in_ok-places-2.ensures.gives c.in_ok-places-2.ensures.denotes c.in_ok-places-2.ensures.sorted c.in_ok-places-2.ensures.extends c.in_ok-places-2.ensures.uses c.in_ok-places-2.ensures.graph
    (take_more c.deref-id-items.result.now c.loop-id.id-index c.id-item.result c.loop-id-test.true ∙ ap (λ x. take c.loop-id.id-index c.deref-id-items.result.now ++ x ∷ []) (sym c.id-item.is))
    (ap (λ i. slice_set c.loop-id.places.items i c.in_ok-places-2.field-0) c.index.ensures)

at-end : (nodes : List Node) (root : ℕ) (items order : List ℕ) (i : ℕ) (new : List Node) (places : List ℕ) → IsCarrying nodes root (take i items) new places → length items ≤ i → items ≡ order → IsCarrying nodes root order new places
at-end nodes root items order i new places c all same = subst (λ l. IsCarrying nodes root l new places) (take_all i items all ∙ same) c

root-means : (nodes : List Node) (root : ℕ) (items : List ℕ) (i : ℕ) (new : List Node) (places : List ℕ) → IsGraph nodes → root < length nodes → items ≡ walk nodes root → length items ≤ i → IsCarrying nodes root (take i items) new places
    → Means new (id_at places root) (sort_at nodes root) (λ w. denoted w nodes root)
root-means nodes root items i new places g inside same all c =
    carried-root nodes g root inside items new places same (at-end nodes root items items i new places c all refl)

place-is : (places : List ℕ) (i root result : ℕ) → i ≡ root → root < length places → result ≡ slice_index_or places i result → result ≡ id_at places root
place-is places i root result same inside is = is ∙ sym (get_or_default places i 0 result (omega (arith, same, inside))) ∙ ap (id_at places) same

pub returns-clause-denotes : goal.returns-clause-denotes
returns-clause-denotes c =
    let m = root-means c.args.graph.now c.args.root c.deref-id-items.result.now c.loop-id.id-index c.loop-id.ordered c.loop-id.places.items c.len.ensures.graph c.requires.inside (c.deref-id-items.ensures.value ∙ c.in_ok-order.ensures) c.loop-id-test.false c.loop-id.invariant in
    let e = place-is c.loop-id.places.items c.index-2.result c.args.root c.index-3.result.now c.index-2.ensures (omega (arith, c.requires.inside, c.loop-id.invariant.size)) c.index-3.ensures in
    record { same = λ w. ap (λ k. denoted w c.loop-id.ordered k) e ∙ m.denotes.is w }

pub returns-clause-sorted : goal.returns-clause-sorted
returns-clause-sorted c =
    let m = root-means c.args.graph.now c.args.root c.deref-id-items.result.now c.loop-id.id-index c.loop-id.ordered c.loop-id.places.items c.len.ensures.graph c.requires.inside (c.deref-id-items.ensures.value ∙ c.in_ok-order.ensures) c.loop-id-test.false c.loop-id.invariant in
    let e = place-is c.loop-id.places.items c.index-2.result c.args.root c.index-3.result.now c.index-2.ensures (omega (arith, c.requires.inside, c.loop-id.invariant.size)) c.index-3.ensures in
    subst (λ k. HasSort c.loop-id.ordered k sort.Bool) (sym e) (subst (HasSort c.loop-id.ordered (id_at c.loop-id.places.items c.args.root)) c.requires.sorted m.sorted)
