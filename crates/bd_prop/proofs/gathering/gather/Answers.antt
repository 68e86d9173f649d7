use Rattle.std.proofs.Common.{◌≡◌, ◌∙◌, ◌<◌, ◌≤◌, ℕ, Bool, List, length, get_or, ap, sym, subst, arith}
use Rattle.std.specs.Prelude.{nat_lt, slice_index_or}
use Rattle.std.proofs.lemmas.List.{get_or_default}
use Rattle.bd_prop.specs.declared.choices.Choice.{Choice}
use Rattle.bd_prop.specs.declared.node.PropNode.{PropNode}
use Rattle.bd_prop.specs.Gathered.{IsGathered, IsPart, IsPlaced, entry_at}
use Rattle.bd_prop.specs.Graph.{IsGraph, StandsAt}
use Rattle.bd_prop.specs.Inside.{heights, is_inside, uses_of}
use Rattle.bd_prop.specs.Node.{children}
use Rattle.bd_prop.specs.inner.Gathering.{AreLow}
use Rattle.bd_prop.proofs.Forms.{read_stands}
use Rattle.bd_prop.proofs.GatheredTruth.{truth-gathered}
use Rattle.bd_prop.proofs.Gatherings.{IsGathering, gathered-end, gathering-more, gathering-start}
use Rattle.bd_prop.proofs.gathering.gather.Goals as goal

pub loop-id-init : goal.loop-id-init
loop-id-init c = gathering-start c.args.prop.now (is_inside c.args.prop.now c.args.root) c.new-new.result c.in_ok-entries.entries.items c.in_ok-entries.ensures.items

pub index-requires : goal.index-requires
index-requires c = omega (arith, c.in_ok-heights.ensures.len)

pub part_of-requires-clause-children : goal.part_of-requires-clause-children
part_of-requires-clause-children c = λ k d h.
    let nodes = c.nodes-nodes.result.now in
    let id = c.loop-id.id in
    let n = c.index-nodes-id.result in
    let at : StandsAt c.args.prop.now id n = subst (λ xs. StandsAt xs id n) c.nodes-nodes.ensures.value (read_stands nodes id n c.loop-id-test.true c.index-nodes-id.is) in
    let low : get_or (children n) k d < id = c.nodes-nodes.ensures.graph id n at k d h in
    let size : length c.loop-id.entries.items ≡ id = c.loop-id.invariant.size in
    let slice : length c.deref.result.now ≡ length c.loop-id.entries.items = ap length c.deref.ensures.value in
    omega arith

pub part_of-requires-clause-low : goal.part_of-requires-clause-low
part_of-requires-clause-low c = subst (λ (es : List (List Choice)). AreLow (length c.loop-id.new) es) (sym c.deref.ensures.value) c.loop-id.invariant.low

pub loop-id-preserved : goal.loop-id-preserved
loop-id-preserved c =
    let prop = c.args.prop.now in
    let root = c.args.root in
    let nodes = c.nodes-nodes.result.now in
    let id = c.loop-id.id in
    let n = c.index-nodes-id.result in
    let at : StandsAt prop id n = subst (λ xs. StandsAt xs id n) c.nodes-nodes.ensures.value (read_stands nodes id n c.loop-id-test.true c.index-nodes-id.is) in
    let table = c.in_ok-heights.heights.items in
    let tall : table ≡ heights prop (uses_of prop root) = c.in_ok-heights.ensures.heights ∙ ap (λ ns. heights ns (uses_of ns root)) c.nodes-nodes.ensures.value in
    let height : c.index.result.now ≡ slice_index_or (heights prop (uses_of prop root)) id 0 =
    c.index.ensures ∙ get_or_default table id c.index.result.now 0 (omega (arith, c.in_ok-heights.ensures.len)) ∙ ap (λ (hs : List ℕ). slice_index_or hs id 0) tall in
    let own : nat_lt 0 c.index.result.now ≡ is_inside prop root id = ap (nat_lt 0) height in
    gathering-more prop (is_inside prop root) id c.loop-id.new c.part_of.new.prop c.entry.new.prop c.loop-id.entries.items c.push.new.self.items c.in_ok-entry.entry n c.in_ok-part.part
    c.nodes-nodes.ensures.graph at c.loop-id.invariant c.part_of.ensures.grows c.entry.ensures.grows
    (subst (λ (b : Bool). IsPart c.part_of.new.prop c.loop-id.entries.items b n c.in_ok-part.part) own
    (subst (λ (es : List (List Choice)). IsPart c.part_of.new.prop es (nat_lt 0 c.index.result.now) n c.in_ok-part.part) c.deref.ensures.value c.in_ok-part.ensures.part))
    c.in_ok-entry.ensures.entry c.in_ok-entry.ensures.below c.in_ok-push.ensures.items

ended : (prop nodes : List PropNode) (id : ℕ) → nodes ≡ prop → id ≤ length nodes → length nodes ≤ id → id ≡ length prop
ended prop nodes id same low high = let size : length nodes ≡ length prop = ap length same in omega arith

pub placed_at-requires-clause-inside : goal.placed_at-requires-clause-inside
placed_at-requires-clause-inside c =
    let end = ended c.args.prop.now c.nodes-nodes.result.now c.loop-id.id c.nodes-nodes.ensures.value c.loop-id.auto.id-end c.loop-id-test.false in
    let size : length c.loop-id.entries.items ≡ c.loop-id.id = c.loop-id.invariant.size in
    let slice : length c.deref-2.result.now ≡ length c.loop-id.entries.items = ap length c.deref-2.ensures.value in
    omega arith

pub placed_at-requires-clause-low : goal.placed_at-requires-clause-low
placed_at-requires-clause-low c = subst (λ (es : List (List Choice)). AreLow (length c.loop-id.new) es) (sym c.deref-2.ensures.value) c.loop-id.invariant.low

pub returns : goal.returns
returns c =
    let prop = c.args.prop.now in
    let root = c.args.root in
    let new = c.placed_at.new.prop in
    let entries = c.loop-id.entries.items in
    let end = ended prop c.nodes-nodes.result.now c.loop-id.id c.nodes-nodes.ensures.value c.loop-id.auto.id-end c.loop-id-test.false in
    let placed : IsPlaced new (entry_at entries root) c.in_ok-root.root = subst (λ (es : List (List Choice)). IsPlaced new (entry_at es root) c.in_ok-root.root) c.deref-2.ensures.value c.in_ok-root.ensures.placed in
    let graph : IsGraph new = subst IsGraph c.new-2.view_is c.new-2.invariant in
    let made : IsGathered prop root new c.in_ok-root.root = gathered-end prop root c.loop-id.new new entries c.in_ok-root.root c.loop-id.id end c.loop-id.invariant c.placed_at.ensures.grows placed in
    record {
      inside = c.in_ok-root.ensures.within;
      graph = graph;
      gathered = made;
      truth = λ v. truth-gathered v prop root new c.in_ok-root.root c.nodes-nodes.ensures.graph graph c.requires made;
    }
