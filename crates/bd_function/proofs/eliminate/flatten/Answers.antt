-- The pass takes what is reached and passes the rest.
use Rattle.std.proofs.Common.{◌≡◌, ◌+◌, ◌<◌, ◌^◌, ◌++◌, ◌∷◌, [], length, slice_get, ap, sym, ◌∙◌, subst, arith, true≢false, length-append}
use Rattle.std.proofs.lemmas.Grind.{common_steps}
use Rattle.std.specs.List.{All}
use Rattle.bd_terms.specs.Graph.{FitsSorts, children}
use Rattle.bd_terms.specs.Reaches.{Reaches}
use Rattle.bd_terms.proofs.Graphs.{FitsSorts-get}
use Rattle.bd_function.specs.Flat.{AreApplications, Flattens, HasAllApplications, IsChosen, IsFlat}
use Rattle.bd_terms.specs.Renamed.{id_at, renamed}
use Rattle.bd_function.proofs.Flattening.{IsFlattened, IsFlattened-Flattens, IsFlattened-IsFlat, IsFlattened-small, IsFlattened-pass, IsFlattened-rows, IsFlattened-all, IsFlattened-start, IsFlattened-take, alike_node, children_inside, children_taken, fits_renamed, plain_reached}
use Rattle.bd_function.specs.Flattened.{IsMadeFlat}
use Rattle.bd_function.specs.inner.Taken.{MakesTerm}
use Rattle.bd_function.proofs.Making.{IsMaking, IsMaking-end, IsMaking-pass, IsMaking-start, IsMaking-take}
use Rattle.bd_function.proofs.Taking.{StepsNode}
use Rattle.bd_function.proofs.eliminate.flatten.Goals as goal
use Rattle.bd_function.proofs.eliminate.flatten.Goals.{then-has+in_ok-id, else-has}

pub loop-index-init : goal.loop-index-init
loop-index-init c =
    let keys : c.new-3.result.keys ≡ [] = grind (arith, common_steps) in
    let start = IsFlattened-start c.args.graph.now c.args.root (record { graph = c.new.result; variables = c.new-2.result; symbols = c.new-3.result; rows = c.new-4.result }) c.new.ensures c.new-4.ensures.items keys in
    let made = IsMaking-start c.args.graph.now c.args.root (record { graph = c.new.result; variables = c.new-2.result; symbols = c.new-3.result; rows = c.new-4.result }) c.new-4.ensures.items c.new-2.ensures.items in (
      ap length c.in_ok-ids.ensures.items,
      subst (λ l. IsFlattened c.args.graph.now c.args.root l (record { graph = c.new.result; variables = c.new-2.result; symbols = c.new-3.result; rows = c.new-4.result })) (sym c.in_ok-ids.ensures.items) start,
      subst (λ l. IsMaking c.args.graph.now c.args.root l (record { graph = c.new.result; variables = c.new-2.result; symbols = c.new-3.result; rows = c.new-4.result })) (sym c.in_ok-ids.ensures.items) made,
    )

pub take-requires-clause-inside : goal.take-requires-clause-inside
take-requires-clause-inside c =
    let e : c.id-old.result ≡ length c.loop-index.ids.items = c.id-old.ensures ∙ sym c.loop-index.invariant.0 in
    subst (λ l. All (λ k. k < length l) (children c.node.result.now)) (sym c.deref.ensures.value)
    (children_inside c.args.graph.now c.node.ensures.graph c.loop-index.ids.items c.id-old.result c.node.result.now e c.node.ensures.node)

pub take-requires-clause-fits : goal.take-requires-clause-fits
take-requires-clause-fits c =
    let e : c.id-old.result ≡ length c.loop-index.ids.items = c.id-old.ensures ∙ sym c.loop-index.invariant.0 in
    let r : Reaches c.args.graph.now c.args.root c.id-old.result = (c.in_ok-marks.ensures.marks c.id-old.result).0 (sym c.has.ensures ∙ c.if-has.true) in
    subst (λ l. FitsSorts c.loop-index.taken.graph (renamed l c.node.result.now)) (sym c.deref.ensures.value)
    (fits_renamed c.args.graph.now c.loop-index.taken.graph c.loop-index.ids.items c.node.result.now (FitsSorts-get c.args.graph.now c.node.ensures.graph c.id-old.result c.node.result.now c.node.ensures.node)
    (children_taken c.args.graph.now c.node.ensures.graph c.args.root c.loop-index.ids.items c.loop-index.taken c.loop-index.invariant.1 c.id-old.result c.node.result.now e r c.node.ensures.node))

pub take-requires-clause-plain : goal.take-requires-clause-plain
take-requires-clause-plain c =
    let r : Reaches c.args.graph.now c.args.root c.id-old.result = (c.in_ok-marks.ensures.marks c.id-old.result).0 (sym c.has.ensures ∙ c.if-has.true) in
    plain_reached c.args.graph.now c.node.ensures.graph c.args.root c.requires.memory c.id-old.result c.node.result.now r c.node.ensures.node

pub take-requires-clause-rows : goal.take-requires-clause-rows
take-requires-clause-rows c =
    alike_node c.args.graph.now c.node.ensures.graph c.args.root c.loop-index.ids.items c.loop-index.taken c.loop-index.invariant.1 c.id-old.result c.node.result.now c.node.ensures.node

pub loop-index-preserved : goal.loop-index-preserved
loop-index-preserved c =
    let ids = c.loop-index.ids.items in
    let e : c.id-old.result ≡ length ids = c.id-old.ensures ∙ sym c.loop-index.invariant.0 in
    let pushed : c.push.new.self.items ≡ ids ++ c.if-has.id ∷ [] = c.in_ok-push.ensures.items in
    let size : length c.push.new.self.items ≡ c.loop-index.index + 1 = omega (arith, ap length pushed, length-append ids (c.if-has.id ∷ []), c.loop-index.invariant.0) in (
      size,
      subst (λ l. IsFlattened c.args.graph.now c.args.root l c.if-has.taken) (sym pushed) (elim c.if-has.branch [
        | then-has+in_ok-id w ↦
            let r : Reaches c.args.graph.now c.args.root (length ids) = subst (Reaches c.args.graph.now c.args.root) e ((c.in_ok-marks.ensures.marks c.id-old.result).0 (sym c.has.ensures ∙ w.if-has.true)) in
            let st = subst (λ l. StepsNode c.loop-index.taken w.take.new.taken l w.node.result.now w.in_ok-id.id) w.deref.ensures.value w.in_ok-id.ensures.steps in
            subst (λ t. IsFlattened c.args.graph.now c.args.root (ids ++ c.if-has.id ∷ []) t) (sym w.taken-is)
            (subst (λ i. IsFlattened c.args.graph.now c.args.root (ids ++ i ∷ []) w.take.new.taken) (sym w.id-is)
            (IsFlattened-take c.args.graph.now w.node.ensures.graph c.args.root c.requires.memory ids c.loop-index.taken w.take.new.taken w.in_ok-id.id w.node.result.now c.loop-index.invariant.1 r
            (ap (slice_get c.args.graph.now) (sym e) ∙ w.node.ensures.node) st))
        | else-has w ↦
            subst (λ t. IsFlattened c.args.graph.now c.args.root (ids ++ c.if-has.id ∷ []) t) (sym w.taken-is)
            (IsFlattened-pass c.args.graph.now c.args.root ids c.loop-index.taken c.if-has.id c.loop-index.invariant.1
            (λ r. true≢false (sym ((c.in_ok-marks.ensures.marks c.id-old.result).1 (subst (Reaches c.args.graph.now c.args.root) (sym e) r)) ∙ sym c.has.ensures ∙ w.if-has.false)))
      ]),
      subst (λ l. IsMaking c.args.graph.now c.args.root l c.if-has.taken) (sym pushed) (elim c.if-has.branch [
        | then-has+in_ok-id w ↦
            let r : Reaches c.args.graph.now c.args.root (length ids) = subst (Reaches c.args.graph.now c.args.root) e ((c.in_ok-marks.ensures.marks c.id-old.result).0 (sym c.has.ensures ∙ w.if-has.true)) in
            let there = ap (slice_get c.args.graph.now) (sym e) ∙ w.node.ensures.node in
            let made = subst (λ l. MakesTerm c.loop-index.taken w.take.new.taken (renamed l w.node.result.now) w.in_ok-id.id) w.deref.ensures.value w.in_ok-id.ensures.made in
            subst (λ t. IsMaking c.args.graph.now c.args.root (ids ++ c.if-has.id ∷ []) t) (sym w.taken-is)
            (subst (λ i. IsMaking c.args.graph.now c.args.root (ids ++ i ∷ []) w.take.new.taken) (sym w.id-is)
            (IsMaking-take c.args.graph.now w.node.ensures.graph c.args.root ids c.loop-index.taken w.take.new.taken w.in_ok-id.id w.node.result.now c.loop-index.invariant.2 r there
            (plain_reached c.args.graph.now w.node.ensures.graph c.args.root c.requires.memory (length ids) w.node.result.now r there) w.in_ok-id.ensures.steps.extends made))
        | else-has w ↦
            subst (λ t. IsMaking c.args.graph.now c.args.root (ids ++ c.if-has.id ∷ []) t) (sym w.taken-is)
            (IsMaking-pass c.args.graph.now c.args.root ids c.loop-index.taken c.if-has.id c.loop-index.invariant.2
            (λ r. true≢false (sym ((c.in_ok-marks.ensures.marks c.id-old.result).1 (subst (Reaches c.args.graph.now c.args.root) (sym e) r)) ∙ sym c.has.ensures ∙ w.if-has.false)))
      ]),
    )

pub returns-clause-flattens : goal.returns-clause-flattens
returns-clause-flattens c =
    let ids = c.loop-index.ids.items in
    let inside : c.args.root < length ids = omega (arith, c.requires.sorted.inside, c.loop-index.invariant.0, c.loop-index-test.false, c.len-index-end.ensures.len) in
    let root : c.index-2.result.now ≡ id_at ids c.args.root = grind (arith, common_steps) in
    subst (λ l. Flattens c.args.graph.now c.args.root c.loop-index.taken.graph c.index-2.result.now l) (sym c.from_vec.ensures)
    (subst (λ i. Flattens c.args.graph.now c.args.root c.loop-index.taken.graph i c.loop-index.taken.rows.items) (sym root)
    (IsFlattened-Flattens c.args.graph.now c.args.root ids c.loop-index.taken c.loop-index.invariant.1 inside))

pub returns-clause-made : goal.returns-clause-made
returns-clause-made c =
    let ids = c.loop-index.ids.items in
    let inside : c.args.root < length ids = omega (arith, c.requires.sorted.inside, c.loop-index.invariant.0, c.loop-index-test.false, c.len-index-end.ensures.len) in
    let root : c.index-2.result.now ≡ id_at ids c.args.root = grind (arith, common_steps) in
    subst (λ l. IsMadeFlat c.args.graph.now c.args.root c.loop-index.taken.graph c.index-2.result.now l) (sym c.from_vec.ensures)
    (subst (λ i. IsMadeFlat c.args.graph.now c.args.root c.loop-index.taken.graph i c.loop-index.taken.rows.items) (sym root)
    (IsMaking-end c.args.graph.now c.len-index-end.ensures.graph c.args.root ids c.loop-index.taken c.loop-index.invariant.1.taken c.loop-index.invariant.2 inside))

pub returns-clause-rows : goal.returns-clause-rows
returns-clause-rows c =
    subst (AreApplications c.args.graph.now c.args.root c.loop-index.taken.graph) (sym c.from_vec.ensures)
    (IsFlattened-rows c.args.graph.now c.args.root c.loop-index.ids.items c.loop-index.taken c.loop-index.invariant.1)

pub returns-clause-all_rows : goal.returns-clause-all_rows
returns-clause-all_rows c =
    let ids = c.loop-index.ids.items in
    let inside : c.args.root < length ids = omega (arith, c.requires.sorted.inside, c.loop-index.invariant.0, c.loop-index-test.false, c.len-index-end.ensures.len) in
    subst (HasAllApplications c.args.graph.now c.args.root c.loop-index.taken.graph) (sym c.from_vec.ensures)
    (IsFlattened-all c.args.graph.now c.args.root ids c.loop-index.taken c.len-index-end.ensures.graph c.loop-index.invariant.1 inside)

pub returns-clause-chosen : goal.returns-clause-chosen
returns-clause-chosen c = λ w choice.
    subst (λ l. IsChosen c.args.graph.now c.args.root c.loop-index.taken.graph l w choice) (sym c.from_vec.ensures)
    (c.loop-index.invariant.1.chosen w choice)

pub returns-clause-graph : goal.returns-clause-graph
returns-clause-graph c = c.loop-index.invariant.1.taken.graph

pub invariant_of-result : goal.invariant_of-result
invariant_of-result c =
    let ids = c.loop-index.ids.items in
    let inside : c.args.root < length ids = omega (arith, c.requires.sorted.inside, c.loop-index.invariant.0, c.loop-index-test.false, c.len-index-end.ensures.len) in
    let root : c.index-2.result.now ≡ id_at ids c.args.root = grind (arith, common_steps) in
    record {
      flat = subst (IsFlat c.loop-index.taken.graph c.index-2.result.now) (sym c.from_vec.ensures)
          (subst (λ i. IsFlat c.loop-index.taken.graph i c.loop-index.taken.rows.items) (sym root)
          (IsFlattened-IsFlat c.args.graph.now c.args.root ids c.loop-index.taken c.loop-index.invariant.1 inside c.requires.sorted));
      small = IsFlattened-small c.args.graph.now c.args.root ids c.loop-index.taken c.loop-index.invariant.1 (subst (λ l. length l < 2 ^ 60) c.as_slice-variables.ensures.value c.if-prove.false);
    }
