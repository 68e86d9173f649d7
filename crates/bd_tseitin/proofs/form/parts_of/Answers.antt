use Rattle.std.proofs.Common.{◌≡◌, ◌↔◌, ◌<◌, ◌≤◌, ◌∙◌, ℕ, Bool, true, false, List, [], ◌∷◌, IsSome, is_some, length, get_or, None, refl, ap, sym, subst, arith, suc, add-one}
use Rattle.std.proofs.lemmas.Option.{same_Some}
use Rattle.bd_prop.specs.declared.node.PropNode.{PropNode}
use Rattle.bd_prop.specs.Graph.{IsGraph, StandsAt, Reaches}
use Rattle.bd_prop.proofs.Forms.{read_stands}
use Rattle.bd_tseitin.specs.inner.Step.{Pushes, is_set}
use Rattle.bd_tseitin.proofs.Numbering.{literal_of}
use Rattle.bd_tseitin.proofs.Reached.{AreReached}
use Rattle.bd_tseitin.proofs.Stage.{IsStage, stage_start, stage_skip, stage_add, children_known, root_known, vars_at_most, IsTseitin-stage}
use Rattle.bd_tseitin.proofs.form.parts_of.Goals as goal
use Rattle.bd_tseitin.proofs.form.parts_of.Goals.{then-marks-id+in_ok-add, else-marks-id+in_ok-push}

-- the reached nodes, from the clauses of the calls
reached_of : (prop : List PropNode) (root : ℕ) (marks given : List Bool) → IsGraph prop → root < length prop → marks ≡ given
    → ((id : ℕ) → (get_or given id false ≡ true) ↔ Reaches prop root id) → AreReached prop root (is_set marks)
reached_of prop root marks given graph below marked are = record {
  graph = graph;
  below = below;
  which = λ id. subst (λ ms. (get_or ms id false ≡ true) ↔ Reaches prop root id) (sym marked) (are id);
}

stands_in : (prop nodes : List PropNode) (id : ℕ) (n : PropNode) → nodes ≡ prop → id < length nodes → n ≡ get_or nodes id n → StandsAt prop id n
stands_in prop nodes id n same inside is = subst (λ xs. StandsAt xs id n) same (read_stands nodes id n inside is)

pub loop-id-init : goal.loop-id-init
loop-id-init c = stage_start c.args.prop.now (is_set c.as_slice-marks.result.now) _ c.in_ok-with_capacity.ensures.items refl c.new.ensures.items c.new-2.ensures.items

pub add-requires-clause-known : goal.add-requires-clause-known
add-requires-clause-known c =
    let prop = c.args.prop.now in
    let marks = c.as_slice-marks.result.now in
    let id = c.loop-id.id in
    let n = c.index-nodes-id.result in
    let reached = reached_of prop c.args.root marks _ c.nodes-nodes.ensures.graph c.requires c.as_slice-marks.ensures c.in_ok-marked.ensures.marks in
    let at = stands_in prop c.nodes-nodes.result.now id n c.nodes-nodes.ensures.value c.loop-id-test.true c.index-nodes-id.is in
    children_known prop (is_set marks) c.args.root reached id c.loop-id.parts n c.if-marks-id.true at c.loop-id.invariant

pub add-requires-clause-room : goal.add-requires-clause-room
add-requires-clause-room c =
    let few = vars_at_most c.args.prop.now (is_set c.as_slice-marks.result.now) c.loop-id.id c.loop-id.parts c.loop-id.invariant in omega arith

pub loop-id-preserved : goal.loop-id-preserved
loop-id-preserved c =
    let prop = c.args.prop.now in
    let marks = c.as_slice-marks.result.now in
    let has = is_set marks in
    let id = c.loop-id.id in
    let old = c.loop-id.parts in
    let n = c.index-nodes-id.result in
    let reached = reached_of prop c.args.root marks _ c.nodes-nodes.ensures.graph c.requires c.as_slice-marks.ensures c.in_ok-marked.ensures.marks in
    let at = stands_in prop c.nodes-nodes.result.now id n c.nodes-nodes.ensures.value c.loop-id-test.true c.index-nodes-id.is in
    rw add-one (elim c.if-marks-id.branch [
      | then-marks-id+in_ok-add w ↦
          subst (IsStage prop has (suc id)) (sym w.parts-is)
          (stage_add prop has c.args.root reached id n old w.add.new.parts w.if-marks-id.true at c.loop-id.invariant w.in_ok-add.ensures)
      | else-marks-id+in_ok-push w ↦
          subst (IsStage prop has (suc id)) (sym w.parts-is)
          (stage_skip prop has id old _ w.if-marks-id.false c.loop-id.invariant w.in_ok-push.ensures.items refl refl refl)
    ])

ended : (prop nodes : List PropNode) (id : ℕ) → nodes ≡ prop → id ≤ length nodes → length nodes ≤ id → id ≡ length prop
ended prop nodes id same low high = let size : length nodes ≡ length prop = ap length same in omega arith

pub literal-unit-requires : goal.literal-unit-requires
literal-unit-requires c =
    let prop = c.args.prop.now in
    let marks = c.as_slice-marks.result.now in
    let reached = reached_of prop c.args.root marks _ c.nodes-nodes.ensures.graph c.requires c.as_slice-marks.ensures c.in_ok-marked.ensures.marks in
    let end : c.loop-id.id ≡ length prop = ended prop c.nodes-nodes.result.now c.loop-id.id c.nodes-nodes.ensures.value c.loop-id.auto.id-end c.loop-id-test.false in
    let done : IsStage prop (is_set marks) (length prop) c.loop-id.parts = subst (λ k. IsStage prop (is_set marks) k c.loop-id.parts) end c.loop-id.invariant in
    subst (λ t. IsSome (get_or t c.args.root None)) (sym c.deref.ensures.value)
    (ap is_some (root_known prop (is_set marks) c.args.root reached c.loop-id.parts done))

pub returns-clause-form : goal.returns-clause-form
returns-clause-form c =
    let prop = c.args.prop.now in
    let marks = c.as_slice-marks.result.now in
    let has = is_set marks in
    let parts = c.loop-id.parts in
    let new = c.push-2.new.clauses.items in
    let reached = reached_of prop c.args.root marks _ c.nodes-nodes.ensures.graph c.requires c.as_slice-marks.ensures c.in_ok-marked.ensures.marks in
    let end : c.loop-id.id ≡ length prop = ended prop c.nodes-nodes.result.now c.loop-id.id c.nodes-nodes.ensures.value c.loop-id.auto.id-end c.loop-id-test.false in
    let done : IsStage prop has (length prop) parts = subst (λ k. IsStage prop has k parts) end c.loop-id.invariant in
    let unit : c.literal-unit.result ≡ literal_of prop has c.args.root =
    same_Some _ _ (sym c.literal-unit.ensures ∙ ap (λ t. get_or t c.args.root None) c.deref.ensures.value ∙ root_known prop has c.args.root reached parts done) in
    IsTseitin-stage prop has c.args.root reached parts new done
    (subst (λ l. Pushes parts.clauses.items ((l ∷ []) ∷ []) new) unit c.in_ok-push-2.ensures)
