use Rattle.std.proofs.Common.{◌≡◌, ◌==◌, ℕ, true, cond, None, nat_eq, refl, ap, sym, subst, ◌∙◌}
use Rattle.std.proofs.lemmas.Bool.{and_from, not_from_false}
use Rattle.std.specs.HashMap.{get}
use Rattle.std.specs.Set.{is_member}
use Rattle.bd_transitive.specs.declared.min_degree.EliminationGraph.{EliminationGraph}
use Rattle.bd_transitive.specs.inner.EliminationGraph.{keys_of, neighbours, rejoined}
use Rattle.bd_transitive.proofs.Eliminating.{IsTaken, ordered-ends, own-others, taken-all, taken-more, taken-none}
use Rattle.bd_transitive.proofs.Queues.{left-removed, neighbours-removed, sound-taken}
use Rattle.bd_transitive.proofs.min_degree.fewest_first.Goals as goal

pub loop-vertex-init : goal.loop-vertex-init
loop-vertex-init c =
    subst (IsTaken c.args.edges.now c.in_ok-left.left) (sym c.in_ok-order.ensures.items)
    (taken-none c.args.edges.now c.in_ok-left.left c.requires c.in_ok-left.ensures.sound c.in_ok-left.ensures.left c.in_ok-left.ensures.joined)

pub join-requires-clause-sound : goal.join-requires-clause-sound
join-requires-clause-sound c =
    let gone = λ (q : ℕ). c.remove.ensures.updates.0 q ∙ ap (λ m. cond (nat_eq c.in-Some.vertex q) None (get nat_eq m q)) c.in-Some.ensures.same in
    sound-taken c.loop-vertex.left c.next.new.self (record { neighbours = c.remove.new.self; queue = c.next.new.self.queue }) c.in-Some.vertex c.in-Some.ensures.same gone c.loop-vertex.invariant.sound c.in-Some.ensures.queued refl

pub join-requires-clause-left : goal.join-requires-clause-left
join-requires-clause-left c = λ q at.
    let l : EliminationGraph = c.loop-vertex.left in
    let v = c.in-Some.vertex in
    let gone = λ (q : ℕ). c.remove.ensures.updates.0 q ∙ ap (λ m. cond (nat_eq v q) None (get nat_eq m q)) c.in-Some.ensures.same in
    let own_is = c.as_slice.ensures.keys ∙ ap keys_of (sym c.in-Some-remove.is ∙ c.remove.ensures.value ∙ ap (λ m. get nat_eq m v) c.in-Some.ensures.same) in
    let other = own-others c.args.edges.now l c.loop-vertex.order.items v q c.loop-vertex.invariant c.in-Some.ensures.left (subst (λ ns. is_member nat_eq ns q ≡ true) own_is at) in
    left-removed l (record { neighbours = c.remove.new.self; queue = c.next.new.self.queue }) v gone q ∙ and_from _ _ other.0 (not_from_false (v == q) other.1)

pub loop-vertex-preserved : goal.loop-vertex-preserved
loop-vertex-preserved c =
    let l : EliminationGraph = c.loop-vertex.left in
    let v = c.in-Some.vertex in
    let own = c.as_slice.result.now in
    let mid : EliminationGraph = record { neighbours = c.remove.new.self; queue = c.next.new.self.queue } in
    let gone = λ (q : ℕ). c.remove.ensures.updates.0 q ∙ ap (λ m. cond (nat_eq v q) None (get nat_eq m q)) c.in-Some.ensures.same in
    let own_is : own ≡ neighbours l v = c.as_slice.ensures.keys ∙ ap keys_of (sym c.in-Some-remove.is ∙ c.remove.ensures.value ∙ ap (λ m. get nat_eq m v) c.in-Some.ensures.same) in
    let h = c.in_ok-join-in-Some-remove.ensures in
    subst (IsTaken c.args.edges.now c.join.new.self) (sym c.in_ok-push.ensures.items)
    (taken-more c.args.edges.now l c.join.new.self c.loop-vertex.order.items own v c.loop-vertex.invariant c.in-Some.ensures.left own_is c.in-Some.ensures.fewest h.sound
    (λ q. h.left q ∙ left-removed l mid v gone q)
    (λ q differ at w. h.joined q at w ∙ ap (λ ns. rejoined (is_member nat_eq ns) own v q w) (neighbours-removed l mid v gone q differ))
    (λ q differ none. h.others q none ∙ neighbours-removed l mid v gone q differ))

pub returns-clause-fewest : goal.returns-clause-fewest
returns-clause-fewest c = (taken-all c.args.edges.now c.loop-vertex.left c.loop-vertex.order.items c.loop-vertex.invariant (c.in_default.ensures.none refl)).fewest

pub returns-clause-distinct : goal.returns-clause-distinct
returns-clause-distinct c = (taken-all c.args.edges.now c.loop-vertex.left c.loop-vertex.order.items c.loop-vertex.invariant (c.in_default.ensures.none refl)).distinct

pub returns-clause-ends : goal.returns-clause-ends
returns-clause-ends c = ordered-ends c.args.edges.now c.loop-vertex.order.items (taken-all c.args.edges.now c.loop-vertex.left c.loop-vertex.order.items c.loop-vertex.invariant (c.in_default.ensures.none refl))
