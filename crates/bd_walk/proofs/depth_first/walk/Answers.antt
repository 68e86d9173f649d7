-- Each visit keeps what the stack makes of what is finished, and makes it smaller.
use Rattle.std.proofs.Common.{◌≡◌, ℕ, Bool, slice_set, rules, ◌<◌, ◌++◌, ◌∷◌, [], false, true, length, slice_index_or, List, ap, sym, ◌∙◌, subst, arith, replicate}
use Rattle.std.proofs.lemmas.Grind.{common_steps}
use Rattle.std.proofs.lemmas.List.{get_or_default}
use Rattle.std.proofs.lemmas.Option.{slice_get-get_or}
use Rattle.bd_terms.specs.declared.node.Node.{Node}
use Rattle.bd_terms.specs.declared.node.Node.TheVariants.{True}
use Rattle.bd_terms.specs.Graph.{children}
use Rattle.bd_terms.proofs.Reaching.{mark_at}
use Rattle.bd_walk.specs.inner.Visits.{entries}
use Rattle.bd_walk.specs.declared.depth_first.Visit.{Visit}
use Rattle.bd_walk.specs.declared.depth_first.Visit.TheVariants.{Enter, Finish}
use Rattle.bd_walk.proofs.Walking.{IsWalking, IsWalking-start, ended, IsWalking-top, IsWalking-skip, IsWalking-enter, IsWalking-finish, skip-smaller, enter-smaller, finish-smaller}
use Rattle.bd_walk.proofs.depth_first.walk.Goals as goal

enter-top : (visits rest : List Visit) (v : Visit) (id : ℕ) → visits ≡ rest ++ v ∷ [] → v ≡ Enter id → visits ≡ rest ++ Enter id ∷ []
enter-top visits rest v id e is = e ∙ ap (λ u. rest ++ u ∷ []) is

entered : (nodes : List Node) (root : ℕ) (marks : List Bool) (finished : List ℕ) (visits rest : List Visit) (v : Visit) (id : ℕ) → IsWalking nodes root marks finished visits → visits ≡ rest ++ v ∷ [] → v ≡ Enter id → id < length nodes
entered nodes root marks finished visits rest v id w e is = IsWalking-top nodes root marks finished visits rest (Enter id) w (e ∙ ap (λ u. rest ++ u ∷ []) is)

finishes : (nodes : List Node) (root : ℕ) (marks : List Bool) (finished : List ℕ) (visits rest : List Visit) (v : Visit) (id : ℕ) → IsWalking nodes root marks finished visits → visits ≡ rest ++ v ∷ [] → v ≡ Finish id → id < length nodes
finishes nodes root marks finished visits rest v id w e is = IsWalking-top nodes root marks finished visits rest (Finish id) w (e ∙ ap (λ u. rest ++ u ∷ []) is)

pub loop-visit-init : goal.loop-visit-init
loop-visit-init c =
    let e : c.in_ok-is_finished.is_finished.items ≡ replicate (length c.args.graph.now) false = grind (arith, common_steps) in
    let none : c.new-finished.result.items ≡ [] = c.new-finished.ensures.items in
    let one : c.push.new.self.items ≡ Enter c.args.root ∷ [] = c.in_ok-push.ensures.items ∙ ap (λ l. l ++ Enter c.args.root ∷ []) c.new-visits.ensures.items in
    subst (λ l. IsWalking c.args.graph.now c.args.root c.in_ok-is_finished.is_finished.items l c.push.new.self.items) (sym none)
    (subst (λ l. IsWalking c.args.graph.now c.args.root c.in_ok-is_finished.is_finished.items [] l) (sym one)
    (IsWalking-start c.args.graph.now c.args.root c.in_ok-is_finished.is_finished.items c.requires e))

pub index-requires-in-Enter : goal.index-requires-in-Enter
index-requires-in-Enter c =
    let inside = entered c.args.graph.now c.args.root c.loop-visit.is_finished.items c.loop-visit.finished.items c.loop-visit.visits.items c.pop.new.self.items c.in-Some.visit c.in-Enter.id c.loop-visit.invariant c.in-Some.ensures.items c.in-Enter.is in
    omega (arith, c.index.ensures, inside, c.loop-visit.invariant.size)

pub node-requires : goal.node-requires
node-requires c =
    entered c.args.graph.now c.args.root c.loop-visit.is_finished.items c.loop-visit.finished.items c.loop-visit.visits.items c.pop.new.self.items c.in-Some.visit c.in-Enter.id c.loop-visit.invariant c.in-Some.ensures.items c.in-Enter.is

pub index_mut-requires : goal.index_mut-requires
index_mut-requires c =
    let inside = finishes c.args.graph.now c.args.root c.loop-visit.is_finished.items c.loop-visit.finished.items c.loop-visit.visits.items c.pop.new.self.items c.in-Some.visit c.in-Finish.id c.loop-visit.invariant c.in-Some.ensures.items c.in-Finish.is in
    omega (arith, c.index-in-Finish.ensures, inside, c.loop-visit.invariant.size)

pub loop-visit-smaller-in-Continue-branch-4 : goal.loop-visit-smaller-in-Continue-branch-4
loop-visit-smaller-in-Continue-branch-4 c =
    enter-smaller c.args.graph.now c.len.ensures.graph c.loop-visit.visits.items c.pop.new.self.items c.push_children.new.visits.items c.in-Enter.id c.node.result.now c.node.ensures.node
    (enter-top c.loop-visit.visits.items c.pop.new.self.items c.in-Some.visit c.in-Enter.id c.in-Some.ensures.items c.in-Enter.is)
    (c.in_ok-push_children-in-Enter.ensures ∙ ap (λ l. l ++ entries (children c.node.result.now)) c.in_ok-push-in-Enter.ensures.items)

pub loop-visit-preserved-in-Continue-branch-4 : goal.loop-visit-preserved-in-Continue-branch-4
loop-visit-preserved-in-Continue-branch-4 c =
    let inside = entered c.args.graph.now c.args.root c.loop-visit.is_finished.items c.loop-visit.finished.items c.loop-visit.visits.items c.pop.new.self.items c.in-Some.visit c.in-Enter.id c.loop-visit.invariant c.in-Some.ensures.items c.in-Enter.is in
    let within : c.index.result < length c.loop-visit.is_finished.items = omega (arith, c.index.ensures, inside, c.loop-visit.invariant.size) in
    let unmarked : c.index-in-Enter.result.now ≡ false = search rules in
    let mark : mark_at c.loop-visit.is_finished.items c.in-Enter.id ≡ false =
    ap (mark_at c.loop-visit.is_finished.items) (sym c.index.ensures) ∙ get_or_default c.loop-visit.is_finished.items c.index.result false c.index-in-Enter.result.now within ∙ sym c.index-in-Enter.ensures ∙ unmarked in
    IsWalking-enter c.args.graph.now c.len.ensures.graph c.args.root c.loop-visit.is_finished.items c.loop-visit.finished.items c.loop-visit.visits.items c.pop.new.self.items c.push_children.new.visits.items c.in-Enter.id c.node.result.now c.loop-visit.invariant
    (enter-top c.loop-visit.visits.items c.pop.new.self.items c.in-Some.visit c.in-Enter.id c.in-Some.ensures.items c.in-Enter.is)
    c.node.ensures.node mark
    (c.in_ok-push_children-in-Enter.ensures ∙ ap (λ l. l ++ entries (children c.node.result.now)) c.in_ok-push-in-Enter.ensures.items)

pub loop-visit-smaller-else-not-index : goal.loop-visit-smaller-else-not-index
loop-visit-smaller-else-not-index c =
    let inside = entered c.args.graph.now c.args.root c.loop-visit.is_finished.items c.loop-visit.finished.items c.loop-visit.visits.items c.pop.new.self.items c.in-Some.visit c.in-Enter.id c.loop-visit.invariant c.in-Some.ensures.items c.in-Enter.is in
    skip-smaller c.args.graph.now c.len.ensures.graph c.loop-visit.visits.items c.pop.new.self.items c.in-Enter.id (slice_index_or c.args.graph.now c.in-Enter.id True) (slice_get-get_or c.args.graph.now c.in-Enter.id True inside)
    (enter-top c.loop-visit.visits.items c.pop.new.self.items c.in-Some.visit c.in-Enter.id c.in-Some.ensures.items c.in-Enter.is)

pub loop-visit-preserved-else-not-index : goal.loop-visit-preserved-else-not-index
loop-visit-preserved-else-not-index c =
    let inside = entered c.args.graph.now c.args.root c.loop-visit.is_finished.items c.loop-visit.finished.items c.loop-visit.visits.items c.pop.new.self.items c.in-Some.visit c.in-Enter.id c.loop-visit.invariant c.in-Some.ensures.items c.in-Enter.is in
    let within : c.index.result < length c.loop-visit.is_finished.items = omega (arith, c.index.ensures, inside, c.loop-visit.invariant.size) in
    let marked : c.index-in-Enter.result.now ≡ true = search rules in
    let mark : mark_at c.loop-visit.is_finished.items c.in-Enter.id ≡ true =
    ap (mark_at c.loop-visit.is_finished.items) (sym c.index.ensures) ∙ get_or_default c.loop-visit.is_finished.items c.index.result false c.index-in-Enter.result.now within ∙ sym c.index-in-Enter.ensures ∙ marked in
    IsWalking-skip c.args.graph.now c.len.ensures.graph c.args.root c.loop-visit.is_finished.items c.loop-visit.finished.items c.loop-visit.visits.items c.pop.new.self.items c.in-Enter.id (slice_index_or c.args.graph.now c.in-Enter.id True) c.loop-visit.invariant
    (enter-top c.loop-visit.visits.items c.pop.new.self.items c.in-Some.visit c.in-Enter.id c.in-Some.ensures.items c.in-Enter.is)
    (slice_get-get_or c.args.graph.now c.in-Enter.id True inside) mark

pub loop-visit-smaller : goal.loop-visit-smaller
loop-visit-smaller c =
    finish-smaller c.args.graph.now c.loop-visit.visits.items c.pop.new.self.items c.in-Finish.id (c.in-Some.ensures.items ∙ ap (λ v. c.pop.new.self.items ++ v ∷ []) c.in-Finish.is)

pub loop-visit-preserved : goal.loop-visit-preserved
loop-visit-preserved c =
    IsWalking-finish c.args.graph.now c.args.root c.loop-visit.is_finished.items (slice_set c.loop-visit.is_finished.items c.index-in-Finish.result true) c.loop-visit.finished.items c.push-in-Finish.new.self.items c.loop-visit.visits.items c.pop.new.self.items c.in-Finish.id c.loop-visit.invariant
    (c.in-Some.ensures.items ∙ ap (λ v. c.pop.new.self.items ++ v ∷ []) c.in-Finish.is)
    (ap (λ i. slice_set c.loop-visit.is_finished.items i true) c.index-in-Finish.ensures)
    c.in_ok-push-in-Finish.ensures.items

pub returns : goal.returns
returns c =
    let none : c.loop-visit.visits.items ≡ [] = grind (arith, common_steps) in
    ended c.args.graph.now c.args.root c.loop-visit.is_finished.items c.loop-visit.finished.items c.loop-visit.visits.items c.loop-visit.invariant none
