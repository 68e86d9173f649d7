-- Each term is passed in turn, and the root is among them.
use Rattle.std.proofs.Common.{◌≡◌, ◌≤◌, ◌+◌, ◌∷◌, [], length, ap, sym, ◌∙◌, arith, length-append}
use Rattle.bd_memory.proofs.Plain.{IsPlain-HasNoMemory}
use Rattle.bd_memory.proofs.Making.{root-made}
use Rattle.bd_memory.proofs.Next.{IsPassed-push, root-Means}
use Rattle.bd_memory.proofs.pass.forward_marked.Goals as goal

pub loop-index-preserved : goal.loop-index-preserved
loop-index-preserved g c =
    let stay : length c.next.new.self.places.items ≡ length c.loop-index.done.places.items = ap length c.in_ok-place.ensures.places in
    let next : c.id.result ≡ length c.next.new.self.places.items = c.id.ensures ∙ sym (stay ∙ c.loop-index.invariant.size) in
    record {
      holds =
          IsPassed-push c.args.graph.now g.top c.next.new.self.graph c.next.new.self.places.items c.push.new.self.items c.next.new.self.reads c.id.result c.in_ok-place.place
          c.in_ok-place.ensures.holds next c.in_ok-place.ensures.means c.in_ok-place.ensures.made c.in_ok-push.ensures.items;
      size = ap length c.in_ok-push.ensures.items ∙ length-append c.next.new.self.places.items (c.in_ok-place.place ∷ []) ∙ ap (λ n. n + 1) (stay ∙ c.loop-index.invariant.size);
    }

pub returns-clause-denotes : goal.returns-clause-denotes
returns-clause-denotes g c =
    let all : length c.args.graph.now ≤ length c.loop-index.done.places.items = omega (arith, c.loop-index.invariant.size, c.len-index-end.ensures.len) in
    record {
      same = λ w.
          (root-Means c.args.graph.now g.top c.loop-index.done.graph c.loop-index.done.places.items c.loop-index.done.reads c.args.root c.place-place.result
          c.loop-index.invariant.holds c.requires.1.0 all c.requires.0 c.place-place.ensures).denotes.is w;
    }

pub returns-clause-sorted : goal.returns-clause-sorted
returns-clause-sorted g c =
    let all : length c.args.graph.now ≤ length c.loop-index.done.places.items = omega (arith, c.loop-index.invariant.size, c.len-index-end.ensures.len) in
    (root-Means c.args.graph.now g.top c.loop-index.done.graph c.loop-index.done.places.items c.loop-index.done.reads c.args.root c.place-place.result
    c.loop-index.invariant.holds c.requires.1.0 all c.requires.0 c.place-place.ensures).sorted

pub returns-clause-memories : goal.returns-clause-memories
returns-clause-memories g c =
    IsPlain-HasNoMemory c.loop-index.done.graph c.loop-index.invariant.holds.graph c.loop-index.invariant.holds.plain

pub returns-clause-made : goal.returns-clause-made
returns-clause-made g c =
    let all : length c.args.graph.now ≤ length c.loop-index.done.places.items = omega (arith, c.loop-index.invariant.size, c.len-index-end.ensures.len) in
    root-made c.args.graph.now g.top c.loop-index.done.graph c.loop-index.done.places.items c.loop-index.done.reads c.args.root c.place-place.result
    c.loop-index.invariant.holds c.requires.1.0 all c.requires.0 c.place-place.ensures
