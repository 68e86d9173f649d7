use Rattle.std.proofs.Common.{length, ap, sym, subst, arith, option_copied}
use Rattle.std.proofs.lemmas.List.{length_push}
use Rattle.bd_equality.specs.inner.Rows.{AreMarkedSymbols, AreTails, IsTail}
use Rattle.bd_equality.proofs.Passing.{AreTails-none, AreTails-push}
use Rattle.bd_equality.proofs.rows.row_words.Goals as goal

pub loop-index-init : goal.loop-index-init
loop-index-init c = record {
  count = ap length c.new-tails.ensures.items;
  tails = AreTails-none c.args.flat.now.graph c.args.flat.now.syms (option_copied c.args.marked) c.new-tails.result.items c.new-tails.ensures.items;
}

pub loop-index-preserved : goal.loop-index-preserved
loop-index-preserved c =
    let old = c.loop-index.tails.items in
    let inv = c.loop-index.invariant in
    record {
      count = omega (arith, ap length c.in_ok-push.ensures.items, length_push old c.tail_of-tail.result, inv.count);
      tails =
          AreTails-push c.args.flat.now.graph c.args.flat.now.syms (option_copied c.args.marked) old c.push.new.self.items c.loop-index.index c.tail_of-tail.result inv.count c.in_ok-push.ensures.items
          (λ tail e.
          subst (IsTail c.args.flat.now.graph c.args.flat.now.syms (option_copied c.args.marked) tail) c.id.ensures
          (c.tail_of-tail.ensures (option_copied c.args.marked)
          (subst (AreMarkedSymbols c.args.flat.now.graph c.args.flat.now.syms (option_copied c.args.marked)) (sym c.deref.ensures.value) c.in_ok-symbols.ensures)
          (subst (AreTails c.args.flat.now.graph c.args.flat.now.syms (option_copied c.args.marked)) (sym c.deref-in-loop-index.ensures.value) inv.tails) tail e))
          inv.tails;
    }

pub returns : goal.returns
returns c = c.loop-index.invariant.tails
