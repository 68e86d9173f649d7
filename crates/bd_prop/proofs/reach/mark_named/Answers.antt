use Rattle.std.proofs.Common.{◌≡◌, ◌+◌, ℕ, Bool, true, List, length, set, refl, subst, sym}
use Rattle.std.proofs.lemmas.List.{length-set}
use Rattle.bd_prop.specs.declared.choices.Choice.TheVariants.{Test, Not, Leaf}
use Rattle.bd_prop.proofs.Naming.{IsFolded, folded_low, folded_none, folded_one}
use Rattle.bd_prop.proofs.reach.mark_named.Goals as goal
use Rattle.bd_prop.proofs.reach.mark_named.Goals.{in-Test, in-Not, in-Leaf}

abbrev mark : List Bool → ℕ → List Bool
mark marks c = set marks c true

keeps : (marks : List Bool) (c : ℕ) → length (mark marks c) ≡ length marks
keeps marks c = length-set marks c true

pub bounds-marks-a : goal.bounds-marks-a
bounds-marks-a c =
    folded_low mark keeps c.args.marks.now c.args.items.now c.loop-item.item-index (Test c.in-Test.a) _ c.loop-item.marks c.loop-item-test.true c.in-Test.is c.loop-item.invariant c.in-Test.a refl

pub bounds-marks-a-in-Leaf : goal.bounds-marks-a-in-Leaf
bounds-marks-a-in-Leaf c =
    folded_low mark keeps c.args.marks.now c.args.items.now c.loop-item.item-index (Leaf c.in-Leaf.a) _ c.loop-item.marks c.loop-item-test.true c.in-Leaf.is c.loop-item.invariant c.in-Leaf.a refl

pub loop-item-preserved : goal.loop-item-preserved
loop-item-preserved c =
    let marks = c.args.marks.now in
    let items = c.args.items.now in
    let k = c.loop-item.item-index in
    elim c.match-item.branch [
      | in-Test w ↦
          subst (IsFolded mark marks items (k + 1)) (sym w.marks-is)
          (folded_one mark keeps marks items k (Test w.in-Test.a) _ c.loop-item.marks c.loop-item-test.true w.in-Test.is c.loop-item.invariant w.in-Test.a refl)
      | in-Not w ↦
          subst (IsFolded mark marks items (k + 1)) (sym w.marks-is)
          (folded_none mark keeps marks items k Not _ c.loop-item.marks c.loop-item-test.true w.in-Not.is c.loop-item.invariant refl)
      | in-Leaf w ↦
          subst (IsFolded mark marks items (k + 1)) (sym w.marks-is)
          (folded_one mark keeps marks items k (Leaf w.in-Leaf.a) _ c.loop-item.marks c.loop-item-test.true w.in-Leaf.is c.loop-item.invariant w.in-Leaf.a refl)
    ]
