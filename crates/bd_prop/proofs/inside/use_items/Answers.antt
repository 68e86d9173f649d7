use Rattle.std.proofs.Common.{◌≡◌, ◌+◌, ◌∙◌, ℕ, List, length, refl, subst, sym}
use Rattle.std.proofs.lemmas.List.{length-set}
use Rattle.bd_prop.specs.declared.choices.Choice.TheVariants.{Test, Not, Leaf}
use Rattle.bd_prop.specs.declared.inside.Uses.{Uses}
use Rattle.bd_prop.specs.declared.inside.Uses.TheVariants.{Elsewhere}
use Rattle.bd_prop.specs.Inside.{add_use}
use Rattle.bd_prop.proofs.Naming.{IsFolded, folded_low, folded_none, folded_one}
use Rattle.bd_prop.proofs.inside.use_items.Goals as goal
use Rattle.bd_prop.proofs.inside.use_items.Goals.{in-Test, in-Not, in-Leaf}

keeps : (uses : List Uses) (c : ℕ) → length (add_use Elsewhere uses c) ≡ length uses
keeps uses c = length-set uses c _

pub add_use-requires : goal.add_use-requires
add_use-requires c =
    folded_low (add_use Elsewhere) keeps c.args.uses.now c.args.items.now c.loop-item.item-index (Test c.in-Test.a) _ c.loop-item.uses c.loop-item-test.true c.in-Test.is c.loop-item.invariant c.in-Test.a refl

pub add_use-requires-in-Leaf : goal.add_use-requires-in-Leaf
add_use-requires-in-Leaf c =
    folded_low (add_use Elsewhere) keeps c.args.uses.now c.args.items.now c.loop-item.item-index (Leaf c.in-Leaf.a) _ c.loop-item.uses c.loop-item-test.true c.in-Leaf.is c.loop-item.invariant c.in-Leaf.a refl

pub loop-item-preserved : goal.loop-item-preserved
loop-item-preserved c =
    let uses = c.args.uses.now in
    let items = c.args.items.now in
    let k = c.loop-item.item-index in
    let now = c.loop-item.uses in
    elim c.match-item.branch [
      | in-Test w ↦
          subst (IsFolded (add_use Elsewhere) uses items (k + 1)) (sym (w.uses-is ∙ w.add_use.ensures))
          (folded_one (add_use Elsewhere) keeps uses items k (Test w.in-Test.a) _ now c.loop-item-test.true w.in-Test.is c.loop-item.invariant w.in-Test.a refl)
      | in-Not w ↦
          subst (IsFolded (add_use Elsewhere) uses items (k + 1)) (sym w.uses-is)
          (folded_none (add_use Elsewhere) keeps uses items k Not _ now c.loop-item-test.true w.in-Not.is c.loop-item.invariant refl)
      | in-Leaf w ↦
          subst (IsFolded (add_use Elsewhere) uses items (k + 1)) (sym (w.uses-is ∙ w.add_use-in-Leaf.ensures))
          (folded_one (add_use Elsewhere) keeps uses items k (Leaf w.in-Leaf.a) _ now c.loop-item-test.true w.in-Leaf.is c.loop-item.invariant w.in-Leaf.a refl)
    ]
