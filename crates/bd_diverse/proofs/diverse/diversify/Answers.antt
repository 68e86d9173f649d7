use Rattle.std.proofs.Common.{◌≡◌, ◌≤◌, ◌<◌, ℕ, [], List, IsTrue, length, ap, sym, ◌∙◌, subst}
use Rattle.bd_terms.specs.declared.node.Node.{Node}
use Rattle.bd_terms.specs.declared.node.Sym.TheVariants.{Function}
use Rattle.bd_terms.specs.Denotation.{World, truth}
use Rattle.bd_function.specs.declared.symbol_tables.SymTable.{SymTable}
use Rattle.bd_function.specs.Flat.{ReachesNoMemory}
use Rattle.bd_function.specs.Tables.{world_of_tables}
use Rattle.bd_diverse.specs.declared.base_world.BaseWorld.{BaseWorld}
use Rattle.bd_diverse.specs.Diverse.{IsDiverse, KeepsApart}
use Rattle.bd_diverse.specs.inner.Rows.{IsOld, SpreadsAll}
use Rattle.bd_diverse.proofs.Reading.{spread-apart, spread-diverse, spread-false}
use Rattle.bd_diverse.proofs.Valuing.{all-spread}
use Rattle.bd_diverse.proofs.diverse.diversify.Goals as goal

module _ (tables before between after : List SymTable) (nodes : List Node) (root : ℕ) (old : BaseWorld) (inside : root < length nodes) (none : ReachesNoMemory nodes root)
    (first : before ≡ tables) (second : between ≡ tables) (o : IsOld (world_of_tables before) nodes root old) (s : SpreadsAll (world_of_tables between) old nodes root (world_of_tables after)) where
  known : IsOld (world_of_tables tables) nodes root old
  known = subst (λ (l : List SymTable). IsOld (world_of_tables l) nodes root old) first o

  spread : SpreadsAll (world_of_tables tables) old nodes root (world_of_tables after)
  spread = subst (λ (l : List SymTable). SpreadsAll (world_of_tables l) old nodes root (world_of_tables after)) second s

  new_false : (¬ IsTrue (truth (world_of_tables tables) nodes root)) → ¬ IsTrue (truth (world_of_tables after) nodes root)
  new_false = spread-false (world_of_tables tables) (world_of_tables after) nodes spread.graph root old.bound inside none
      (all-spread (world_of_tables tables) old nodes spread.graph root inside none known (world_of_tables after) spread)

  new_diverse : IsDiverse (world_of_tables after) nodes root
  new_diverse = spread-diverse (world_of_tables tables) (world_of_tables after) nodes spread.graph root old.bound inside none
      (all-spread (world_of_tables tables) old nodes spread.graph root inside none known (world_of_tables after) spread)

  new_apart : KeepsApart (world_of_tables tables) (world_of_tables after)
  new_apart = record {
    apart = λ f g. spread-apart (world_of_tables tables) (world_of_tables after) nodes spread.graph root old.bound inside none
        (all-spread (world_of_tables tables) old nodes spread.graph root inside none known (world_of_tables after) spread) f g (known.constants (Function f)) (known.constants (Function g));
  }

pub returns-clause-is_false : goal.returns-clause-is_false
returns-clause-is_false c =
    subst (λ (l : List SymTable). ¬ IsTrue (truth (world_of_tables l) c.args.graph.now c.args.root)) (sym c.from_vec.ensures)
    (new_false c.args.tables.now c.as_slice.result.now c.as_slice-2.result.now c.in_ok-spread.spread.items c.args.graph.now c.args.root c.in_ok-old.old c.requires.root c.requires.memory
    c.as_slice.ensures c.as_slice-2.ensures c.in_ok-old.ensures c.in_ok-spread.ensures c.requires.is_false)

pub returns-clause-diverse : goal.returns-clause-diverse
returns-clause-diverse c =
    subst (λ (l : List SymTable). IsDiverse (world_of_tables l) c.args.graph.now c.args.root) (sym c.from_vec.ensures)
    (new_diverse c.args.tables.now c.as_slice.result.now c.as_slice-2.result.now c.in_ok-spread.spread.items c.args.graph.now c.args.root c.in_ok-old.old c.requires.root c.requires.memory
    c.as_slice.ensures c.as_slice-2.ensures c.in_ok-old.ensures c.in_ok-spread.ensures)

pub returns-clause-apart : goal.returns-clause-apart
returns-clause-apart c =
    subst (λ (l : List SymTable). KeepsApart (world_of_tables c.args.tables.now) (world_of_tables l)) (sym c.from_vec.ensures)
    (new_apart c.args.tables.now c.as_slice.result.now c.as_slice-2.result.now c.in_ok-spread.spread.items c.args.graph.now c.args.root c.in_ok-old.old c.requires.root c.requires.memory
    c.as_slice.ensures c.as_slice-2.ensures c.in_ok-old.ensures c.in_ok-spread.ensures)
