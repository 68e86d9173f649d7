-- What a node adds to the values that are decoded.
use Rattle.std.specs.Prelude.{◌≡◌, Contains, ℕ, Bool, ◌==◌, ◌<◌, ◌+◌, ◌*◌, ◌^◌, List, Option, Some, unwrap_or, nat_eq, if◌then◌else◌}
use Rattle.std.specs.Map.{lookup}
use Rattle.bd_model.specs.declared.table.Scalar.{Scalar}
use Rattle.bd_model.specs.declared.table.Scalar.TheVariants as scalar
use Rattle.bd_terms.specs.declared.node.Node.{Node}
use Rattle.bd_terms.specs.declared.node.Node.TheVariants.{App, Pred}
use Rattle.bd_terms.specs.declared.node.Sym.TheVariants.{Var}
use Rattle.bd_terms.specs.Graph.{uses}
use Rattle.bd_model.specs.declared.design.Sort.TheVariants as sort
use Rattle.bd_prop.specs.declared.atom.Atom.{Atom}
use Rattle.bd_prop.specs.declared.atom.Atom.TheVariants as atom
use Rattle.bd_prop.specs.Values.{truth_of}
use Rattle.bd_lift.specs.Decoded.{variable_use}

-- the word of a variable by the classes of ends, or after so many classes
abbrev pub word_by : List (ℕ × ℕ) → ℕ → ℕ → ℕ
word_by ends count x = unwrap_or (lookup (nat_eq x) ends) (count + 2 * x)

-- the number of a variable that the node applies as a word has 60 bits
abbrev pub HasSmallVariable : Node → Type 0
HasSmallVariable (App (Var x) args) = x < 2 ^ 60
HasSmallVariable _ = Unit {0}

-- what is held at y after the node, where this was held before it
abbrev pub decoded_at : (ℕ → ℕ) → List (Atom × Bool) → Node → ℕ → Option Scalar → Option Scalar
decoded_at word atoms (App (Var x) args) y before =
    if x == y then Some (scalar.Word (word x)) else before
decoded_at word atoms (Pred (Var x) args) y before =
    if x == y then Some (scalar.Bool (truth_of atoms (atom.Truth x))) else before
decoded_at word atoms _ y before = before

-- the variables of the nodes so far have their values
pub record AreDecodedSo (nodes : List Node) (word : ℕ → ℕ) (atoms : List (Atom × Bool)) (h : ℕ → Option Scalar) : Type 0 where
  pub words : (x : ℕ) → Contains (uses nodes) (variable_use x sort.Word) → h x ≡ Some (scalar.Word (word x))
  pub truths : (x : ℕ) → Contains (uses nodes) (variable_use x sort.Bool) → h x ≡ Some (scalar.Bool (truth_of atoms (atom.Truth x)))
