-- What is encoded so far.
use Rattle.std.specs.Prelude.{◌≡◌, ◌<◌, ◌≤◌, ◌+◌, ◌⊎◌, ℕ, false, List, [], ◌∷◌, ◌++◌, Contains, Option, Some, length, map, slice_get}
use Rattle.bd_model.specs.declared.table.Scalar.{Scalar}
use Rattle.bd_terms.specs.declared.node.Node.{Node}
use Rattle.bd_function.specs.declared.flat.FlatSym.{FlatSym}
use Rattle.bd_prop.specs.declared.node.PropNode.{PropNode}
use Rattle.bd_equality.specs.declared.settled.Done.{Done}
use Rattle.bd_equality.specs.declared.wanted.Visit.{Visit}
use Rattle.bd_equality.specs.declared.wanted.Visit.TheVariants.{Enter, Finish}
use Rattle.bd_equality.specs.declared.wanted.Wanted.{Wanted}
use Rattle.bd_equality.specs.declared.wanted.Wanted.TheVariants.{Truth, Equation}
use Rattle.bd_equality.specs.declared.wanted.Way.{Way as TheWay}
use Rattle.bd_equality.specs.Encoding.{KeepsMarkedApart}
use Rattle.bd_equality.specs.Made.{AreDifferent, AreTakenApart, Never, Ways, Words}
use Rattle.bd_equality.specs.inner.Split.{IsWanted, IsWay, parts, subject_of, way_of}
use Rattle.bd_equality.specs.inner.Sets.{known}
use Rattle.bd_equality.specs.inner.Means.{Gives, HasAtoms, Means, value_of}

-- a node is kept for what is wanted
pub record IsKnown (settled : List (Wanted × Done)) (wanted : Wanted) : Type 0 where
  pub done : Done
  pub known : known settled wanted ≡ Some done

-- this is the node that is kept
pub record IsNode (settled : List (Wanted × Done)) (wanted : Wanted) (node : ℕ) : Type 0 where
  pub done : Done
  pub known : known settled wanted ≡ Some done
  pub same : node ≡ done.node

-- the ways of what is settled are among these
pub record Include (syms : List FlatSym) (settled : List (Wanted × Done)) (ways : Ways) : Type 0 where
  pub same : (a b : ℕ) (done : Done) → known settled (Equation a b) ≡ Some done → ways a b ≡ way_of syms done.way

-- so is the way of what is wanted
abbrev pub HasWay : List FlatSym → Ways → Wanted → TheWay → Type 0
HasWay syms ways (Truth i) w = Unit {0}
HasWay syms ways (Equation a b) w = ways a b ≡ way_of syms w

-- those ways that include what is settled and this
pub record IncludeWith (syms : List FlatSym) (settled : List (Wanted × Done)) (wanted : Wanted) (w : TheWay) (ways : Ways) : Type 0 where
  pub earlier : Include syms settled ways
  pub way : HasWay syms ways wanted w

-- what is settled has its node
pub record IsEncoding (nodes : List Node) (syms : List FlatSym) (marked : Option (List ℕ)) (prop : List PropNode) (settled : List (Wanted × Done)) : Type 0 where
  pub atoms : HasAtoms nodes marked prop
  pub means : (wanted : Wanted) (done : Done) → known settled wanted ≡ Some done → Means nodes syms marked (Include syms settled) prop done.node (subject_of wanted)

-- nodes that are kept stand in the graph
pub record AreInside (prop : List PropNode) (settled : List (Wanted × Done)) : Type 0 where
  pub inside : (wanted : Wanted) (done : Done) → known settled wanted ≡ Some done → done.node < length prop

-- each of these is settled
abbrev pub AreKnown : List (Wanted × Done) → List Wanted → Type 0
AreKnown settled [] = Unit {0}
AreKnown settled (w ∷ ws) = IsKnown settled w × AreKnown settled ws

-- a node that stands for the equation of two words that are never equal
pub record GivesNever (prop prop' : List PropNode) (id : ℕ) : Type 0 where
  pub gives : (nodes : List Node) (syms : List FlatSym) (marked : Option (List ℕ)) (a b : ℕ) → AreTakenApart nodes a b → AreDifferent nodes syms marked a b
      → ((v : ℕ → Scalar) → KeepsMarkedApart nodes marked v → value_of nodes (Words a b) v ≡ false)
      → Gives nodes syms marked (λ ways. ways a b ≡ Some Never) prop prop' id (Words a b)

-- what was settled stays, and this is settled
pub record Settles (nodes : List Node) (syms : List FlatSym) (marked : Option (List ℕ)) (settled : List (Wanted × Done)) (prop' : List PropNode) (settled' : List (Wanted × Done)) (wanted : Wanted) : Type 0 where
  pub encoding : IsEncoding nodes syms marked prop' settled'
  pub stays : (w : Wanted) → IsKnown settled w → IsKnown settled' w
  pub known : IsKnown settled' wanted

-- what a visit is of
abbrev pub wanted_of : Visit → Wanted
wanted_of (Enter w) = w
wanted_of (Finish w way) = w

-- a visit of it stands in the stack, at a place or above it
pub record IsAwaited (visits : List Visit) (place : ℕ) (wanted : Wanted) : Type 0 where
  pub at : ℕ
  pub above : place ≤ at
  pub visit : Visit
  pub there : slice_get visits at ≡ Some visit
  pub is : wanted_of visit ≡ wanted

-- it is settled, or will be when the stack is down to a place
abbrev pub IsOwed : List (Wanted × Done) → List Visit → ℕ → Wanted → Type 0
IsOwed settled visits place wanted = IsKnown settled wanted ⊎ IsAwaited visits place wanted

-- all that is to be finished rests on what is settled or visited before
pub record IsSettling (nodes : List Node) (syms : List FlatSym) (marked : Option (List ℕ)) (settled : List (Wanted × Done)) (visits : List Visit) (wanted : Wanted) : Type 0 where
  pub fits : (k : ℕ) (v : Visit) → slice_get visits k ≡ Some v → IsWanted nodes (wanted_of v)
  pub ways : (k : ℕ) (p : Wanted) (w : TheWay) → slice_get visits k ≡ Some (Finish p w) → IsWay nodes syms marked p w
  pub parts : (k : ℕ) (p : Wanted) (w : TheWay) (x : Wanted) → slice_get visits k ≡ Some (Finish p w) → Contains (parts nodes syms p w) x → IsOwed settled visits (k + 1) x
  pub asked : IsOwed settled visits 0 wanted

-- what is entered puts on the stack: nothing if it is settled, else itself and what it rests on above it
abbrev pub Enters : List Node → List FlatSym → Option (List ℕ) → List (Wanted × Done) → List Visit → List Visit → Wanted → Type 0
Enters nodes syms marked settled old new p =
    ((new ≡ old) × IsKnown settled p)
    ⊎ ((w : TheWay) × IsWay nodes syms marked p w × (new ≡ (old ++ Finish p w ∷ []) ++ map Enter (parts nodes syms p w)))
