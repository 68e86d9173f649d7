-- Another case, followed through the run of a case: where a slice has the nodes that a value rests on, and the other
-- case agrees on their places, the value is the same there.
use Rattle.std.specs.Prelude.{◌≡◌, ⊤, ℕ, Bool, IsTrue, List, [], ◌∷◌, false, Some, slice_get, slice_index_or}
use Rattle.std.specs.List.{AllZip}
use Rattle.bd_model.specs.Table.{read, write}
use Rattle.bd_model.specs.Value.{truth, scalar_of, memory_of}
use Rattle.bd_model.specs.declared.table.Scalar.{Scalar}
use Rattle.bd_model.specs.declared.table.Scalar.TheVariants as scalar
use Rattle.bd_model.specs.declared.table.Memory.{Memory}
use Rattle.bd_model.specs.declared.table.Value.{Value}
use Rattle.bd_model.specs.declared.table.Value.TheVariants as value
use Rattle.bd_model.specs.declared.case.Case.{Case}
use Rattle.bd_slice.specs.Places.{AgreesAt}
use Rattle.bd_slice.specs.declared.graph.SupportNode.{SupportNode}
use Rattle.bd_slice.specs.declared.graph.SupportNode.TheVariants as node
use Rattle.bd_slice.specs.declared.kept.Traced.{Traced}
use Rattle.bd_slice.specs.declared.kept.TracedWord.{TracedWord}
use Rattle.bd_slice.specs.declared.kept.Link.{Link}
use Rattle.bd_slice.specs.declared.kept.Link.TheVariants as link
use Rattle.bd_slice.specs.declared.kept.Base.{Base}
use Rattle.bd_slice.specs.declared.kept.Base.TheVariants as base
use Rattle.bd_slice.specs.declared.kept.TracedMemory.{TracedMemory}
use Rattle.bd_slice.specs.declared.kept.Kept.{Kept}
use Rattle.bd_slice.specs.declared.kept.Kept.TheVariants as kept

-- another case, and which nodes a slice has
pub record Other : Type 0 where
  pub case : Case
  pub has : ℕ → Bool

-- what a node that the slice has brings with it
abbrev pub Brings : Case → Other → SupportNode → Type 0
Brings c o node.Nothing = ⊤
Brings c o (node.Place p) = AgreesAt c o.case p
Brings c o (node.Both a b) = IsTrue (o.has a) × IsTrue (o.has b)

-- the slice has the first node, and with each node what that stands on; the other case agrees on its places
pub record Holds (c : Case) (nodes : List SupportNode) (o : Other) : Type 0 where
  pub first : IsTrue (o.has 0)
  pub each : (i : ℕ) (n : SupportNode) → slice_get nodes i ≡ Some n → IsTrue (o.has i) →
      Brings c o n

-- what holds of the new nodes holds of the old ones
abbrev pub Grows : List SupportNode → List SupportNode → Type 0
Grows old new = (c : Case) (o : Other) → Holds c new o → Holds c old o

-- the value is the same in the other case if the slice has what it rests on
abbrev pub Follows : Other → Traced → Scalar → Type 0
Follows o t x = IsTrue (o.has t.node) → x ≡ t.value

abbrev pub FollowsWord : Other → TracedWord → ℕ → Type 0
FollowsWord o t n = IsTrue (o.has t.node) → n ≡ t.word

-- a traced value that is a function of two others
abbrev pub Combines :
    List SupportNode → Traced → Traced → Traced → (Scalar → Scalar → Scalar) → Type 0
Combines nodes p q t f =
    (c : Case) (o : Other) (x y : Scalar) → Holds c nodes o → Follows o p x → Follows o q y →
    Follows o t (f x y)

-- the memory that a traced one stands over
abbrev pub base_memory : Case → Base → Memory
base_memory c base.Zeros = record { default = 0; rows = [] }
base_memory c (base.Entry i) = memory_of (slice_index_or c.state i (truth false))

-- the memory below a write, and the address and word written
pub record Written (below : Memory → Type 0) (address word : ℕ → Type 0) (m : Memory) : Type 0 where
  pub memory : Memory
  pub at : ℕ
  pub put : ℕ
  pub is_below : below memory
  pub is_at : address at
  pub is_put : word put
  pub made : m ≡ write memory at put

abbrev pub FollowsLinks : Other → Base → List Link → Memory → Type 0
FollowsLinks o b [] m = m ≡ base_memory o.case b
FollowsLinks o b (link.Under n ∷ ls) m = IsTrue (o.has n) → FollowsLinks o b ls m
FollowsLinks o b (link.Write a d ∷ ls) m =
    Written (FollowsLinks o b ls) (FollowsWord o a) (FollowsWord o d) m

-- what a memory has at an address is what the memory below the first links has there
pub record ReadsBelow (o : Other) (b : Base) (rest : List Link) (a : ℕ) (m : Memory) : Type 0 where
  pub memory : Memory
  pub follows : FollowsLinks o b rest memory
  pub same : read m a ≡ read memory a

abbrev pub FollowsMemory : Other → TracedMemory → Memory → Type 0
FollowsMemory o t m = FollowsLinks o t.base t.links m

abbrev pub FollowsKept : Other → Kept → Value → Type 0
FollowsKept o (kept.Scalar t) v = IsTrue (o.has t.node) → v ≡ value.Scalar t.value
FollowsKept o (kept.Memory m) v =
    FollowsMemory o m (memory_of v) × (IsTrue (o.has m.shape) → scalar_of v ≡ scalar.Bool false)

abbrev pub FollowsState : Other → List Kept → List Value → Type 0
FollowsState o ks vs = AllZip (FollowsKept o) ks vs

abbrev pub FollowsInputs : Other → List Traced → List Scalar → Type 0
FollowsInputs o ts xs = AllZip (Follows o) ts xs

-- what a scalar that isn't there is kept as
abbrev pub no_scalar : Traced
no_scalar = record { value = scalar.Bool false; node = 0 }

abbrev pub nothing_kept : Kept
nothing_kept = kept.Scalar no_scalar

-- a kept value as a scalar, and as a memory
abbrev pub scalar_kept : Kept → Traced
scalar_kept (kept.Scalar t) = t
scalar_kept (kept.Memory m) = record { value = scalar.Bool false; node = m.shape }

abbrev pub memory_kept : Kept → TracedMemory
memory_kept (kept.Scalar t) =
    record { base = base.Zeros; links = link.Under t.node ∷ []; shape = 0 }
memory_kept (kept.Memory m) = m
