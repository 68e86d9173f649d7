-- What is forwarded so far.
use Rattle.std.specs.Prelude.{◌≡◌, ◌≢◌, ◌↔◌, IsTrue, ℕ, ◌<◌, List, None, Some, length, slice_index_or, slice_get, Bool, true, false}
use Rattle.bd_model.specs.declared.design.Sort.TheVariants as sort
use Rattle.bd_terms.specs.declared.node.Node.{Node}
use Rattle.bd_terms.specs.declared.node.Node.TheVariants.{Eq, Ite}
use Rattle.bd_terms.specs.Graph.{AddsUses, Extends, Use, HasSort, IsGraph, sort_at}
use Rattle.bd_terms.specs.Reaches.{Reaches}
use Rattle.bd_terms.specs.Denotation.{World, Denoted, Word, contents, denoted, word}
use Rattle.bd_walk.specs.Carried.{AppliesReached}
use Rattle.bd_walk.specs.inner.Carrying.{Means}
use Rattle.bd_walk.specs.Built.{IsBuilt}
use Rattle.bd_memory.specs.Forwarded.{Forwarded, Term, At, is_plain}
use Rattle.bd_memory.specs.inner.Reads.{known}
use Rattle.bd_memory.specs.declared.reads.ReadKey.{ReadKey}
use Rattle.bd_memory.specs.declared.forwarding.Forwarding.{Forwarding}
use Rattle.bd_memory.specs.declared.forwarding.ReadState.{ReadState}
use Rattle.bd_memory.specs.declared.forwarding.ReadState.TheVariants.{Waits, Word as Given}

pub record IsPlain (nodes : List Node) : Type 0 where
  pub plain : (id : ℕ) (node : Node) → slice_get nodes id ≡ Some node → is_plain node ≡ true

-- the word that a memory of the old graph has at an address of the new one
abbrev pub word_at : List Node → List Node → ℕ → ℕ → World → Denoted
word_at old new m b w = Word (contents w old m (word w new b))

-- the place in the new graph of a place in the old one
abbrev pub place : List ℕ → ℕ → ℕ
place places k = slice_index_or places k 0

-- the new graph, what each reached term so far that is no memory is there, and what each read that is built is
pub record IsForwarding (old : List Node) (root : ℕ) (new : List Node) (places : List ℕ) (reads : List (ReadKey × ℕ)) : Type 0 where
  pub source : IsGraph old
  pub graph : IsGraph new
  pub plain : IsPlain new
  pub applies : AppliesReached old root new
  pub terms : (k : ℕ) → k < length places → Reaches old root k → sort_at old k ≢ sort.Memory → Means new (place places k) (sort_at old k) (λ w. denoted w old k)
  pub addresses : (m b id : ℕ) → known reads m b ≡ Some id → HasSort new b sort.Word
  pub words : (m b id : ℕ) → known reads m b ≡ Some id → Means new id sort.Word (word_at old new m b)
  pub made_terms : (k : ℕ) → k < length places → Reaches old root k → sort_at old k ≢ sort.Memory → Forwarded old new (Term k) (place places k)
  pub made_words : (m b id : ℕ) → known reads m b ≡ Some id → Forwarded old new (At m b) id

-- the same of the record that the code keeps
abbrev pub Holds : List Node → ℕ → Forwarding → Type 0
Holds old root f = IsForwarding old root f.graph f.places.items f.reads

-- the read of the memory at the address waits for that of a memory below it, or is this word
abbrev pub IsReadState : List Node → Forwarding → ℕ → ℕ → ReadState → Type 0
IsReadState old f m b (Waits c) = (c < m) × HasSort old c sort.Memory × Reaches old m c × (known f.reads c b ≡ None)
IsReadState old f m b (Given id) = Means f.graph id sort.Word (word_at old f.graph m b)

-- the word, if it is one, is made for the read of the memory at the address
abbrev pub IsMadeState : List Node → Forwarding → ℕ → ℕ → ReadState → Type 0
IsMadeState old f m b (Waits c) = Unit {0}
IsMadeState old f m b (Given id) = Forwarded old f.graph (At m b) id

-- the ite over the equality of two addresses, of a word that was written at the first one and the word below it
pub record IsWritten (new : List Node) (at word address rest id : ℕ) : Type 0 where
  pub same : ℕ
  pub equation : IsBuilt new (Eq address at) same
  pub chosen : IsBuilt new (Ite same word rest) id

-- the graph grew by plain terms that apply no more than these
pub record Grows (new new' : List Node) (more : List Use) : Type 0 where
  pub extends : Extends new new'
  pub uses : AddsUses new new' more
  pub graph : IsGraph new'
  pub plain : IsPlain new → IsPlain new'

-- what the root reaches is marked, and nothing else
abbrev pub MarksReached : List Node → ℕ → List Bool → Type 0
MarksReached old root marks = (id : ℕ) → IsTrue (slice_index_or marks id false) ↔ Reaches old root id

-- a reached term that is no memory is at this place
abbrev pub Follows : List Node → ℕ → List Node → ℕ → ℕ → Type 0
Follows old root new id place = Reaches old root id → sort_at old id ≢ sort.Memory → Means new place (sort_at old id) (λ w. denoted w old id)

-- a reached term that is no memory has the term that is made for it at this place
abbrev pub IsMadeAt : List Node → ℕ → List Node → ℕ → ℕ → Type 0
IsMadeAt old root new id place = Reaches old root id → sort_at old id ≢ sort.Memory → Forwarded old new (Term id) place
