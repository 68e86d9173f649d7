-- From what each term of a graph without memories is made (Burch and Dill 1994): one that is no memory and reads none is
-- the same over what its parts become; the read of a write is an ite over the equality of the two addresses, of the word
-- that was written and the read below it; that of an ite is an ite of the reads of its branches; and that of first
-- contents is the application of the entry to the address. Only the order in which terms are built is free.
use Rattle.std.specs.Prelude.{◌≡◌, ℕ, Bool, true, false, List, [], ◌∷◌, Contains, Some, slice_get}
use Rattle.bd_terms.specs.declared.node.Sym.TheVariants.{Entry}
use Rattle.bd_terms.specs.declared.node.Node.{Node}
use Rattle.bd_terms.specs.declared.node.Node.TheVariants.{Ite, Eq, App, Read, Write, Init}
use Rattle.bd_terms.specs.Graph.{children}
use Rattle.bd_terms.specs.Renamed.{id_at, renamed}
use Rattle.bd_walk.specs.Built.{IsBuilt}

-- neither a read nor a write nor first contents
abbrev pub is_plain : Node → Bool
is_plain (Read m a) = false
is_plain (Write m a d) = false
is_plain (Init e) = false
is_plain _ = true

-- what a term of the new graph stands for: a term of the old one, or the word that a memory of the old graph has at an
-- address of the new one
pub data Subject : Type 0 where
  Term : ℕ → Subject
  At : ℕ → ℕ → Subject

-- the term is made for what it stands for, from terms that are
pub data Forwarded (old new : List Node) : Subject → ℕ → Type 0 where
  OfPlain : (i : ℕ) (node : Node) (places : List ℕ) (id : ℕ) → slice_get old i ≡ Some node → is_plain node ≡ true
      → ((c : ℕ) → Contains (children node) c → Forwarded old new (Term c) (id_at places c)) → IsBuilt new (renamed places node) id → Forwarded old new (Term i) id
  OfRead : (i m a b id : ℕ) → slice_get old i ≡ Some (Read m a) → Forwarded old new (Term a) b → Forwarded old new (At m b) id → Forwarded old new (Term i) id
  OfWrite : (m below a d b x y z same id : ℕ) → slice_get old m ≡ Some (Write below a d) → Forwarded old new (Term a) x → Forwarded old new (Term d) y → Forwarded old new (At below b) z
      → IsBuilt new (Eq b x) same → IsBuilt new (Ite same y z) id → Forwarded old new (At m b) id
  OfIte : (m c k l b w x y id : ℕ) → slice_get old m ≡ Some (Ite c k l) → Forwarded old new (Term c) w → Forwarded old new (At k b) x → Forwarded old new (At l b) y
      → IsBuilt new (Ite w x y) id → Forwarded old new (At m b) id
  OfInit : (m e b id : ℕ) → slice_get old m ≡ Some (Init e) → IsBuilt new (App (Entry e) (b ∷ [])) id → Forwarded old new (At m b) id
