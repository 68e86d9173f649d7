-- What terms denote in a world: the logic of equality with uninterpreted functions and memories
-- (Bryant, German and Velev 2001), with tables in place of functions (Burch and Dill 1994). Values are total:
-- a child of another sort counts as false, 0 or the memory of zeros.
use Rattle.std.specs.Prelude.{◌≡◌, ℕ, Bool, true, false, not, ◌&&◌, ◌||◌, ◌==◌, List, [], ◌∷◌, map, slice_index_or, if◌then◌else◌}
use Rattle.bd_list.specs.Grown.{grown}
use Rattle.bd_model.specs.declared.design.Sort.{Sort}
use Rattle.bd_model.specs.declared.design.Sort.TheVariants as sort
use Rattle.bd_model.specs.declared.table.Table.{Table}
use Rattle.bd_model.specs.Table.{at}
use Rattle.bd_model.specs.Value.{scalar_truth, scalar_word}
use Rattle.bd_terms.specs.declared.node.Sym.{Sym}
use Rattle.bd_terms.specs.declared.node.Sym.TheVariants as sym
use Rattle.bd_terms.specs.declared.node.Node.{Node}
use Rattle.bd_terms.specs.declared.node.Node.TheVariants.{True, Not, And, Or, Ite, Eq, App, Pred, Read, Write, Init}

-- a table for each symbol
abbrev pub World : Type 0
World = Sym → Table

-- what a term denotes: a truth value, a word, or what a memory reads at every word
pub data Denoted : Type 0 where
  Truth : Bool → Denoted
  Word : ℕ → Denoted
  Contents : (ℕ → ℕ) → Denoted

abbrev pub denoted_sort : Denoted → Sort
denoted_sort (Truth b) = sort.Bool
denoted_sort (Word n) = sort.Word
denoted_sort (Contents m) = sort.Memory

abbrev pub truth_of : Denoted → Bool
truth_of (Truth b) = b
truth_of (Word n) = false
truth_of (Contents m) = false

abbrev pub word_of : Denoted → ℕ
word_of (Truth b) = 0
word_of (Word n) = n
word_of (Contents m) = 0

abbrev pub contents_of : Denoted → ℕ → ℕ
contents_of (Truth b) = λ a. 0
contents_of (Word n) = λ a. 0
contents_of (Contents m) = m

-- the denotation at a place, in a list of denotations
abbrev pub at_place : List Denoted → ℕ → Denoted
at_place done id = slice_index_or done id (Truth false)

-- a function symbol at words
abbrev pub applied : World → Sym → List ℕ → ℕ
applied w s args = scalar_word (at (w s) args)

-- a predicate symbol at words
abbrev pub holds : World → Sym → List ℕ → Bool
holds w s args = scalar_truth (at (w s) args)

-- a memory with a word written
abbrev pub written : (ℕ → ℕ) → ℕ → ℕ → ℕ → ℕ
written m a d = λ b. if b == a then d else m b

-- what a node denotes, from the denotations of those before it
abbrev pub node_value : World → List Denoted → Node → Denoted
node_value w done True = Truth true
node_value w done (Not a) = Truth (not (truth_of (at_place done a)))
node_value w done (And a b) = Truth (truth_of (at_place done a) && truth_of (at_place done b))
node_value w done (Or a b) = Truth (truth_of (at_place done a) || truth_of (at_place done b))
node_value w done (Ite c a b) = if truth_of (at_place done c) then at_place done a else at_place done b
node_value w done (Eq a b) = Truth (word_of (at_place done a) == word_of (at_place done b))
node_value w done (App s args) = Word (applied w s (map (λ a. word_of (at_place done a)) args))
node_value w done (Pred s args) = Truth (holds w s (map (λ a. word_of (at_place done a)) args))
node_value w done (Read m a) = Word (contents_of (at_place done m) (word_of (at_place done a)))
node_value w done (Write m a d) = Contents (written (contents_of (at_place done m)) (word_of (at_place done a)) (word_of (at_place done d)))
node_value w done (Init e) = Contents (λ a. applied w (sym.Entry e) (a ∷ []))

-- what the nodes of a graph denote
abbrev pub values : World → List Node → List Denoted
values w nodes = grown (node_value w) [] nodes

-- what the node at a place denotes
abbrev pub denoted : World → List Node → ℕ → Denoted
denoted w nodes id = at_place (values w nodes) id

-- the same as a truth value, a word, and what a memory reads
abbrev pub truth : World → List Node → ℕ → Bool
truth w nodes id = truth_of (denoted w nodes id)

abbrev pub word : World → List Node → ℕ → ℕ
word w nodes id = word_of (denoted w nodes id)

abbrev pub contents : World → List Node → ℕ → ℕ → ℕ
contents w nodes id = contents_of (denoted w nodes id)

-- the words that arguments denote
abbrev pub words : World → List Node → List ℕ → List ℕ
words w nodes args = map (word w nodes) args

-- the node at the place denotes this in every world
pub record Denotes (nodes : List Node) (id : ℕ) (value : World → Denoted) : Type 0 where
  pub is : (w : World) → denoted w nodes id ≡ value w
