-- The words of rows, from their ends.
use Rattle.std.specs.Prelude.{◌≡◌, ◌<◌, ◌==◌, ◌&&◌, ℕ, Bool, true, false, nat_eq, length, List, Option, None, Some, drop, slice_get, slice_index_or}
use lib.Pointwise.{pointwise}
use Rattle.bd_model.specs.declared.design.Sort.TheVariants as sort
use Rattle.bd_model.specs.declared.table.Scalar.{Scalar}
use Rattle.bd_model.specs.Value.{scalar_word}
use Rattle.bd_terms.specs.declared.node.Node.{Node}
use Rattle.bd_terms.specs.Denotation.{truth, word, words}
use Rattle.bd_function.specs.declared.flat.FlatRow.{FlatRow}
use Rattle.bd_function.specs.declared.flat.FlatSym.{FlatSym}
use Rattle.bd_function.specs.Flat.{arguments, first_value, under}
use Rattle.bd_equality.specs.declared.equality.Rest.{Rest}
use Rattle.bd_equality.specs.declared.equality.Rest.TheVariants.{Term, Nothing, Other}
use Rattle.bd_equality.specs.declared.rows.RowPlace.{RowPlace}
use Rattle.bd_equality.specs.declared.rows.Tail.{Tail}
use Rattle.bd_equality.specs.Encoding.{IsVariable}
use Rattle.bd_equality.specs.Made.{IsMarkedSymbol, IsRow, IsVariableWord}
use Rattle.bd_equality.specs.inner.Split.{StandBefore}

-- a word that is this variable
pub record IsLeaf (nodes : List Node) (id x : ℕ) : Type 0 where
  pub variable : IsVariable nodes sort.Word x
  pub value : (v : ℕ → Scalar) → word (under v) nodes id ≡ scalar_word (v x)
  pub word : IsVariableWord nodes id x

-- the word is the variable of the first of a marked symbol's rows, from one on, that has the arguments of a row, which stand before it
pub record IsTail (nodes : List Node) (syms : List FlatSym) (marked : Option (List ℕ)) (tail : Tail) (id : ℕ) : Type 0 where
  pub holder : FlatSym
  pub listed : slice_get syms tail.symbol ≡ Some holder
  pub symbol : IsMarkedSymbol nodes marked holder
  pub row : FlatRow
  pub has : slice_get holder.rows tail.row ≡ Some row
  pub before : StandBefore row.args id
  pub is : (v : ℕ → Scalar) → word (under v) nodes id ≡ scalar_word (first_value v nodes (drop tail.from holder.rows) (arguments v nodes row))

-- each tail of the list is one
pub record AreTails (nodes : List Node) (syms : List FlatSym) (marked : Option (List ℕ)) (tails : List (Option Tail)) : Type 0 where
  pub each : (id : ℕ) (tail : Tail) → slice_index_or tails id None ≡ Some tail → IsTail nodes syms marked tail id

-- the word is that of the row at this place
pub record IsRowAt (nodes : List Node) (syms : List FlatSym) (marked : Option (List ℕ)) (place : RowPlace) (id : ℕ) : Type 0 where
  pub holder : FlatSym
  pub listed : slice_get syms place.symbol ≡ Some holder
  pub row : FlatRow
  pub has : slice_get holder.rows place.row ≡ Some row
  pub before : StandBefore row.args id
  pub is : IsRow nodes marked holder row id

-- the symbols of which this is said are marked
pub record AreMarkedSymbols (nodes : List Node) (syms : List FlatSym) (marked : Option (List ℕ)) (said : List Bool) : Type 0 where
  pub each : (k : ℕ) (s : FlatSym) → slice_get syms k ≡ Some s → slice_index_or said k false ≡ true → IsMarkedSymbol nodes marked s

-- whether two lists of words are equal, pair by pair
abbrev pub equal_words : List Node → (ℕ → Scalar) → List ℕ → List ℕ → Bool
equal_words nodes v left right = pointwise nat_eq (words (under v) nodes left) (words (under v) nodes right)

-- what is left of a conjunction is a term of the graph
abbrev pub IsRestInside : List Node → Rest → Type 0
IsRestInside nodes (Term id) = id < length nodes
IsRestInside nodes _ = Unit {0}

-- it has this value, as far as it is as it should be
abbrev pub RestIs : List Node → Rest → (ℕ → Scalar) → Bool → Type 0
RestIs nodes (Term id) v b = truth (under v) nodes id ≡ b
RestIs nodes Nothing v b = true ≡ b
RestIs nodes Other v b = ⊥

-- after the equation of a pair this is left
pub record RestFollows (nodes : List Node) (rest : Rest) (a b : ℕ) (rest' : Rest) : Type 0 where
  pub follows : (v : ℕ → Scalar) (c : Bool) → RestIs nodes rest' v c → RestIs nodes rest v ((word (under v) nodes a == word (under v) nodes b) && c)
