-- The literals of clauses and of the lists that they are made of.
use Rattle.std.proofs.Common.{ℕ, ◌≤◌, List, [], ◌∷◌, All, subst, sym, inl, inr, arith}
use Rattle.std.proofs.lemmas.List.Elements.{All-nil, All-cons, All-head, All-tail, All-from_recursion}
use Rattle.bd_prop.specs.declared.node.PropNode.{PropNode}
use Rattle.bd_prop.specs.declared.node.PropNode.TheVariants.{True, Atom as OfAtom, Not, And, Or, Ite, Tree}
use Rattle.bd_prop.specs.Node.{children}
use Rattle.bd_cnf.specs.Literal.{Literal, negate}
use Rattle.bd_cnf.specs.Clause.{IsWithin}
use Rattle.bd_cnf.specs.Problem.{AreWithin}
use Rattle.bd_cnf.proofs.Literals.{within_of_same}
use Rattle.bd_tseitin.specs.Definition.{and_clauses, choice_items, definition, or_clauses, whole, AreClauses}
use Rattle.bd_tseitin.proofs.Trees.{tree_all}

-- what holds of a gate's literal and its children's, and with each literal of its negation, holds of all in its clauses
module _ (P : Literal → Type 0) (negated : (l : Literal) → P l → P (negate l)) where
  two_all : (a b : Literal) → P a → P b → All P (a ∷ b ∷ [])
  two_all a b h i = All-cons P a (b ∷ []) h (All-cons P b [] i (All-nil P))

  three_all : (a b c : Literal) → P a → P b → P c → All P (a ∷ b ∷ c ∷ [])
  three_all a b c h i j = All-cons P a (b ∷ c ∷ []) h (two_all b c i j)

  pub definition_all : (l : ℕ → Literal) (g : Literal) (n : PropNode) → P g → All (λ c. P (l c)) (children n) → All (All P) (definition l g n)
  definition_all l g True h low = All-cons (All P) (g ∷ []) [] (All-cons P g [] h (All-nil P)) (All-nil (All P))
  definition_all l g (OfAtom a) h low = All-nil (All P)
  definition_all l g (Not a) h low = All-nil (All P)
  definition_all l g (And a b) h low =
      let x : P (l a) = low 0 a (omega arith) in
      let y : P (l b) = low 1 a (omega arith) in
      All-from_recursion (All P) (and_clauses g (l a) (l b))
      (two_all (negate g) (l a) (negated g h) x, (two_all (negate g) (l b) (negated g h) y, (three_all g (negate (l a)) (negate (l b)) h (negated (l a) x) (negated (l b) y), tt)))
  definition_all l g (Or a b) h low =
      let x : P (l a) = low 0 a (omega arith) in
      let y : P (l b) = low 1 a (omega arith) in
      All-from_recursion (All P) (or_clauses g (l a) (l b))
      (two_all g (negate (l a)) h (negated (l a) x), (two_all g (negate (l b)) h (negated (l b) y), (three_all (negate g) (l a) (l b) (negated g h) x y, tt)))
  definition_all l g (Ite a b c) h low = tree_all P negated l (choice_items a b c) (whole g) low (All-nil P, h, tt)
  definition_all l g (Tree items) h low = tree_all P negated l items (whole g) low (All-nil P, h, tt)

module _ (vars : ℕ) where
  abbrev Low : Literal → Type 0
  Low l = l.var ≤ vars

  pub one_within : (a : Literal) → a.var ≤ vars → IsWithin vars (a ∷ [])
  one_within a h = All-cons Low a [] h (All-nil Low)

  pub definition_within : (l : ℕ → Literal) (g : Literal) (n : PropNode) → g.var ≤ vars → All (λ c. (l c).var ≤ vars) (children n) → AreWithin vars (definition l g n)
  definition_within l g n h low = definition_all Low (λ m small. small) l g n h low

  pub within-AreClauses : (ds cs : List (List Literal)) → AreWithin vars ds → AreClauses ds cs → AreWithin vars cs
  within-AreClauses [] cs low is = subst (AreWithin vars) (sym is) (All-nil (IsWithin vars))
  within-AreClauses (d ∷ ds) cs low (inl (always, left)) = within-AreClauses ds cs (All-tail (IsWithin vars) d ds low) left
  within-AreClauses (d ∷ ds) cs low (inr (c, rest, is, same, left)) =
      subst (AreWithin vars) (sym is) (All-cons (IsWithin vars) c rest (within_of_same vars c d same (All-head (IsWithin vars) d ds low)) (within-AreClauses ds rest (All-tail (IsWithin vars) d ds low) left))
