-- What flat formulas and formulas of a root decide.
use Rattle.std.specs.Prelude.{◌≡◌, ◌≢◌, ℕ, Bool, true, IsTrue, List, All, Contains, Option}
use Rattle.bd_model.specs.DesignView.{DesignView}
use Rattle.bd_model.specs.Fits.{Fits}
use Rattle.bd_model.specs.Value.{scalar_word}
use Rattle.bd_model.specs.declared.case.Case.{Case}
use Rattle.bd_model.specs.declared.table.Scalar.{Scalar}
use Rattle.bd_terms.specs.declared.node.Node.{Node}
use Rattle.bd_terms.specs.Denotation.{World, truth}
use Rattle.bd_terms.specs.Graph.{IsGraph}
use Rattle.bd_terms.specs.Valid.{KeepsConstantsApart}
use Rattle.bd_function.specs.declared.flat.FlatSym.{FlatSym}
use Rattle.bd_function.specs.Flat.{under}
use Rattle.bd_prop.specs.declared.atom.Atom.{Atom}
use Rattle.bd_cnf.specs.Clause.{Satisfies}
use Rattle.bd_cnf.specs.Problem.{Problem}
use Rattle.bd_equality.specs.Edges.{IsApart, IsEdge, IsVertex}
use Rattle.bd_equality.specs.Encoding.{AgreesWith, KeepsMarkedApart, has_mark}
use Rattle.bd_goal.specs.Claims.{case_world}
use Rattle.bd_lift.specs.Lifted.{AreKnown, IsLifted, TellsApart}
use Rattle.bd_transitive.specs.declared.graph.Edge.{Edge}
use Rattle.bd_transitive.specs.declared.graph.Order.{Order}
use Rattle.bd_transitive.specs.Edges.{IsEnd}
use Rattle.bd_transitive.specs.Orders.{IsOrder}
use Rattle.bd_transitive.specs.Triangle.{MeetsTriangles, value_at}
use Rattle.bd_tseitin.specs.declared.row.AtomVar.{AtomVar}
use Rattle.bd_tseitin.specs.Rows.{Agree}
use Rattle.bd_verify.specs.Decided.{IsFalseIn}
use Rattle.bd_verify.specs.Kept.{IsPositiveVariable}
use Rattle.bd_verify.specs.inner.Edges.{edge_values}

-- the marked variables, if any are, are those of applications of positive symbols
pub record MarksPositive (old : List Node) (old_root : ℕ) (syms : List FlatSym) (marked : Option (List ℕ)) : Type 0 where
  pub each : (x : ℕ) → has_mark marked x ≡ true → IsPositiveVariable old old_root syms x

-- the variables of two constants that are kept apart have different words, and each marked one differs from all others
pub record KeepsWordsApart (d : DesignView) (nodes : List Node) (syms : List FlatSym) (marked : Option (List ℕ)) (v : ℕ → Scalar) : Type 0 where
  pub differ : (edge : Edge) → IsApart nodes syms d.distinct marked edge → scalar_word (v edge.from) ≢ scalar_word (v edge.to)
  pub apart : KeepsMarkedApart nodes marked v

-- The flat formula follows the root. Where this is false in a world that keeps the constants apart, it is false under
-- some values that keep words apart; and where it is false under values that a case is lifted from, the root is false in
-- the case's world.
pub record FollowsRoot (d : DesignView) (old : List Node) (old_root : ℕ) (nodes : List Node) (root : ℕ) (syms : List FlatSym) (marked : Option (List ℕ)) :
    Type 0 where
  pub graph : IsGraph nodes
  pub known : AreKnown d nodes syms
  pub from_world : (w : World) → KeepsConstantsApart d w → ¬ IsTrue (truth w old old_root)
      → (v : ℕ → Scalar) × KeepsWordsApart d nodes syms marked v × (¬ IsTrue (truth (under v) nodes root))
  pub to_case : (order : Order) (atoms : List (Atom × Bool)) (c : Case) → (l : IsLifted nodes syms order atoms c)
      → ¬ IsTrue (truth (under l.values) nodes root) → ¬ IsTrue (truth (case_world c l.addresses) old old_root)

-- what an assignment that satisfies the formula says of the atoms, with these edges of the order given
pub record IsAdmitted (d : DesignView) (nodes : List Node) (root : ℕ) (syms : List FlatSym) (marked : Option (List ℕ)) (order : Order) (given : List Edge)
    (value : Atom → Bool) : Type 0 where
  pub triangles : MeetsTriangles order (value_at (edge_values value order.edges))
  pub constants : TellsApart d syms order (value_at (edge_values value order.edges))
  pub refutes : (v : ℕ → Scalar) → KeepsMarkedApart nodes marked v → AgreesWith nodes given value v → ¬ IsTrue (truth (under v) nodes root)

-- The formula is that of the flat one. Values that make this false, and keep words apart, extend to an assignment that
-- satisfies it; and such an assignment says of the atoms what a case needs. No marked variable is the end of an edge.
pub record Formulates (d : DesignView) (nodes : List Node) (root : ℕ) (syms : List FlatSym) (marked : Option (List ℕ)) (order : Order) (formula : Problem)
    (rows : List AtomVar) : Type 0 where
  pub is_order : IsOrder order
  pub ends : (x : ℕ) → IsEnd order.edges x → IsVertex nodes marked x
  pub given : List Edge
  pub vertices : All (IsEdge nodes marked) given
  pub ordered : (edge : Edge) → Contains given edge → Contains order.edges edge
  pub up : (v : ℕ → Scalar) → KeepsWordsApart d nodes syms marked v → ¬ IsTrue (truth (under v) nodes root) → (a : ℕ → Bool) × Satisfies a formula.clauses
  pub down : (a : ℕ → Bool) (value : Atom → Bool) → Satisfies a formula.clauses → Agree a value rows → IsAdmitted d nodes root syms marked order given value

-- The formula decides where the root is false. An assignment that satisfies it leads to a fitting case in whose world the
-- root is false; and a world that keeps the constants apart and makes the root false leads to such an assignment.
pub record DecidesRoot (d : DesignView) (nodes : List Node) (root : ℕ) (formula : Problem) : Type 0 where
  pub to_case : (a : ℕ → Bool) → Satisfies a formula.clauses → (c : Case) × Fits d c × IsFalseIn nodes root c
  pub from_world : (w : World) → KeepsConstantsApart d w → ¬ IsTrue (truth w nodes root) → (a : ℕ → Bool) × Satisfies a formula.clauses
