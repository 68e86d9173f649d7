-- What is counted of each function and predicate of a design in the formula that is kept of its correspondence (Burch
-- and Dill 1994) in diverse mode, which functions are positive there, and with what each is compared (Bryant, German
-- and Velev 2001).
use Rattle.std.specs.Prelude.{◌≡◌, ◌≢◌, ◌↔◌, ℕ, IsTrue, List, Contains, Option, Some, length, slice_get}
use Rattle.bd_model.specs.DesignView.{DesignView}
use Rattle.bd_terms.specs.declared.node.Node.{Node}
use Rattle.bd_terms.specs.declared.node.Sym.{Sym}
use Rattle.bd_terms.specs.declared.node.Sym.TheVariants.{Function}
use Rattle.bd_function.specs.declared.flat.FlatSym.{FlatSym}
use Rattle.bd_diverse.specs.Positive.{IsPositive}
use Rattle.bd_prop.specs.declared.node.PropNode.{PropNode}
use Rattle.bd_cnf.specs.Literal.{Literal}
use Rattle.bd_cnf.specs.Problem.{Problem}
use Rattle.bd_transitive.specs.declared.graph.Edge.{Edge}
use Rattle.bd_tseitin.specs.declared.row.AtomVar.{AtomVar}
use Rattle.bd_verify.specs.Kept.{IsDenied, IsEncoded, IsFlatOf, IsRootOf}
use Rattle.bd_verify.specs.declared.verdict.Mode.TheVariants.{Diverse}
use Rattle.bd_verify.specs.declared.verdict.Question.TheVariants.{Breaks}
use Rattle.bd_about.specs.Equations.{clauses_of, compared_with, equations_of, is_variable_of}
use Rattle.bd_about.specs.declared.counting.Applications.{Applications}
use Rattle.bd_about.specs.declared.counting.Applied.{Applied}

-- so many rows has the symbol's entry; a symbol without one has none
pub record HasRows (syms : List FlatSym) (symbol : Sym) (count : ℕ) : Type 0 where
  pub listed : (s : FlatSym) → Contains syms s → s.sym ≡ symbol → count ≡ length s.rows
  pub unlisted : ((s : FlatSym) → Contains syms s → s.sym ≢ symbol) → count ≡ 0

-- what is counted of function or predicate number f: its rows in the flat form, whether it's positive, and its
-- equations and clauses
pub record IsCountOf (is_positive : Sym → Type 0) (syms : List FlatSym) (edges : List Edge)
    (clauses : List (List Literal)) (rows : List AtomVar) (f : ℕ) (a : Applied) : Type 0 where
  pub count : HasRows syms (Function f) a.count
  pub positive : IsTrue a.positive ↔ is_positive (Function f)
  pub equations : a.equations ≡ equations_of (is_variable_of syms) edges (Function f)
  pub clauses_are : a.clauses ≡ clauses_of (is_variable_of syms) rows clauses (Function f)

-- so many functions and predicates are counted, in order
pub record AreCountsOf (count : ℕ) (is_positive : Sym → Type 0) (syms : List FlatSym) (edges : List Edge)
    (clauses : List (List Literal)) (rows : List AtomVar) (applied : List Applied) : Type 0 where
  pub size : length applied ≡ count
  pub each : (f : ℕ) (a : Applied) → slice_get applied f ≡ Some a
      → IsCountOf is_positive syms edges clauses rows f a

-- so many functions and predicates have the symbols with which they are compared, in order
pub record AreComparisons (count : ℕ) (syms : List FlatSym) (edges : List Edge) (compared : List (List Sym)) :
    Type 0 where
  pub size : length compared ≡ count
  pub each : (f : ℕ) (list : List Sym) → slice_get compared f ≡ Some list
      → list ≡ compared_with (is_variable_of syms) edges syms (Function f)

-- The flat form of a root that no case breaks a condition, with a row for each application, where the variables of
-- positive functions are marked; its truth root with its edges; and Tseitin's clauses of the negated truth root: all as
-- they are made for the formula that is kept in diverse mode. Each function and predicate of the design is counted in
-- these. The clauses of the edges' triangles, and those that keep constants apart, aren't counted.
pub record AreApplications (d : DesignView) (a : Applications) : Type 0 where
  pub nodes : List Node
  pub root : ℕ
  pub syms : List FlatSym
  pub marked : Option (List ℕ)
  pub flat : IsFlatOf (IsRootOf d Breaks) Diverse nodes root syms marked
  pub prop : List PropNode
  pub prop_root : ℕ
  pub edges : List Edge
  pub apart : List Edge
  pub encoded : IsEncoded d nodes root syms marked prop prop_root edges apart
  pub formula : Problem
  pub rows : List AtomVar
  pub denied : IsDenied prop prop_root formula rows
  pub counts : AreCountsOf (length d.symbols) (IsPositive flat.plain flat.plain_root) syms edges
      formula.clauses rows a.applied
  pub compared : AreComparisons (length d.symbols) syms edges a.compared
