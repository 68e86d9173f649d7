-- What is counted so far.
use Rattle.std.specs.Prelude.{◌≡◌, ◌↔◌, ℕ, IsTrue, List, [], ◌∷◌, Contains, Option, Some, length, slice_get, slice_index_or, if◌then◌else◌}
use Rattle.bd_model.specs.DesignView.{DesignView}
use Rattle.bd_terms.specs.declared.node.Node.{Node}
use Rattle.bd_terms.specs.declared.node.Sym.{Sym}
use Rattle.bd_terms.specs.declared.node.Sym.TheVariants.{Function}
use Rattle.bd_function.specs.declared.flat.FlatSym.{FlatSym}
use Rattle.bd_function.specs.Tables.{is_symbol}
use Rattle.bd_diverse.specs.Positive.{IsPositive}
use Rattle.bd_prop.specs.declared.node.PropNode.{PropNode}
use Rattle.bd_cnf.specs.Literal.{Literal}
use Rattle.bd_cnf.specs.Problem.{Problem}
use Rattle.bd_transitive.specs.declared.graph.Edge.{Edge}
use Rattle.bd_tseitin.specs.declared.row.AtomVar.{AtomVar}
use Rattle.bd_verify.specs.Kept.{AreMarks, IsDenied, IsEncoded, OrdersTerms, RemovesFunctions, RemovesMemories}
use Rattle.bd_verify.specs.declared.verdict.Mode.TheVariants.{Diverse}
use Rattle.bd_about.specs.Applications.{AreComparisons, AreCountsOf}
use Rattle.bd_about.specs.declared.counting.Applications.{Applications}
use Rattle.bd_about.specs.declared.counting.Applied.{Applied}
use Rattle.bd_about.specs.declared.tallying.Tally.{Tally}
use Rattle.bd_about.specs.inner.Tallied.{no_tally}

-- the count of function or predicate number f after a symbol's entry: as many as this has rows, if it's the symbol's
abbrev pub counted_rows : ℕ → ℕ → FlatSym → ℕ
counted_rows f n s = if is_symbol s.sym (Function f) then length s.rows else n

-- and after several entries
abbrev pub last_count : ℕ → ℕ → List FlatSym → ℕ
last_count f n [] = n
last_count f n (s ∷ ss) = last_count f (counted_rows f n s) ss

-- the counts of function or predicate number f in these lists, with whether it is among the positive symbols
pub record IsItemOf (rows : List ℕ) (equations clauses : List Tally) (symbols : List Sym) (f : ℕ) (a : Applied) :
    Type 0 where
  pub count : a.count ≡ slice_index_or rows f 0
  pub positive : IsTrue a.positive ↔ Contains symbols (Function f)
  pub equations_are : a.equations ≡ (slice_index_or equations f no_tally).count
  pub clauses_are : a.clauses ≡ (slice_index_or clauses f no_tally).count

pub record AreItems (rows : List ℕ) (equations clauses : List Tally) (symbols : List Sym) (applied : List Applied) :
    Type 0 where
  pub size : length applied ≡ length rows
  pub each : (f : ℕ) (a : Applied) → slice_get applied f ≡ Some a → IsItemOf rows equations clauses symbols f a

-- what is counted in edges and clauses
pub record AreCounted (count : ℕ) (is_positive : Sym → Type 0) (syms : List FlatSym) (edges : List Edge)
    (clauses : List (List Literal)) (rows : List AtomVar) (a : Applications) : Type 0 where
  pub counts : AreCountsOf count is_positive syms edges clauses rows a.applied
  pub compared : AreComparisons count syms edges a.compared

-- a root without memories, whose terms stand in the order of a walk
pub record IsPlainOf (terms : List Node) (term : ℕ) (plain : List Node) (plain_root : ℕ) : Type 0 where
  pub built : List Node
  pub built_root : ℕ
  pub memories : RemovesMemories terms term built built_root
  pub order : OrdersTerms built built_root plain plain_root

-- what is counted in the truth root and clauses of a flat form
pub record IsCountedFlat (d : DesignView) (is_positive : Sym → Type 0) (nodes : List Node) (root : ℕ)
    (syms : List FlatSym) (marked : Option (List ℕ)) (a : Applications) : Type 0 where
  pub prop : List PropNode
  pub prop_root : ℕ
  pub edges : List Edge
  pub apart : List Edge
  pub encoded : IsEncoded d nodes root syms marked prop prop_root edges apart
  pub formula : Problem
  pub rows : List AtomVar
  pub denied : IsDenied prop prop_root formula rows
  pub counts : AreCounted (length d.symbols) is_positive syms edges formula.clauses rows a

-- and in the flat form of a root without memories
pub record IsCountedPlain (d : DesignView) (plain : List Node) (plain_root : ℕ) (a : Applications) : Type 0 where
  pub nodes : List Node
  pub root : ℕ
  pub syms : List FlatSym
  pub marked : Option (List ℕ)
  pub functions : RemovesFunctions plain plain_root nodes root syms
  pub marks : AreMarks Diverse plain plain_root syms marked
  pub counts : IsCountedFlat d (IsPositive plain plain_root) nodes root syms marked a
