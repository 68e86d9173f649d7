-- What a call that builds the terms of expressions needs and gives.
use Rattle.std.specs.Prelude.{◌≡◌, ◌<◌, length, ℕ, List, Result, IfOk, map, Vec, slice_get, Some}
use Rattle.std.specs.List.{All, AllZip}
use Rattle.std.specs.declared.alloc.AllocError.{AllocError}
use Rattle.std.specs.declared.alloc.Global.{Global}
use Rattle.bd_model.specs.ExprView.{ExprView, ExprViews, count_of}
use Rattle.bd_model.specs.Value.{Env, values_of, word_of}
use Rattle.bd_model.specs.Lawful.{Context, HasSort, HaveSort}
use Rattle.bd_model.specs.declared.design.Sort.{Sort}
use Rattle.bd_model.specs.declared.design.Sort.TheVariants as sort
use Rattle.bd_terms.specs.declared.node.Node.{Node}
use Rattle.bd_terms.specs.Graph.{HasSort as TermHasSort}
use Rattle.bd_terms.specs.Denotation.{World, denoted, words}
use Rattle.bd_model.specs.Table.{at}
use Rattle.bd_model.specs.Value.{table_of}
use Rattle.bd_model.specs.Fits.{result_sort}
use Rattle.bd_model.specs.DesignView.{DesignView}
use Rattle.bd_model.specs.declared.design.Symbol.{Symbol}
use Rattle.bd_model.specs.declared.table.Table.{Table}
use Rattle.bd_symbolic.specs.World.{IsWorldOf, denotes_scalar}
use Rattle.bd_symbolic.specs.DesignSymbols.{GrowsWithin}
use Rattle.bd_symbolic.specs.Made.{AreMade, Called, symbol_node}
use Rattle.bd_symbolic.specs.Symbolic.{Terms, AreTerms, DenoteEnv, DenotesExpr, context_in}

-- the terms are there, and the expression has a sort
pub record IsReady (nodes : List Node) (t : Terms) (e : ExprView) : Type 0 where
  pub terms : AreTerms nodes t
  pub sorted : (s : Sort) × HasSort (context_in nodes t) e s

-- the terms are there, and the expressions have this sort
pub record AreReady (nodes : List Node) (t : Terms) (es : ExprViews) (s : Sort) : Type 0 where
  pub terms : AreTerms nodes t
  pub sorted : HaveSort (context_in nodes t) es s

-- the graph grows within the design, and the term denotes the expression
pub record Evaluates (old new : List Node) (t : Terms) (e : ExprView) (r : Result ℕ AllocError) : Type 0 where
  pub grows : GrowsWithin t.design old new
  pub term : IfOk r (DenotesExpr old new t e)

-- the same of two terms
pub record EvaluatesBoth (old new : List Node) (t : Terms) (a b : ExprView) (r : Result (ℕ × ℕ) AllocError) : Type 0 where
  pub grows : GrowsWithin t.design old new
  pub terms : IfOk r (λ p. DenotesExpr old new t a p.0 × DenotesExpr old new t b p.1)

-- and of three
pub record EvaluatesThree (old new : List Node) (t : Terms) (a b c : ExprView) (r : Result (ℕ × ℕ × ℕ) AllocError) : Type 0 where
  pub grows : GrowsWithin t.design old new
  pub terms : IfOk r (λ p. DenotesExpr old new t a p.0 × DenotesExpr old new t b p.1 × DenotesExpr old new t c p.2)

-- the application of the design's symbol to these words
pub record Applied (d : DesignView) (old new : List Node) (f : ℕ) (args : List ℕ) (id : ℕ) : Type 0 where
  pub inside : id < length new
  pub sorted : (y : Symbol) → slice_get d.symbols f ≡ Some y → TermHasSort new id (result_sort y)
  pub denotes : (w : World) (interp : List Table) → IsWorldOf d interp w → denoted w new id ≡ denotes_scalar (at (table_of interp f) (words w old args))
  pub made : Called new (symbol_node (slice_get d.symbols f) f args) id

-- words that denote the values of expressions
pub record DenoteWords (old new : List Node) (t : Terms) (es : ExprViews) (ids : List ℕ) : Type 0 where
  pub sorted : All (λ id. TermHasSort new id sort.Word) ids
  pub count : length ids ≡ count_of es
  pub denotes : (w : World) (env : Env) → DenoteEnv w old t env → words w new ids ≡ map word_of (values_of env es)
  pub made : AreMade new t es ids

pub record EvaluatesWords (old new : List Node) (t : Terms) (es : ExprViews) (r : Result (Vec ℕ Global) AllocError) : Type 0 where
  pub grows : GrowsWithin t.design old new
  pub words : IfOk r (λ v. DenoteWords old new t es v.items)

abbrev pub HasSomeSort : Context → ExprView → Type 0
HasSomeSort c e = (s : Sort) × HasSort c e s

-- a term for each expression, in order
abbrev pub DenoteExprs : List Node → List Node → Terms → List ExprView → List ℕ → Type 0
DenoteExprs old new t es ids = AllZip (DenotesExpr old new t) es ids
