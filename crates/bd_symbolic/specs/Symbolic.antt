-- Terms for a machine's entries, inputs and lets, and what they denote (Burch and Dill 1994).
use Rattle.std.specs.Prelude.{◌≡◌, ℕ, ◌<◌, List, map, length}
use Rattle.std.specs.List.{AllZip, AllByRecursion}
use Rattle.bd_model.specs.ExprView.{ExprView}
use Rattle.bd_model.specs.Value.{Env, value_of}
use Rattle.bd_model.specs.Lawful.{Context, HasSort}
use Rattle.bd_model.specs.declared.design.Sort.{Sort}
use Rattle.bd_model.specs.declared.table.Scalar.{Scalar}
use Rattle.bd_model.specs.declared.table.Value.{Value}
use Rattle.bd_model.specs.declared.table.Value.TheVariants as value
use Rattle.bd_terms.specs.declared.node.Node.{Node}
use Rattle.bd_terms.specs.Graph.{sort_at}
use Rattle.bd_terms.specs.Graph.{HasSort as TermHasSort}
use Rattle.bd_terms.specs.Denotation.{World, denoted}
use Rattle.bd_symbolic.specs.World.{IsWorldOf, denotes_value}
use Rattle.bd_symbolic.specs.DesignSymbols.{KeepsDesign}
use Rattle.bd_symbolic.specs.Made.{IsMade}
pub use Rattle.bd_symbolic.specs.Terms.{Terms, terms_of}

-- the Ids are in the graph, with these sorts
abbrev pub HaveSorts : List Node → List ℕ → List Sort → Type 0
HaveSorts nodes ids sorts = AllZip (TermHasSort nodes) ids sorts

abbrev pub AreInside : List Node → List ℕ → Type 0
AreInside nodes ids = AllByRecursion (λ id. id < length nodes) ids

-- in the world the Ids denote the values, one by one
abbrev pub DenoteValues : World → List Node → List ℕ → List Value → Type 0
DenoteValues w nodes ids values = AllZip (λ id v. denoted w nodes id ≡ denotes_value v) ids values

abbrev pub DenoteScalars : World → List Node → List ℕ → List Scalar → Type 0
DenoteScalars w nodes ids scalars =
    AllZip (λ id x. denoted w nodes id ≡ denotes_value (value.Scalar x)) ids scalars

-- the sorts of the names in force
abbrev pub context_in : List Node → Terms → Context
context_in nodes t = record {
  symbols = t.design.symbols;
  entries = map (sort_at nodes) t.entries;
  inputs = map (sort_at nodes) t.inputs;
  locals = map (sort_at nodes) t.lets;
}

-- the terms are in the graph, which keeps the design's symbols
pub record AreTerms (nodes : List Node) (t : Terms) : Type 0 where
  pub keeps : KeepsDesign t.design nodes
  pub entries : AreInside nodes t.entries
  pub inputs : AreInside nodes t.inputs
  pub lets : AreInside nodes t.lets

-- the terms denote what the names stand for
pub record DenoteEnv (w : World) (nodes : List Node) (t : Terms) (env : Env) : Type 0 where
  pub world : IsWorldOf t.design env.interp w
  pub state : DenoteValues w nodes t.entries env.state
  pub inputs : DenoteScalars w nodes t.inputs env.inputs
  pub locals : DenoteValues w nodes t.lets env.locals

-- wherever the terms denote what the names stand for, the new term denotes the value of the expression, of which it
-- was made
pub record DenotesExpr (old new : List Node) (t : Terms) (e : ExprView) (id : ℕ) : Type 0 where
  pub inside : id < length new
  pub sorted : (s : Sort) → HasSort (context_in old t) e s → TermHasSort new id s
  pub denotes : (w : World) (env : Env) → DenoteEnv w old t env → denoted w new id ≡ denotes_value (value_of env e)
  pub made : IsMade new t e id
