-- Which calls of the constructors (bd_terms) made a term, from an expression down to the terms of its names. A term
-- that says the same by another form was made by other calls.
use Rattle.std.specs.Prelude.{◌≡◌, ℕ, zero, suc, ◌<◌, ◌*◌, Bool, true, false, List, [], ◌∷◌, ◌++◌, length, map, Option, Some, None, slice_get, slice_index_or, if◌then◌else◌}
use Rattle.std.specs.List.{All, AllZip}
use Rattle.bd_model.specs.ExprView.{ExprView, ExprViews, no_exprs, expr}
use Rattle.bd_model.specs.ExprView.{Truth, Entry, Input, Local, Not, And, Or, Implies, Iff, Equal, Ite, Read, Write, Apply}
use Rattle.bd_model.specs.DesignView.{DesignView, LocalView, PortView}
use Rattle.bd_model.specs.Lawful.{entry_sorts}
use Rattle.bd_model.specs.declared.design.Sort.{Sort}
use Rattle.bd_model.specs.declared.design.Sort.TheVariants as sort
use Rattle.bd_model.specs.declared.design.Symbol.{Symbol}
use Rattle.bd_terms.specs.Graph.{Extends, children}
use Rattle.bd_terms.specs.Simplified.{Gives, simplified}
use Rattle.bd_terms.specs.declared.node.Sym.{Sym}
use Rattle.bd_terms.specs.declared.node.Sym.TheVariants as sym
use Rattle.bd_terms.specs.declared.node.Node.{Node}
use Rattle.bd_terms.specs.declared.node.Node.TheVariants as node
use Rattle.bd_symbolic.specs.declared.state.SymState.{SymState}
use Rattle.bd_symbolic.specs.Terms.{Terms, terms_of}

-- the term is what the constructor's call for the node gave, over terms of the graph as it was then
pub record Called (nodes : List Node) (node : Node) (id : ℕ) : Type 0 where
  pub before : List Node
  pub after : List Node
  pub inside : All (λ c. c < length before) (children node)
  pub gives : Gives before after id (simplified before node)
  pub since : Extends after nodes

-- true, or its negation
abbrev pub IsConstant : List Node → Bool → ℕ → Type 0
IsConstant nodes true id = Called nodes node.True id
IsConstant nodes false id =
    (yes : ℕ) × Called nodes node.True yes × Called nodes (node.Not yes) id

-- the negation of the first, or the second
abbrev pub IsImplication : List Node → ℕ → ℕ → ℕ → Type 0
IsImplication nodes a b id =
    (denied : ℕ) × Called nodes (node.Not a) denied × Called nodes (node.Or denied b) id

-- the second where the first is true, else its negation
abbrev pub IsEquivalence : List Node → ℕ → ℕ → ℕ → Type 0
IsEquivalence nodes a b id =
    (denied : ℕ) × Called nodes (node.Not b) denied × Called nodes (node.Ite a b denied) id

-- a truth value if the symbol is a predicate, else a word
abbrev pub symbol_node : Option Symbol → ℕ → List ℕ → Node
symbol_node (Some y) f args =
    if y.predicate then node.Pred (sym.Function f) args else node.App (sym.Function f) args
symbol_node None f args = node.App (sym.Function f) args

abbrev mutual
  -- the term of an expression, where names stand for these terms
  pub IsMade : List Node → Terms → ExprView → ℕ → Type 0
  IsMade nodes t (Truth b) id = IsConstant nodes b id
  IsMade nodes t (Entry i) id = id ≡ slice_index_or t.entries i 0
  IsMade nodes t (Input i) id = id ≡ slice_index_or t.inputs i 0
  IsMade nodes t (Local i) id = id ≡ slice_index_or t.lets i 0
  IsMade nodes t (Not a) id = (x : ℕ) × IsMade nodes t a x × Called nodes (node.Not x) id
  IsMade nodes t (And es) id =
      (yes : ℕ) × IsConstant nodes true yes × AreJoined nodes t node.And yes es id
  IsMade nodes t (Or es) id =
      (no : ℕ) × IsConstant nodes false no × AreJoined nodes t node.Or no es id
  IsMade nodes t (Implies a b) id =
      (x : ℕ) × (y : ℕ) × IsMade nodes t a x × IsMade nodes t b y × IsImplication nodes x y id
  IsMade nodes t (Iff a b) id =
      (x : ℕ) × (y : ℕ) × IsMade nodes t a x × IsMade nodes t b y × IsEquivalence nodes x y id
  IsMade nodes t (Equal a b) id =
      (x : ℕ) × (y : ℕ) × IsMade nodes t a x × IsMade nodes t b y × Called nodes (node.Eq x y) id
  IsMade nodes t (Ite p a b) id =
      (x : ℕ) × (y : ℕ) × (z : ℕ) × IsMade nodes t p x × IsMade nodes t a y × IsMade nodes t b z
      × Called nodes (node.Ite x y z) id
  IsMade nodes t (Read m a) id =
      (x : ℕ) × (y : ℕ) × IsMade nodes t m x × IsMade nodes t a y × Called nodes (node.Read x y) id
  IsMade nodes t (Write m a d) id =
      (x : ℕ) × (y : ℕ) × (z : ℕ) × IsMade nodes t m x × IsMade nodes t a y × IsMade nodes t d z
      × Called nodes (node.Write x y z) id
  IsMade nodes t (Apply f es) id =
      (args : List ℕ) × AreMade nodes t es args
      × Called nodes (symbol_node (slice_get t.design.symbols f) f args) id

  -- the terms of expressions joined one by one to the one so far
  pub AreJoined : List Node → Terms → (ℕ → ℕ → Node) → ℕ → ExprViews → ℕ → Type 0
  AreJoined nodes t form done no_exprs id = id ≡ done
  AreJoined nodes t form done (expr e es) id =
      (x : ℕ) × (next : ℕ) × IsMade nodes t e x × Called nodes (form done x) next
      × AreJoined nodes t form next es id

  -- a term for each expression
  pub AreMade : List Node → Terms → ExprViews → List ℕ → Type 0
  AreMade nodes t no_exprs [] = Unit {0}
  AreMade nodes t no_exprs (id ∷ ids) = ⊥
  AreMade nodes t (expr e es) [] = ⊥
  AreMade nodes t (expr e es) (id ∷ ids) = IsMade nodes t e id × AreMade nodes t es ids

-- lets after those so far, each made over the earlier ones
abbrev pub AreLets : List Node → DesignView → SymState → List ℕ → List LocalView → List ℕ → Type 0
AreLets nodes d state done [] lets = lets ≡ done
AreLets nodes d state done (l ∷ locals) lets =
    (x : ℕ) × IsMade nodes (terms_of d state done) l.value x
    × AreLets nodes d state (done ++ x ∷ []) locals lets

-- the terms of expressions in a state, each made over the terms of the lets
pub record AreMadeOver (nodes : List Node) (d : DesignView) (state : SymState) (locals : List LocalView) (es : List ExprView) (ids : List ℕ) : Type 0 where
  pub lets : List ℕ
  pub first : AreLets nodes d state [] locals lets
  pub made : AllZip (IsMade nodes (terms_of d state lets)) es ids

-- a flush cycle: the terms of the flush expressions for inputs, then those of the next expressions
pub record IsFlushCycle (nodes : List Node) (d : DesignView) (state next : SymState) : Type 0 where
  pub inputs : AreMadeOver nodes d state d.pipe.locals (map (λ (p : PortView). p.idle) d.pipe.ports) next.inputs
  pub entries : AreMadeOver nodes d (record state { inputs = next.inputs }) d.pipe.locals d.pipe.nexts next.entries

-- the entries after so many flush cycles
abbrev pub AreFlushed : List Node → DesignView → ℕ → SymState → List ℕ → Type 0
AreFlushed nodes d zero state ids = ids ≡ state.entries
AreFlushed nodes d (suc n) state ids =
    (next : SymState) × IsFlushCycle nodes d state next × AreFlushed nodes d n next ids

-- the first contents of an entry; no other symbol is a memory's
abbrev pub memory_node : Sym → Node
memory_node (sym.Entry i) = node.Init i
memory_node s = node.App s []

-- the term of a symbol before the first cycle
abbrev pub first_node : Sym → Sort → Node
first_node s sort.Bool = node.Pred s []
first_node s sort.Word = node.App s []
first_node s sort.Memory = memory_node s

-- such a term for each sort, where the symbols are numbered from n
abbrev pub AreFirst : (ℕ → Sym) → List Node → ℕ → List ℕ → List Sort → Type 0
AreFirst symbol nodes n [] [] = Unit {0}
AreFirst symbol nodes n (id ∷ ids) (s ∷ sorts) =
    Called nodes (first_node (symbol n) s) id × AreFirst symbol nodes (suc n) ids sorts
AreFirst symbol nodes n ids sorts = ⊥

-- the entries before the first cycle
abbrev pub AreFirstEntries : DesignView → List Node → List ℕ → Type 0
AreFirstEntries d nodes ids = AreFirst sym.Entry nodes 0 ids (entry_sorts d.pipe)

-- the inputs of a cycle, from 0
abbrev pub AreFirstInputs : DesignView → ℕ → List Node → List ℕ → Type 0
AreFirstInputs d cycle nodes ids =
    AreFirst sym.Input nodes (cycle * length d.pipe.ports) ids (map (λ (p : PortView). p.sort) d.pipe.ports)

-- the entries before the first cycle, and the inputs of it
pub record IsFirstState (d : DesignView) (nodes : List Node) (state : SymState) : Type 0 where
  pub entries : AreFirstEntries d nodes state.entries
  pub inputs : AreFirstInputs d 0 nodes state.inputs
