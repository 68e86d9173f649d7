-- The kept formula of a root, layer by layer: memories and functions are removed, positive symbols marked, equations
-- become edges, and the negated truth root, the edges' triangles and the edges that are kept apart become clauses
-- (Burch and Dill 1994; Bryant, German and Velev 2001; Bryant and Velev 2000; Tseitin 1968; Velev 2004). What a layer
-- leaves free stays free, as the order of triangles and which variable a node gets.
use Rattle.std.specs.Prelude.{◌≡◌, ◌↔◌, ◌⊎◌, ◌<◌, ◌≤◌, ◌+◌, ◌++◌, ℕ, true, false, List, [], ◌∷◌, All, Contains, Option, None, length, map, take, slice_index, slice_index_or}
use Rattle.bd_model.specs.Cycle.{flushed}
use Rattle.bd_model.specs.DesignView.{DesignView}
use Rattle.bd_model.specs.declared.case.Case.{Case}
use Rattle.bd_model.specs.declared.design.Sort.TheVariants as sort
use Rattle.bd_model.specs.declared.table.Scalar.{Scalar}
use Rattle.bd_terms.specs.declared.node.Node.{Node}
use Rattle.bd_terms.specs.Denotation.{World}
use Rattle.bd_terms.specs.Graph.{HasSort, IsGraph}
use Rattle.bd_goal.specs.Claims.{Claims}
use Rattle.bd_model.specs.declared.abstraction.Abstraction.TheVariants as abstraction
use Rattle.bd_goal.specs.Formula.{Corresponds, IsOutside, address_count}
use Rattle.bd_goal.specs.Made.{IsCorrespondence, IsDenial}
use Rattle.bd_goal.specs.Symbols.{ReachesKnown}
use Rattle.bd_memory.specs.Forward.{HasNoMemory}
use Rattle.bd_memory.specs.Forwarded.{Forwarded, Term as OldTerm}
use Rattle.bd_walk.specs.Carried.{AppliesReached, DenotesSame, HasSortsReached}
use Rattle.bd_walk.specs.Ordered.{IsInWalkOrder}
use Rattle.bd_function.specs.declared.flat.FlatSym.{FlatSym}
use Rattle.bd_function.specs.Flat.{AreApplications, Flattens, HasAllApplications, IsChosen, IsFlat}
use Rattle.bd_function.specs.Flattened.{IsMadeFlat}
use Rattle.bd_diverse.specs.Marked.{HasVariable}
use Rattle.bd_diverse.specs.Positive.{IsPositive}
use Rattle.bd_prop.specs.declared.atom.Atom.TheVariants as atom
use Rattle.bd_prop.specs.declared.node.PropNode.{PropNode}
use Rattle.bd_prop.specs.Form.{HasForm, not_form}
use Rattle.bd_prop.specs.Gathered.{IsGathered}
use Rattle.bd_prop.specs.Graph.{HasOneId, IsGraph as IsPropGraph}
use Rattle.bd_cnf.specs.Literal.{Literal, literal}
use Rattle.bd_cnf.specs.Problem.{Problem}
use Rattle.bd_equality.specs.Edges.{IsApart, IsEdge, ReachesEdge}
use Rattle.bd_equality.specs.Encoding.{Encodes, EncodesByEdges, has_mark}
use Rattle.bd_equality.specs.Made.{Made, Term as FlatTerm}
use Rattle.bd_transitive.specs.declared.graph.Edge.{Edge}
use Rattle.bd_transitive.specs.declared.graph.Order.{Order}
use Rattle.bd_transitive.specs.Clauses.{AreTriangleClauses}
use Rattle.bd_transitive.specs.Edges.{AreEdges, IsEnd}
use Rattle.bd_transitive.specs.Elimination.{IsByLeastDegree, joined_by}
use Rattle.bd_transitive.specs.Orders.{IsFillIn, IsOrder}
use Rattle.bd_tseitin.specs.declared.row.AtomVar.{AtomVar}
use Rattle.bd_tseitin.specs.Form.{IsTseitin}
use Rattle.bd_tseitin.specs.Rows.{AreRows, HasAtom}
use Rattle.bd_verify.specs.declared.verdict.Mode.{Mode}
use Rattle.bd_verify.specs.declared.verdict.Mode.TheVariants as mode
use Rattle.bd_verify.specs.declared.verdict.Question.{Question}
use Rattle.bd_verify.specs.declared.verdict.Question.TheVariants as question

-- what the formula of a question claims of a case with words for the fresh addresses
abbrev pub claim_of : Question → DesignView → Case → List ℕ → Type 0
claim_of question.Breaks d = Corresponds d (flushed d)
claim_of question.Meets d = IsOutside d

-- how many fresh addresses it may reach
abbrev pub addresses_of : Question → DesignView → ℕ
addresses_of question.Breaks d = address_count d
addresses_of question.Meets d = 0

-- from which calls of the constructors its root is made: the correspondence formula by flushing, or that the invariant
-- is false in the first state
abbrev pub IsMadeFor : Question → DesignView → List Node → ℕ → Type 0
IsMadeFor question.Breaks d nodes root = IsCorrespondence nodes d abstraction.Flushing root
IsMadeFor question.Meets d nodes root = IsDenial nodes d root

-- a root of the question: it makes the claim, is made for it, and reaches symbols of the design and these addresses alone
pub record IsRootOf (d : DesignView) (asked : Question) (nodes : List Node) (root : ℕ) : Type 0 where
  pub sorted : HasSort nodes root sort.Bool
  pub claims : Claims d (claim_of asked d) nodes root
  pub made : IsMadeFor asked d nodes root
  pub known : ReachesKnown d (addresses_of asked d) nodes root

-- the new root is made for the old one from reads that are pushed down through writes to first contents; it denotes what
-- the old one does, and has no memory below it
pub record RemovesMemories (old : List Node) (old_root : ℕ) (nodes : List Node) (root : ℕ) : Type 0 where
  pub graph : IsGraph nodes
  pub sorted : HasSort nodes root sort.Bool
  pub none : HasNoMemory nodes
  pub made : Forwarded old nodes (OldTerm old_root) root
  pub denotes : DenotesSame old old_root nodes root
  pub reached : AppliesReached old old_root nodes

-- the terms stand in the order in which a depth-first walk from the old root finishes them, so that in whichever order
-- they were made, they come to the same formula; the new root denotes what the old one does
pub record OrdersTerms (old : List Node) (old_root : ℕ) (nodes : List Node) (root : ℕ) : Type 0 where
  pub graph : IsGraph nodes
  pub sorted : HasSort nodes root sort.Bool
  pub order : IsInWalkOrder old old_root nodes root
  pub denotes : DenotesSame old old_root nodes root
  pub sorts : HasSortsReached old old_root nodes
  pub reached : AppliesReached old old_root nodes

-- the flat root is made for the old one, with a variable for each application that this reaches, and no others
pub record RemovesFunctions (old : List Node) (old_root : ℕ) (nodes : List Node) (root : ℕ) (syms : List FlatSym) : Type 0 where
  pub graph : IsGraph nodes
  pub flat : IsFlat nodes root syms
  pub made : IsMadeFlat old old_root nodes root syms
  pub flattens : Flattens old old_root nodes root syms
  pub rows : AreApplications old old_root nodes syms
  pub all_rows : HasAllApplications old old_root nodes syms
  pub chosen : (w : World) (choice : ℕ → Scalar) → IsChosen old old_root nodes syms w choice

-- the variable is that of an application of a positive symbol
pub record IsPositiveVariable (old : List Node) (old_root : ℕ) (syms : List FlatSym) (x : ℕ) : Type 0 where
  pub holder : FlatSym
  pub listed : Contains syms holder
  pub positive : IsPositive old old_root holder.sym
  pub row : HasVariable holder.rows x

-- the variables that are marked: in plain mode none, in diverse mode those of all applications of positive symbols
abbrev pub AreMarks : Mode → List Node → ℕ → List FlatSym → Option (List ℕ) → Type 0
AreMarks mode.Plain old old_root syms marked = marked ≡ None
AreMarks mode.Diverse old old_root syms marked =
    (x : ℕ) → (has_mark marked x ≡ true) ↔ IsPositiveVariable old old_root syms x

-- the flat formula of such a root, with the variables that are marked
pub record IsFlatOf (is_root : List Node → ℕ → Type 0) (m : Mode) (nodes : List Node) (root : ℕ) (syms : List FlatSym)
    (marked : Option (List ℕ)) : Type 0 where
  pub terms : List Node
  pub term : ℕ
  pub graph : IsGraph terms
  pub asked : is_root terms term
  pub built : List Node
  pub built_root : ℕ
  pub memories : RemovesMemories terms term built built_root
  pub plain : List Node
  pub plain_root : ℕ
  pub order : OrdersTerms built built_root plain plain_root
  pub functions : RemovesFunctions plain plain_root nodes root syms
  pub marks : AreMarks m plain plain_root syms marked

-- the truth root of a flat formula, made for its root from the nodes of its parts; its edges are those that it reaches, and those between constants that are kept
-- apart; no marked variable is the end of one
pub record IsEncoded (d : DesignView) (nodes : List Node) (root : ℕ) (syms : List FlatSym) (marked : Option (List ℕ))
    (prop : List PropNode) (prop_root : ℕ) (edges apart : List Edge) : Type 0 where
  pub graph : IsPropGraph prop
  pub inside : prop_root < length prop
  pub made : Made nodes syms marked prop (FlatTerm root) prop_root
  pub denotes : Encodes nodes root marked prop prop_root
  pub by_edges : EncodesByEdges nodes root marked edges prop prop_root
  pub simple : AreEdges edges
  pub edges_are : (edge : Edge) → Contains edges edge ↔ (ReachesEdge prop prop_root edge ⊎ Contains apart edge)
  pub vertices : All (IsEdge nodes marked) edges
  pub apart_are : (edge : Edge) → Contains apart edge ↔ IsApart nodes syms d.distinct marked edge
  pub apart_simple : AreEdges apart

-- the elimination order of the edges by least degree; they come first, then those that it adds
pub record IsOrderOf (edges : List Edge) (order : Order) : Type 0 where
  pub is_order : IsOrder order
  pub fewest : IsByLeastDegree (joined_by edges) order.vertices
  pub vertices : (v : ℕ) → Contains order.vertices v ↔ IsEnd edges v
  pub given : take (length edges) order.edges ≡ edges
  pub further : (e : ℕ) → length edges ≤ e → e < length order.edges → IsFillIn order e

-- the negated root, whose choices are gathered into trees
pub record IsNegation (prop : List PropNode) (prop_root : ℕ) (nodes : List PropNode) (root : ℕ) : Type 0 where
  pub negation : List PropNode
  pub negation_root : ℕ
  pub negated : HasForm prop (not_form prop prop_root) negation negation_root
  pub gathered : IsGathered negation negation_root nodes root
  pub graph : IsPropGraph nodes
  pub inside : root < length nodes

-- Tseitin's clauses of it
pub record IsDenied (prop : List PropNode) (prop_root : ℕ) (formula : Problem) (rows : List AtomVar) : Type 0 where
  pub nodes : List PropNode
  pub root : ℕ
  pub negation : IsNegation prop prop_root nodes root
  pub different : HasOneId nodes
  pub form : IsTseitin nodes root formula.vars formula.clauses rows

-- the row of an edge
abbrev pub edge_row : Edge → ℕ → AtomVar
edge_row edge x = record { atom = atom.Edge edge.from edge.to; var = x }

-- the variables that rows give edges, one for each
pub record AreVariables (rows : List AtomVar) (edges : List Edge) (vars : List ℕ) : Type 0 where
  pub counted : length vars ≡ length edges
  pub each : (e : ℕ) (d : Edge) → e < length edges → Contains rows (edge_row (slice_index_or edges e d) (slice_index vars e))

-- a row more for an edge that had none, with a variable after the first ones
pub record IsFurtherRow (edges : List Edge) (vars : ℕ) (rows : List AtomVar) (row : AtomVar) : Type 0 where
  pub edge : Edge
  pub listed : Contains edges edge
  pub same : row.atom ≡ atom.Edge edge.from edge.to
  pub new : ¬ HasAtom rows row.atom
  pub after : vars < row.var

-- the rows of edges that had none come after the others: as many variables more
pub record AddsRows (edges : List Edge) (vars : ℕ) (rows : List AtomVar) (vars' : ℕ) (rows' : List AtomVar) : Type 0 where
  pub more : List AtomVar
  pub grown : rows' ≡ rows ++ more
  pub counted : vars' ≡ vars + length more
  pub further : All (IsFurtherRow edges vars rows) more
  pub are : AreRows vars' rows'

-- the clause that a variable is false
abbrev pub denial : ℕ → List Literal
denial x = literal x false ∷ []

-- after the clauses those of the order's triangles over the variables of its edges, and then a clause for each edge that
-- is kept apart, which makes it false
pub record AddsEdges (order : Order) (apart : List Edge) (old : Problem) (rows : List AtomVar) (new : Problem)
    (rows' : List AtomVar) : Type 0 where
  pub numbered : AddsRows order.edges old.vars rows new.vars rows'
  pub variables : List ℕ
  pub named : AreVariables rows' order.edges variables
  pub triangles : List (List Literal)
  pub are : AreTriangleClauses order variables triangles
  pub denied : List ℕ
  pub named_apart : AreVariables rows' apart denied
  pub clauses : new.clauses ≡ old.clauses ++ triangles ++ map denial denied

-- the formula of a flat one, with the order of its edges and the rows of its atoms
pub record IsFormulaOf (d : DesignView) (nodes : List Node) (root : ℕ) (syms : List FlatSym) (marked : Option (List ℕ))
    (order : Order) (formula : Problem) (rows : List AtomVar) : Type 0 where
  pub prop : List PropNode
  pub prop_root : ℕ
  pub edges : List Edge
  pub apart : List Edge
  pub encoded : IsEncoded d nodes root syms marked prop prop_root edges apart
  pub ordered : IsOrderOf edges order
  pub first : Problem
  pub first_rows : List AtomVar
  pub denied : IsDenied prop prop_root first first_rows
  pub adds : AddsEdges order apart first first_rows formula rows

-- the formula that is kept of such a root
pub record IsKeptOf (d : DesignView) (is_root : List Node → ℕ → Type 0) (m : Mode) (formula : Problem) : Type 0 where
  pub nodes : List Node
  pub root : ℕ
  pub syms : List FlatSym
  pub marked : Option (List ℕ)
  pub flat : IsFlatOf is_root m nodes root syms marked
  pub order : Order
  pub rows : List AtomVar
  pub formula_is : IsFormulaOf d nodes root syms marked order formula rows

-- the formula that is kept of a question
abbrev pub IsKept : DesignView → Question → Mode → Problem → Type 0
IsKept d asked m formula = IsKeptOf d (IsRootOf d asked) m formula
