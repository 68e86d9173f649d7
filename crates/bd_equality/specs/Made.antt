-- From what each node of a truth graph is made: that of a truth value by the constructor of its form from the nodes of
-- its parts, that of an equation of two words in the way in which one function takes them apart, the same wherever they
-- are compared. A way is free where several are right; everything else is not. Where variables are marked, the words of
-- rows aren't taken apart: two rows of a marked symbol are equal exactly if their arguments are, and a row is equal to no
-- row of another marked symbol and to no variable that isn't marked (Bryant, German and Velev 2001).
use Rattle.std.specs.Prelude.{◌≡◌, ◌≢◌, ℕ, ◌<◌, ◌==◌, ◌||◌, ◌⊎◌, min, max, Bool, true, false, List, [], ◌∷◌, Contains, Option, None, Some, length, slice_get, if◌then◌else◌}
use Rattle.std.specs.List.{AllByRecursion}
use Rattle.bd_model.specs.declared.design.Sort.TheVariants as sort
use Rattle.bd_model.specs.declared.table.Scalar.{Scalar}
use Rattle.bd_model.specs.Value.{scalar_word}
use Rattle.bd_terms.specs.declared.node.Sym.{Sym}
use Rattle.bd_terms.specs.declared.node.Sym.TheVariants.{Var}
use Rattle.bd_terms.specs.declared.node.Node.{Node}
use Rattle.bd_terms.specs.declared.node.Node.TheVariants.{True, Not, And, Or, Ite, Eq, App, Pred}
use Rattle.bd_terms.specs.Denotation.{word}
use Rattle.bd_function.specs.declared.flat.FlatRow.{FlatRow}
use Rattle.bd_function.specs.declared.flat.FlatSym.{FlatSym}
use Rattle.bd_function.specs.Flat.{arguments, first_value, under}
use Rattle.bd_prop.specs.declared.atom.Atom.TheVariants.{Edge as EdgeOf, Truth as TruthOf}
use Rattle.bd_prop.specs.declared.node.PropNode.{PropNode}
use Rattle.bd_prop.specs.declared.node.PropNode.TheVariants.{True as TrueNode, Atom as AtomOf}
use Rattle.bd_prop.specs.Form.{Adds, HasForm, not_form, and_form, or_form, ite_form}
use Rattle.bd_prop.specs.Graph.{Extends, StandsAt}
use Rattle.bd_equality.specs.Encoding.{IsVariable, has_mark}

-- what a node stands for: a truth value of the formula, whether two of its words are equal, or whether two lists of them
-- are, pair by pair
pub data Subject : Type 0 where
  Term : ℕ → Subject
  Words : ℕ → ℕ → Subject
  Pairs : List ℕ → List ℕ → Subject

-- the control of a word, if it is an ite
abbrev pub node_head : Option Node → Option ℕ
node_head (Some (Ite c a b)) = Some c
node_head _ = None

abbrev pub head : List Node → ℕ → Option ℕ
head nodes id = node_head (slice_get nodes id)

-- what a word is where the control has this value: an ite of this control is a branch of it, and each other word stays
abbrev pub node_branch : Bool → ℕ → ℕ → Option Node → ℕ
node_branch side control id (Some (Ite c a b)) = if c == control then (if side then a else b) else id
node_branch side control id _ = id

abbrev pub branch : List Node → Bool → ℕ → ℕ → ℕ
branch nodes side control id = node_branch side control id (slice_get nodes id)

-- the variable that a symbol is
abbrev pub symbol_variable : Sym → ℕ
symbol_variable (Var x) = x
symbol_variable _ = 0

-- the word is this variable
pub record IsVariableWord (nodes : List Node) (id x : ℕ) : Type 0 where
  pub symbol : Sym
  pub args : List ℕ
  pub there : slice_get nodes id ≡ Some (App symbol args)
  pub is : x ≡ symbol_variable symbol

-- the variables of the symbol's rows are words of the formula, and marked
pub record IsMarkedSymbol (nodes : List Node) (marked : Option (List ℕ)) (s : FlatSym) : Type 0 where
  pub words : (r : FlatRow) → Contains s.rows r → IsVariable nodes sort.Word r.var
  pub marks : (r : FlatRow) → Contains s.rows r → has_mark marked r.var ≡ true

-- the word of a row of a marked symbol: under all values that of the variable of the symbol's first row with equal arguments
pub record IsRow (nodes : List Node) (marked : Option (List ℕ)) (s : FlatSym) (r : FlatRow) (id : ℕ) : Type 0 where
  pub symbol : IsMarkedSymbol nodes marked s
  pub has : Contains s.rows r
  pub first : (v : ℕ → Scalar) → word (under v) nodes id ≡ scalar_word (first_value v nodes s.rows (arguments v nodes r))

-- the words of two rows of one marked symbol, with these arguments
pub record AreRows (nodes : List Node) (syms : List FlatSym) (marked : Option (List ℕ)) (a b : ℕ) (left right : List ℕ) : Type 0 where
  pub holder : FlatSym
  pub listed : Contains syms holder
  pub first : FlatRow
  pub second : FlatRow
  pub is_first : IsRow nodes marked holder first a
  pub is_second : IsRow nodes marked holder second b
  pub first_arguments : first.args ≡ left
  pub second_arguments : second.args ≡ right

-- the word of a row of a marked symbol
pub record IsRowOf (nodes : List Node) (syms : List FlatSym) (marked : Option (List ℕ)) (holder : FlatSym) (id : ℕ) : Type 0 where
  pub listed : Contains syms holder
  pub row : FlatRow
  pub is : IsRow nodes marked holder row id

-- the word is a variable that isn't marked
pub record IsUnmarkedWord (nodes : List Node) (marked : Option (List ℕ)) (id : ℕ) : Type 0 where
  pub variable : ℕ
  pub is : IsVariableWord nodes id variable
  pub unmarked : has_mark marked variable ≡ false

-- the words of rows of two marked symbols, or that of a row and a variable that isn't marked
pub data AreDifferent (nodes : List Node) (syms : List FlatSym) (marked : Option (List ℕ)) (a b : ℕ) : Type 0 where
  TwoSymbols : (s t : FlatSym) → s.sym ≢ t.sym → IsRowOf nodes syms marked s a → IsRowOf nodes syms marked t b → AreDifferent nodes syms marked a b
  RowFirst : (s : FlatSym) → IsRowOf nodes syms marked s a → IsUnmarkedWord nodes marked b → AreDifferent nodes syms marked a b
  RowSecond : (s : FlatSym) → IsUnmarkedWord nodes marked a → IsRowOf nodes syms marked s b → AreDifferent nodes syms marked a b

-- how an equation of two words is taken apart: by a control; as one of two rows, by their arguments; or not, since it never holds
pub data Way : Type 0 where
  ByControl : ℕ → Way
  ByArguments : List ℕ → List ℕ → Way
  Never : Way

-- the way of each equation of two words that is taken apart, the word that stands earlier first
abbrev pub Ways : Type 0
Ways = ℕ → ℕ → Option Way

-- two words of which the first stands earlier, and one is an ite
pub record AreTakenApart (nodes : List Node) (a b : ℕ) : Type 0 where
  pub before : a < b
  pub nested : (head nodes a ≡ None) × (head nodes b ≡ None) → ⊥

-- a step of the truth graph: what it was, what it is then, and the node that the step gives
abbrev pub Step : Type 1
Step = List PropNode → List PropNode → ℕ → Type 0

-- the step by the constructor of a constant or an atom, and by those of the connectives
abbrev pub plainly : PropNode → Step
plainly node old new id = StandsAt new id node × Adds old node new

abbrev pub negated : ℕ → Step
negated x old new id = HasForm old (not_form old x) new id

abbrev pub conjoined : ℕ → ℕ → Step
conjoined x y old new id = HasForm old (and_form old x y) new id

abbrev pub disjoined : ℕ → ℕ → Step
disjoined x y old new id = HasForm old (or_form old x y) new id

abbrev pub selected : ℕ → ℕ → ℕ → Step
selected w x y old new id = HasForm old (ite_form old w x y) new id

-- a step from these nodes gave the node, when the graph was a front of what it is
pub record Comes (prop : List PropNode) (parts : List ℕ) (step : Step) (id : ℕ) : Type 0 where
  pub old : List PropNode
  pub new : List PropNode
  pub inside : AllByRecursion (λ x. x < length old) parts
  pub made : step old new id
  pub front : Extends new prop

-- the node is made for what it stands for, from nodes that are, each equation in its way
pub data MadeBy (nodes : List Node) (syms : List FlatSym) (marked : Option (List ℕ)) (ways : Ways) (prop : List PropNode) : Subject → ℕ → Type 0 where
  OfTrue : (i id : ℕ) → slice_get nodes i ≡ Some True → Comes prop [] (plainly TrueNode) id → MadeBy nodes syms marked ways prop (Term i) id
  OfNot : (i a x id : ℕ) → slice_get nodes i ≡ Some (Not a) → MadeBy nodes syms marked ways prop (Term a) x → Comes prop (x ∷ []) (negated x) id → MadeBy nodes syms marked ways prop (Term i) id
  OfAnd : (i a b x y id : ℕ) → slice_get nodes i ≡ Some (And a b) → MadeBy nodes syms marked ways prop (Term a) x → MadeBy nodes syms marked ways prop (Term b) y
      → Comes prop (x ∷ y ∷ []) (conjoined x y) id → MadeBy nodes syms marked ways prop (Term i) id
  OfOr : (i a b x y id : ℕ) → slice_get nodes i ≡ Some (Or a b) → MadeBy nodes syms marked ways prop (Term a) x → MadeBy nodes syms marked ways prop (Term b) y
      → Comes prop (x ∷ y ∷ []) (disjoined x y) id → MadeBy nodes syms marked ways prop (Term i) id
  OfIte : (i c a b w x y id : ℕ) → slice_get nodes i ≡ Some (Ite c a b) → MadeBy nodes syms marked ways prop (Term c) w → MadeBy nodes syms marked ways prop (Term a) x
      → MadeBy nodes syms marked ways prop (Term b) y → Comes prop (w ∷ x ∷ y ∷ []) (selected w x y) id → MadeBy nodes syms marked ways prop (Term i) id
  OfPred : (i : ℕ) (s : Sym) (args : List ℕ) (id : ℕ) → slice_get nodes i ≡ Some (Pred s args) → Comes prop [] (plainly (AtomOf (TruthOf (symbol_variable s)))) id
      → MadeBy nodes syms marked ways prop (Term i) id
  OfEq : (i a b id : ℕ) → slice_get nodes i ≡ Some (Eq a b) → MadeBy nodes syms marked ways prop (Words a b) id → MadeBy nodes syms marked ways prop (Term i) id
  Turned : (a b id : ℕ) → MadeBy nodes syms marked ways prop (Words b a) id → MadeBy nodes syms marked ways prop (Words a b) id
  Itself : (a b id : ℕ) → a ≡ b → Comes prop [] (plainly TrueNode) id → MadeBy nodes syms marked ways prop (Words a b) id
  OneVariable : (a b x id : ℕ) → IsVariableWord nodes a x → IsVariableWord nodes b x → Comes prop [] (plainly TrueNode) id → MadeBy nodes syms marked ways prop (Words a b) id
  Marked : (a b x y truth id : ℕ) → IsVariableWord nodes a x → IsVariableWord nodes b y → x ≢ y → (has_mark marked x || has_mark marked y) ≡ true
      → Comes prop [] (plainly TrueNode) truth → Comes prop (truth ∷ []) (negated truth) id → MadeBy nodes syms marked ways prop (Words a b) id
  HasEdge : (a b x y id : ℕ) → IsVariableWord nodes a x → IsVariableWord nodes b y → x ≢ y → (has_mark marked x || has_mark marked y) ≡ false
      → Comes prop [] (plainly (AtomOf (EdgeOf (min x y) (max x y)))) id → MadeBy nodes syms marked ways prop (Words a b) id
  Chosen : (a b c w x y id : ℕ) → AreTakenApart nodes a b → ways a b ≡ Some (ByControl c) → (head nodes a ≡ Some c) ⊎ (head nodes b ≡ Some c) → MadeBy nodes syms marked ways prop (Term c) w
      → MadeBy nodes syms marked ways prop (Words (branch nodes true c a) (branch nodes true c b)) x
      → MadeBy nodes syms marked ways prop (Words (branch nodes false c a) (branch nodes false c b)) y
      → Comes prop (w ∷ x ∷ y ∷ []) (selected w x y) id → MadeBy nodes syms marked ways prop (Words a b) id
  Compared : (a b : ℕ) (left right : List ℕ) (id : ℕ) → AreTakenApart nodes a b → ways a b ≡ Some (ByArguments left right) → AreRows nodes syms marked a b left right
      → MadeBy nodes syms marked ways prop (Pairs left right) id → MadeBy nodes syms marked ways prop (Words a b) id
  Different : (a b truth id : ℕ) → AreTakenApart nodes a b → ways a b ≡ Some Never → AreDifferent nodes syms marked a b
      → Comes prop [] (plainly TrueNode) truth → Comes prop (truth ∷ []) (negated truth) id → MadeBy nodes syms marked ways prop (Words a b) id
  NoPair : (id : ℕ) → Comes prop [] (plainly TrueNode) id → MadeBy nodes syms marked ways prop (Pairs [] []) id
  APair : (a b : ℕ) (left right : List ℕ) (x y id : ℕ) → MadeBy nodes syms marked ways prop (Words a b) x → MadeBy nodes syms marked ways prop (Pairs left right) y
      → Comes prop (x ∷ y ∷ []) (conjoined x y) id → MadeBy nodes syms marked ways prop (Pairs (a ∷ left) (b ∷ right)) id

-- the node is made for what it stands for, with one way for each two words, the same for all that it is made from
pub record Made (nodes : List Node) (syms : List FlatSym) (marked : Option (List ℕ)) (prop : List PropNode) (subject : Subject) (id : ℕ) : Type 0 where
  pub ways : Ways
  pub made : MadeBy nodes syms marked ways prop subject id
