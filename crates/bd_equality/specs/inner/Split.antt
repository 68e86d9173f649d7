-- What is wanted, in which way it is settled, and on what it rests.
use Rattle.std.specs.Prelude.{◌≡◌, ◌<◌, ◌≤◌, ◌⊎◌, ℕ, Bool, true, false, nat_lt, List, [], ◌∷◌, Option, None, Some, length, slice_get, if◌then◌else◌}
use Rattle.bd_model.specs.declared.design.Sort.TheVariants as sort
use Rattle.bd_terms.specs.declared.node.Node.{Node}
use Rattle.bd_terms.specs.declared.node.Node.TheVariants.{Not, And, Or, Ite, Eq}
use Rattle.bd_terms.specs.Graph.{HasSort}
use Rattle.bd_function.specs.declared.flat.FlatRow.{FlatRow}
use Rattle.bd_function.specs.declared.flat.FlatSym.{FlatSym}
use Rattle.bd_equality.specs.Made.{AreDifferent, AreRows, AreTakenApart, ByArguments, ByControl, Never, Subject, Term, Words, Way, branch, head}
use Rattle.bd_equality.specs.declared.wanted.Visit.{Visit}
use Rattle.bd_equality.specs.declared.wanted.Visit.TheVariants.{Enter, Finish}
use Rattle.bd_equality.specs.declared.wanted.Wanted.{Wanted}
use Rattle.bd_equality.specs.declared.wanted.Wanted.TheVariants.{Truth, Equation}
use Rattle.bd_equality.specs.declared.wanted.Way.TheVariants as way
use Rattle.bd_equality.specs.declared.wanted.Way.{Way as TheWay}

-- what the node of what is wanted stands for
abbrev pub subject_of : Wanted → Subject
subject_of (Truth i) = Term i
subject_of (Equation a b) = Words a b

-- the equation of two words, the earlier one on the left
abbrev pub between : ℕ → ℕ → Wanted
between a b = if nat_lt b a then Equation b a else Equation a b

-- the equation of what both words are where the control has this value
abbrev pub part : List Node → Bool → ℕ → ℕ → ℕ → Wanted
part nodes side control a b = between (branch nodes side control a) (branch nodes side control b)

-- none of two words is an ite, or they are the same
abbrev pub IsWhole : List Node → ℕ → ℕ → Type 0
IsWhole nodes a b = (a ≡ b) ⊎ ((head nodes a ≡ None) × (head nodes b ≡ None))

-- the control is one of the two words'
abbrev pub IsControl : List Node → ℕ → ℕ → ℕ → Type 0
IsControl nodes a b c = (head nodes a ≡ Some c) ⊎ (head nodes b ≡ Some c)

-- a control of two words, or none where neither is an ite
abbrev pub IsChosen : List Node → ℕ → ℕ → Option ℕ → Type 0
IsChosen nodes a b (Some c) = IsControl nodes a b c
IsChosen nodes a b None = (head nodes a ≡ None) × (head nodes b ≡ None)

-- the row at its place
abbrev pub row_of_symbol : Option FlatSym → ℕ → Option FlatRow
row_of_symbol None row = None
row_of_symbol (Some s) row = slice_get s.rows row

abbrev pub row_at : List FlatSym → ℕ → ℕ → Option FlatRow
row_at syms symbol row = row_of_symbol (slice_get syms symbol) row

abbrev pub args_of : Option FlatRow → List ℕ
args_of None = []
args_of (Some r) = r.args

-- and its arguments
abbrev pub arguments_at : List FlatSym → ℕ → ℕ → List ℕ
arguments_at syms symbol row = args_of (row_at syms symbol row)

-- a term that is wanted is a truth value, and an equation is one of words, of which the left one isn't later
pub record IsPair (nodes : List Node) (a b : ℕ) : Type 0 where
  pub left : HasSort nodes a sort.Word
  pub right : HasSort nodes b sort.Word
  pub ordered : a ≤ b

abbrev pub IsWanted : List Node → Wanted → Type 0
IsWanted nodes (Truth i) = HasSort nodes i sort.Bool
IsWanted nodes (Equation a b) = IsPair nodes a b

-- each of these words stands before this one
abbrev pub StandBefore : List ℕ → ℕ → Type 0
StandBefore [] id = Unit {0}
StandBefore (x ∷ xs) id = (x < id) × StandBefore xs id

-- each of these is a word
abbrev pub AreWords : List Node → List ℕ → Type 0
AreWords nodes [] = Unit {0}
AreWords nodes (x ∷ xs) = HasSort nodes x sort.Word × AreWords nodes xs

-- the arguments of two rows of one marked symbol, which stand before the rows' words
pub record AreCompared (nodes : List Node) (syms : List FlatSym) (marked : Option (List ℕ)) (a b : ℕ) (left right : List ℕ) : Type 0 where
  pub rows : AreRows nodes syms marked a b left right
  pub alike : length left ≡ length right
  pub left_before : StandBefore left a
  pub right_before : StandBefore right b

-- the way of what is wanted
abbrev pub IsWay : List Node → List FlatSym → Option (List ℕ) → Wanted → TheWay → Type 0
IsWay nodes syms marked (Truth i) w = w ≡ way.Plain
IsWay nodes syms marked (Equation a b) way.Plain = IsWhole nodes a b
IsWay nodes syms marked (Equation a b) (way.Control c) = AreTakenApart nodes a b × IsControl nodes a b c
IsWay nodes syms marked (Equation a b) (way.Arguments p) =
    AreTakenApart nodes a b × AreCompared nodes syms marked a b (arguments_at syms p.symbol p.left) (arguments_at syms p.symbol p.right)
IsWay nodes syms marked (Equation a b) way.Never = AreTakenApart nodes a b × AreDifferent nodes syms marked a b

-- as a way of the definitions
abbrev pub way_of : List FlatSym → TheWay → Option Way
way_of syms way.Plain = None
way_of syms (way.Control c) = Some (ByControl c)
way_of syms (way.Arguments p) = Some (ByArguments (arguments_at syms p.symbol p.left) (arguments_at syms p.symbol p.right))
way_of syms way.Never = Some Never

-- the visit that makes a node in a way, or that looks at what is wanted
abbrev pub visit_of : Wanted → Option TheWay → Visit
visit_of wanted (Some w) = Finish wanted w
visit_of wanted None = Enter wanted

-- the equations between two lists of words, pair by pair
abbrev pub equations : List ℕ → List ℕ → List Wanted
equations [] right = []
equations (a ∷ left) [] = []
equations (a ∷ left) (b ∷ right) = between a b ∷ equations left right

abbrev pub node_parts : Option Node → List Wanted
node_parts (Some (Not a)) = Truth a ∷ []
node_parts (Some (And a b)) = Truth b ∷ Truth a ∷ []
node_parts (Some (Or a b)) = Truth b ∷ Truth a ∷ []
node_parts (Some (Ite c a b)) = Truth b ∷ Truth a ∷ Truth c ∷ []
node_parts (Some (Eq a b)) = between a b ∷ []
node_parts _ = []

-- on what it rests
abbrev pub parts : List Node → List FlatSym → Wanted → TheWay → List Wanted
parts nodes syms (Truth i) w = node_parts (slice_get nodes i)
parts nodes syms (Equation a b) way.Plain = []
parts nodes syms (Equation a b) (way.Control c) = Truth c ∷ part nodes false c a b ∷ part nodes true c a b ∷ []
parts nodes syms (Equation a b) (way.Arguments p) = equations (arguments_at syms p.symbol p.left) (arguments_at syms p.symbol p.right)
parts nodes syms (Equation a b) way.Never = []

-- two rows that are compared have as many arguments
abbrev pub AreAlike : List FlatSym → TheWay → Type 0
AreAlike syms (way.Arguments p) = length (arguments_at syms p.symbol p.left) ≡ length (arguments_at syms p.symbol p.right)
AreAlike syms _ = Unit {0}

-- the way of an equation of which a word is a row
abbrev pub IsRowWay : List Node → List FlatSym → Option (List ℕ) → ℕ → ℕ → TheWay → Type 0
IsRowWay nodes syms marked a b (way.Arguments p) = AreCompared nodes syms marked a b (arguments_at syms p.symbol p.left) (arguments_at syms p.symbol p.right)
IsRowWay nodes syms marked a b way.Never = AreDifferent nodes syms marked a b
IsRowWay nodes syms marked a b way.Plain = ⊥
IsRowWay nodes syms marked a b (way.Control c) = ⊥
