-- The text of a case or a trail, in this project's own format: an entry on a line, as a tree is written.
use Rattle.std.specs.Prelude.{ℕ, ◌+◌, List, [], ◌∷◌, ◌++◌, map, length, codes, if◌then◌else◌}
use Rattle.std.specs.List.{flat_map}
use Rattle.std.specs.Fmt.{decimal}
use Rattle.bd_text.specs.Nodes.{Node, atom, list, node}
use Rattle.bd_text.specs.View.{nodes_from}
use Rattle.bd_text.specs.Written.{written}
use Rattle.bd_model.specs.DesignView.{DesignView, PortView}
use Rattle.bd_model.specs.declared.table.Scalar.{Scalar}
use Rattle.bd_model.specs.declared.table.Scalar.TheVariants as scalar
use Rattle.bd_model.specs.declared.table.Row.{Row}
use Rattle.bd_model.specs.declared.table.Table.{Table}
use Rattle.bd_model.specs.declared.table.Value.{Value}
use Rattle.bd_model.specs.declared.design.Entry.{Entry}
use Rattle.bd_model.specs.declared.case.Case.{Case}
use Rattle.bd_model.specs.declared.case.Trail.{Trail}
use Rattle.bd_model.specs.declared.design.Symbol.{Symbol}
use Rattle.bd_case.specs.Kinds.{head_text, version_of, is_apart, symbol_kind, entry_kind}
use Rattle.bd_case.specs.Content.{column, table_of_value, trail_of}
use Rattle.bd_case.specs.declared.kind.Version.{Version}
use Rattle.bd_case.specs.declared.kind.Version.TheVariants.{One, Two}
use Rattle.bd_case.specs.declared.kind.EntryHead.{EntryHead}
use Rattle.bd_case.specs.declared.kind.EntryHead.TheVariants.{Input}

abbrev pub scalar_text : Scalar → List ℕ
scalar_text (scalar.Bool b) = if b then codes "true" else codes "false"
scalar_text (scalar.Word n) = decimal n

abbrev pub word_node : ℕ → Node
word_node n = atom 0 (decimal n)

abbrev pub scalar_node : Scalar → Node
scalar_node x = atom 0 (scalar_text x)

-- (ARG .. VALUE)
abbrev pub row_node : Row → Node
row_node r = list 0 (nodes_from (map word_node r.args ++ scalar_node r.value ∷ []))

-- (HEAD NAME DEFAULT ROW ..), (HEAD NAME VALUE) where there is no row
abbrev pub entry_node : EntryHead → List ℕ → Table → Node
entry_node head name t =
    list 0 (node (atom 0 (head_text head)) (node (atom 0 name)
    (node (scalar_node t.default) (nodes_from (map row_node t.rows)))))

-- the entries of the symbols from this number on
abbrev pub symbol_nodes : Version → List (List ℕ) → ℕ → List Symbol → List Table → List Node
symbol_nodes version distinct f (y ∷ ys) (t ∷ ts) =
    entry_node (symbol_kind version (is_apart distinct f) y).head y.name t
    ∷ symbol_nodes version distinct (f + 1) ys ts
symbol_nodes version distinct f _ _ = []

abbrev pub state_nodes : List Entry → List Value → List Node
state_nodes (e ∷ es) (v ∷ vs) =
    entry_node (entry_kind e).head e.name (table_of_value v) ∷ state_nodes es vs
state_nodes _ _ = []

-- (HEAD NAME VALUE ..)
abbrev pub values_node : EntryHead → List ℕ → List Scalar → Node
values_node head name xs =
    list 0 (node (atom 0 (head_text head)) (node (atom 0 name) (nodes_from (map scalar_node xs))))

-- the entries of the inputs from this place on, each with its value in every cycle
abbrev pub input_nodes : ℕ → List PortView → List (List Scalar) → List Node
input_nodes i [] inputs = []
input_nodes i (p ∷ ps) inputs =
    values_node Input p.name (column i inputs) ∷ input_nodes (i + 1) ps inputs

-- functions and predicates by their numbers, then latches and memories, then inputs
abbrev pub trail_nodes : Version → DesignView → Trail → List Node
trail_nodes version d t =
    (symbol_nodes version d.distinct 0 d.symbols t.interp ++ state_nodes d.pipe.entries t.state)
    ++ input_nodes 0 d.pipe.ports t.inputs

abbrev pub version_text : Version → List ℕ
version_text One = codes "1"
version_text Two = codes "2"

-- a line feed, a space and the entry
abbrev pub entry_line : Node → List ℕ
entry_line t = 10 ∷ 32 ∷ written t

-- entries after a heading
abbrev pub text_with : List ℕ → List Node → List ℕ
text_with heading entries = (heading ++ flat_map entry_line entries) ++ codes ")\n"

-- the text of a case
abbrev pub text_of : DesignView → Case → List ℕ
text_of d c =
    text_with (codes "(case " ++ version_text (version_of d.distinct))
    (trail_nodes (version_of d.distinct) d (trail_of c))

-- the text of a trail
abbrev pub trail_text_of : DesignView → Trail → List ℕ
trail_text_of d t =
    text_with (codes "(trail " ++ decimal (length t.inputs)) (trail_nodes Two d t)

-- a space, the entry and a line feed
abbrev pub state_line : Node → List ℕ
state_line t = 32 ∷ written t ++ 10 ∷ []

-- the entries of a state, as in the text of a case, a line for each
abbrev pub state_text : DesignView → List Value → List ℕ
state_text d state = flat_map state_line (state_nodes d.pipe.entries state)
