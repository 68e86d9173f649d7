-- Which equations and clauses of the correspondence formula are a symbol's, and with which symbols one is compared: an
-- equation is an edge between two variables of the formula without functions (Bryant, German and Velev 2001), and has a
-- variable of its own in Tseitin's clauses (Tseitin 1968). A test says of which symbol's applications a variable is
-- one.
use Rattle.std.specs.Prelude.{◌==◌, ◌&&◌, ◌||◌, ℕ, Bool, false, List, [], ◌∷◌, count_by, if◌then◌else◌}
use Rattle.std.specs.List.{list_any}
use Rattle.bd_terms.specs.declared.node.Sym.{Sym}
use Rattle.bd_function.specs.declared.flat.FlatRow.{FlatRow}
use Rattle.bd_function.specs.declared.flat.FlatSym.{FlatSym}
use Rattle.bd_function.specs.Tables.{is_symbol}
use Rattle.bd_prop.specs.declared.atom.Atom.{Atom}
use Rattle.bd_prop.specs.declared.atom.Atom.TheVariants as atom
use Rattle.bd_cnf.specs.Literal.{Literal}
use Rattle.bd_transitive.specs.declared.graph.Edge.{Edge}
use Rattle.bd_tseitin.specs.declared.row.AtomVar.{AtomVar}

-- whether the variable is that of one of the rows
abbrev pub has_row : List FlatRow → ℕ → Bool
has_row rows x = list_any (λ (r : FlatRow). r.var == x) rows

-- whether it is that of an application of the symbol, by the rows of the formula without functions
abbrev pub is_variable_of : List FlatSym → Sym → ℕ → Bool
is_variable_of syms symbol x =
    list_any (λ (h : FlatSym). has_row h.rows x && is_symbol h.sym symbol) syms

-- whether an end of the edge is such a variable
abbrev pub is_equation_of : (Sym → ℕ → Bool) → Sym → Edge → Bool
is_equation_of is symbol edge = is symbol edge.from || is symbol edge.to

-- how many edges have such an end
abbrev pub equations_of : (Sym → ℕ → Bool) → List Edge → Sym → ℕ
equations_of is edges symbol = count_by (is_equation_of is symbol) edges

-- whether the atom is an equation with such an end
abbrev pub is_atom_of : (Sym → ℕ → Bool) → Sym → Atom → Bool
is_atom_of is symbol (atom.Edge from to) = is symbol from || is symbol to
is_atom_of is symbol (atom.Truth x) = false

-- whether the clauses' variable stands for such an equation
abbrev pub stands_for : (Sym → ℕ → Bool) → List AtomVar → Sym → ℕ → Bool
stands_for is rows symbol var =
    list_any (λ (r : AtomVar). (r.var == var) && is_atom_of is symbol r.atom) rows

-- whether such a variable stands in the clause
abbrev pub is_clause_of : (Sym → ℕ → Bool) → List AtomVar → Sym → List Literal → Bool
is_clause_of is rows symbol clause =
    list_any (λ (l : Literal). stands_for is rows symbol l.var) clause

-- in how many clauses one stands
abbrev pub clauses_of : (Sym → ℕ → Bool) → List AtomVar → List (List Literal) → Sym → ℕ
clauses_of is rows clauses symbol = count_by (is_clause_of is rows symbol) clauses

-- whether one end of the edge is a variable of the one symbol, and the other end one of the other symbol
abbrev pub is_between : (Sym → ℕ → Bool) → Sym → Sym → Edge → Bool
is_between is one other edge =
    (is one edge.from && is other edge.to) || (is other edge.from && is one edge.to)

-- the symbols that pass, in order
abbrev pub symbols_among : (Sym → Bool) → List FlatSym → List Sym
symbols_among passes [] = []
symbols_among passes (h ∷ hs) =
    if passes h.sym then h.sym ∷ symbols_among passes hs else symbols_among passes hs

-- the symbols with which one is compared: some edge is between the two
abbrev pub compared_with : (Sym → ℕ → Bool) → List Edge → List FlatSym → Sym → List Sym
compared_with is edges syms symbol =
    symbols_among (λ other. list_any (is_between is symbol other) edges) syms
