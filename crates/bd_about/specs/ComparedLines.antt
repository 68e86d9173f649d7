-- With what each function is compared, as the line that is printed.
use Rattle.std.specs.Prelude.{◌++◌, ℕ, Bool, true, false, List, [], ◌∷◌, codes, slice_get, if◌then◌else◌}
use Rattle.bd_model.specs.DesignView.{DesignView, PortView}
use Rattle.bd_model.specs.declared.design.Entry.{Entry}
use Rattle.bd_model.specs.declared.design.Symbol.{Symbol}
use Rattle.bd_terms.specs.declared.node.Sym.{Sym}
use Rattle.bd_terms.specs.declared.node.Sym.TheVariants as symbol
use Rattle.bd_about.specs.PartLines.{comma}
use Rattle.bd_about.specs.UnreadLines.{entry_kind, line_if}

abbrev pub function_words : Symbol → List ℕ
function_words y = y.name

-- what an entry of the pipeline is, and its name
abbrev pub entry_words : Entry → List ℕ
entry_words e = codes "the " ++ entry_kind e.sort ++ e.name

abbrev pub input_words : PortView → List ℕ
input_words p = codes "the input " ++ p.name

-- what a symbol stands for: a function by its name, the first contents of a latch or memory, an input, or an address at
-- which memories are compared; the formula has no other
abbrev pub symbol_words : DesignView → Sym → List ℕ
symbol_words d (symbol.Function f) = line_if function_words (slice_get d.symbols f)
symbol_words d (symbol.Entry i) = line_if entry_words (slice_get d.pipe.entries i)
symbol_words d (symbol.Input i) = line_if input_words (slice_get d.pipe.ports i)
symbol_words d (symbol.Address i) = codes "a fresh address"
symbol_words d (symbol.Var x) = []

-- symbols with commas between them, of which the first is the first of all or not
abbrev pub symbols_words : DesignView → (first : Bool) → List Sym → List ℕ
symbols_words d first [] = []
symbols_words d first (s ∷ ss) = (comma first ++ symbol_words d s) ++ symbols_words d false ss

abbrev pub is_empty : {X : Type 0} → List X → Bool
is_empty [] = true
is_empty (x ∷ xs) = false

-- a semicolon, but before the first function
abbrev pub semicolon : (first : Bool) → List ℕ
semicolon first = if first then [] else codes "; "

-- the functions that are compared with some symbol, each with the symbols; or that there is none
abbrev pub all_compared : DesignView → (first : Bool) → List Symbol → List (List Sym) → List ℕ
all_compared d first [] lists = if first then codes "nothing" else []
all_compared d first (y ∷ ys) [] = if first then codes "nothing" else []
all_compared d first (y ∷ ys) (list ∷ lists) =
    if is_empty list then all_compared d first ys lists
    else (semicolon first ++ (y.name ++ codes ": " ++ symbols_words d true list)) ++ all_compared d false ys lists

abbrev pub compared_line : DesignView → List (List Sym) → List ℕ
compared_line d lists =
    codes "compared with    " ++ all_compared d true d.symbols lists ++ codes "\n"
