-- What is counted of functions and predicates, as the lines that are printed.
use Rattle.std.specs.Prelude.{◌++◌, ◌&&◌, ◌==◌, ℕ, Bool, true, not, List, [], ◌∷◌, codes, if◌then◌else◌}
use Rattle.bd_model.specs.DesignView.{DesignView}
use Rattle.bd_model.specs.declared.design.Symbol.{Symbol}
use Rattle.bd_about.specs.ComparedLines.{compared_line}
use Rattle.bd_about.specs.PartLines.{counted, listed_names}
use Rattle.bd_about.specs.declared.counting.Applications.{Applications}
use Rattle.bd_about.specs.declared.counting.Applied.{Applied}
use Rattle.bd_about.specs.declared.application_lines.Listing.{Listing}
use Rattle.bd_about.specs.declared.application_lines.Listing.TheVariants as listing

-- the count that a line says of a symbol
abbrev pub count_of : Listing → Applied → ℕ
count_of listing.Equations a = a.equations
count_of listing.Clauses a = a.clauses
count_of _ a = a.count

-- whether a line names a symbol, which is a predicate or a function: one whose count isn't 0; or a function that is
-- applied and isn't positive
abbrev pub is_said : Listing → (predicate : Bool) → Applied → Bool
is_said listing.NotPositive predicate a = not (a.count == 0) && not predicate && not a.positive
is_said l predicate a = not (count_of l a == 0)

-- what it says of the symbol: its name, and the count too, but of functions that aren't positive
abbrev pub said : Listing → (name : List ℕ) → ℕ → List ℕ
said listing.NotPositive name count = name
said l name count = name ++ counted (codes " ") count

-- of each that it names, where the symbols are counted one by one
abbrev pub all_said : Listing → List Symbol → List Applied → List (List ℕ)
all_said l [] applied = []
all_said l (y ∷ ys) [] = []
all_said l (y ∷ ys) (a ∷ applied) =
    if is_said l y.predicate a then said l y.name (count_of l a) ∷ all_said l ys applied
    else all_said l ys applied

abbrev pub said_line : Listing → List Symbol → List Applied → List ℕ
said_line l symbols applied = listed_names true (all_said l symbols applied) ++ codes "\n"

abbrev pub count_lines : List Symbol → List Applied → List ℕ
count_lines symbols applied =
    codes "applications     " ++ said_line listing.Applied symbols applied
    ++ codes "equations        " ++ said_line listing.Equations symbols applied
    ++ codes "clauses          " ++ said_line listing.Clauses symbols applied
    ++ codes "not positive     " ++ said_line listing.NotPositive symbols applied

abbrev pub application_lines : DesignView → Applications → List ℕ
application_lines d a = count_lines d.symbols a.applied ++ compared_line d a.compared
