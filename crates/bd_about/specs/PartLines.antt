-- What is compared, and sizes, as the lines that are printed.
use Rattle.std.specs.Prelude.{◌++◌, ◌+◌, ◌==◌, ℕ, Bool, true, false, not, List, [], ◌∷◌, codes, length, if◌then◌else◌}
use Rattle.std.specs.Fmt.{decimal}
use Rattle.std.specs.List.{list_any}
use Rattle.bd_model.specs.DesignView.{DesignView}
use Rattle.bd_model.specs.declared.design.Entry.{Entry}

abbrev pub is_visible : DesignView → ℕ → Bool
is_visible d i = list_any (λ place. place == i) d.visible

-- the names of the entries at such places, which are counted from the first one's
abbrev pub names_at : (such : ℕ → Bool) → (first : ℕ) → List Entry → List (List ℕ)
names_at such i [] = []
names_at such i (e ∷ es) =
    if such i then e.name ∷ names_at such (i + 1) es else names_at such (i + 1) es

-- a comma, but before the first name
abbrev pub comma : (first : Bool) → List ℕ
comma first = if first then [] else codes ", "

-- names with commas between them, of which the first is the first of all or not; or that there is none
abbrev pub listed_names : (first : Bool) → List (List ℕ) → List ℕ
listed_names first [] = if first then codes "nothing" else []
listed_names first (name ∷ names) = (comma first ++ name) ++ listed_names false names

abbrev pub names_line : (such : ℕ → Bool) → List Entry → List ℕ
names_line such entries = listed_names true (names_at such 0 entries) ++ codes "\n"

-- whether an entry is shown, visible or not, where the visible ones are, or the others
abbrev pub shown : (visible : Bool) → Bool → Bool
shown visible flag = if visible then flag else not flag

abbrev pub compared_lines : DesignView → List ℕ
compared_lines d =
    codes "compared         " ++ names_line (λ i. shown true (is_visible d i)) d.pipe.entries
    ++ codes "not compared     " ++ names_line (λ i. shown false (is_visible d i)) d.pipe.entries

-- a count, after what it is of
abbrev pub counted : List ℕ → ℕ → List ℕ
counted what count = what ++ decimal count

abbrev pub pipeline_line : DesignView → List ℕ
pipeline_line d =
    counted (codes "pipeline         entries ") (length d.pipe.entries)
    ++ counted (codes ", inputs ") (length d.pipe.ports)
    ++ counted (codes ", lets ") (length d.pipe.locals)
    ++ counted (codes ", flush ") d.flush
    ++ counted (codes ", steps ") d.steps
    ++ counted (codes ", exact items ") (length d.exact) ++ codes "\n"

abbrev pub specification_line : DesignView → List ℕ
specification_line d =
    counted (codes "specification    entries ") (length d.spec.entries)
    ++ counted (codes ", lets ") (length d.spec.locals) ++ codes "\n"

abbrev pub both_line : DesignView → List ℕ
both_line d =
    counted (codes "both             functions and predicates ") (length d.symbols)
    ++ counted (codes ", distinct groups ") (length d.distinct) ++ codes "\n"

abbrev pub part_lines : DesignView → List ℕ
part_lines d = compared_lines d ++ pipeline_line d ++ specification_line d ++ both_line d
