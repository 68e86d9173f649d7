-- What nothing reads, as the lines that are printed.
use Rattle.std.specs.Prelude.{◌++◌, ℕ, Bool, List, [], ◌∷◌, codes, Option, None, Some, Vec, slice_get, if◌then◌else◌}
use Rattle.std.specs.declared.alloc.Global.{Global}
use Rattle.bd_model.specs.DesignView.{DesignView, PortView}
use Rattle.bd_model.specs.declared.design.Entry.{Entry}
use Rattle.bd_model.specs.declared.design.Symbol.{Symbol}
use Rattle.bd_model.specs.declared.design.Sort.{Sort}
use Rattle.bd_model.specs.declared.design.Sort.TheVariants as sort
use Rattle.bd_about.specs.declared.unread.Unread.{Unread}
use Rattle.bd_about.specs.declared.unread_lines.LetNames.{LetNames}

-- the line of a thing that nothing reads
abbrev pub unread_line : (kind name : List ℕ) → List ℕ
unread_line kind name = codes "read by nothing  " ++ kind ++ name ++ codes "\n"

abbrev pub entry_kind : Sort → List ℕ
entry_kind sort.Memory = codes "memory "
entry_kind _ = codes "latch "

abbrev pub symbol_kind : Bool → List ℕ
symbol_kind predicate = if predicate then codes "predicate " else codes "function "

abbrev pub entry_line : Entry → List ℕ
entry_line e = unread_line (entry_kind e.sort) e.name

abbrev pub input_line : PortView → List ℕ
input_line p = unread_line (codes "input ") p.name

abbrev pub symbol_line : Symbol → List ℕ
symbol_line s = unread_line (symbol_kind s.predicate) s.name

abbrev pub let_line : (kind : List ℕ) → Vec ℕ Global → List ℕ
let_line kind name = unread_line kind name.items

-- the line of a thing, if there is one
abbrev pub line_if : {X : Type 0} → (X → List ℕ) → Option X → List ℕ
line_if line None = []
line_if line (Some x) = line x

-- the lines of the things in some places
abbrev pub lines_at : {X : Type 0} → (X → List ℕ) → List X → (places : List ℕ) → List ℕ
lines_at line xs [] = []
lines_at line xs (i ∷ places) = line_if line (slice_get xs i) ++ lines_at line xs places

-- the lines of all that nothing reads
abbrev pub unread_lines : DesignView → LetNames → Unread → List ℕ
unread_lines d names u =
    lines_at entry_line d.pipe.entries u.entries
    ++ lines_at input_line d.pipe.ports u.inputs
    ++ lines_at symbol_line d.symbols u.symbols
    ++ lines_at (let_line (codes "let ")) names.lets.now u.lets
    ++ lines_at (let_line (codes "let of the specification ")) names.spec_lets.now u.spec_lets
    ++ lines_at (let_line (codes "let of the invariant ")) names.inv_lets.now u.inv_lets
