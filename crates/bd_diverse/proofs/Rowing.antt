-- Tables that get rows, as worlds.
use Rattle.std.proofs.Common.{◌≡◌, ◌⊎◌, inl, inr, ℕ, zero, suc, ◌+◌, ◌<◌, Bool, true, false, if◌then◌else◌, List, [], ◌∷◌, ◌++◌, length, map, slice_set, get_or, refl, ap, sym, ◌∙◌, arith, true≢false, length-append}
use Rattle.bd_model.specs.declared.table.Scalar.{Scalar}
use Rattle.bd_model.specs.declared.table.Scalar.TheVariants as scalar
use Rattle.bd_model.specs.declared.table.Row.{Row}
use Rattle.bd_model.specs.declared.table.Table.{Table}
use Rattle.bd_model.specs.Table.{at}
use Rattle.bd_model.specs.Value.{no_table}
use Rattle.bd_terms.specs.declared.node.Sym.{Sym}
use Rattle.bd_terms.specs.Denotation.{World}
use Rattle.bd_function.specs.declared.symbol_tables.SymTable.{SymTable}
use Rattle.bd_function.specs.Tables.{is_symbol, world_of_tables}
use Rattle.bd_function.proofs.Tabling.{is_symbol-same, is_symbol-self}
use Rattle.bd_diverse.specs.inner.Rows.{place_of, row_pushed, start_table, table_with_row}
use Rattle.bd_diverse.specs.inner.Spread.{start, with_row}

abbrev more : Table → Row → Table
more t r = record { default = t.default; rows = t.rows ++ r ∷ [] }

own_table : (c : Bool) (a b : Table) (r : Row) → (if c then more a r else b) ≡ (if c then more (if c then a else b) r else (if c then a else b))
own_table true a b r = refl
own_table false a b r = refl

other_table : (c d : Bool) (a w : Table) (r : Row) → (c ≡ true → d ≡ true → ⊥) → (if c then a else (if d then more w r else w)) ≡ (if d then more (if c then a else w) r else (if c then a else w))
other_table true true a w r h = absurd (h refl refl)
other_table true false a w r h = refl
other_table false d a w r h = refl

pushed-by : (x : SymTable) (ts : List SymTable) (s : Sym) (r : Row) (t : Sym) (b : Bool) → is_symbol x.sym s ≡ b → (if b then 0 else suc (place_of ts s)) < suc (length ts)
    → (place_of ts s < length ts → world_of_tables (row_pushed ts (place_of ts s) r) t ≡ with_row (world_of_tables ts) s r t)
    → world_of_tables (row_pushed (x ∷ ts) (if b then 0 else suc (place_of ts s)) r) t ≡ with_row (world_of_tables (x ∷ ts)) s r t
pushed-by x ts s r t true e lt ih =
    let same = is_symbol-same x.sym s e in
    own_table (is_symbol x.sym t) x.table (world_of_tables ts t) r
    ∙ ap (λ (k : Sym). if is_symbol k t then more (if is_symbol x.sym t then x.table else world_of_tables ts t) r else (if is_symbol x.sym t then x.table else world_of_tables ts t)) same
pushed-by x ts s r t false e lt ih =
    ap (λ (w : Table). if is_symbol x.sym t then x.table else w) (ih (omega arith))
    ∙ other_table (is_symbol x.sym t) (is_symbol s t) x.table (world_of_tables ts t) r
    (λ c d. true≢false (sym (is_symbol-self s) ∙ ap (λ (k : Sym). is_symbol k s) (is_symbol-same s t d ∙ sym (is_symbol-same x.sym t c)) ∙ e))

-- a row more in the symbol's table
pub pushed-there : (ts : List SymTable) (s : Sym) (r : Row) (t : Sym) → place_of ts s < length ts → world_of_tables (row_pushed ts (place_of ts s) r) t ≡ with_row (world_of_tables ts) s r t
pushed-there [] s r t h = absurd (omega arith)
pushed-there (x ∷ ts) s r t h = pushed-by x ts s r t (is_symbol x.sym s) refl h (λ k. pushed-there ts s r t k)

abbrev pub no_rows : Sym → SymTable
no_rows s = record { sym = s; table = record { default = scalar.Bool false; rows = [] } }

if-same : (c : Bool) (a : Table) → (if c then a else a) ≡ a
if-same true a = refl
if-same false a = refl

world-empty : (ts : List SymTable) (s t : Sym) → world_of_tables (ts ++ no_rows s ∷ []) t ≡ world_of_tables ts t
world-empty [] s t = if-same (is_symbol s t) no_table
world-empty (x ∷ ts) s t = ap (λ (w : Table). if is_symbol x.sym t then x.table else w) (world-empty ts s t)

place-after_by : (x : SymTable) (ts : List SymTable) (s : Sym) (b : Bool) → (place_of ts s ≡ length ts → place_of (ts ++ no_rows s ∷ []) s ≡ length ts)
    → (if b then 0 else suc (place_of ts s)) ≡ suc (length ts) → (if b then 0 else suc (place_of (ts ++ no_rows s ∷ []) s)) ≡ suc (length ts)
place-after_by x ts s true ih h = absurd (omega (arith, h))
place-after_by x ts s false ih h = ap suc (ih (omega (arith, h)))

place-after : (ts : List SymTable) (s : Sym) → place_of ts s ≡ length ts → place_of (ts ++ no_rows s ∷ []) s ≡ length ts
place-after [] s h = ap (λ b. if b then 0 else 1) (is_symbol-self s)
place-after (x ∷ ts) s h = place-after_by x ts s (is_symbol x.sym s) (place-after ts s) h

-- a row more for a symbol without a table
pub pushed-new : (ts : List SymTable) (s : Sym) (r : Row) (t : Sym) → place_of ts s ≡ length ts → world_of_tables (row_pushed (ts ++ no_rows s ∷ []) (length ts) r) t ≡ with_row (world_of_tables ts) s r t
pushed-new ts s r t h =
    let place = place-after ts s h in
    ap (λ n. world_of_tables (row_pushed (ts ++ no_rows s ∷ []) n r) t) (sym place)
    ∙ pushed-there (ts ++ no_rows s ∷ []) s r t (omega (arith, place, length-append ts (no_rows s ∷ [])))
    ∙ ap (λ (w : Table). if is_symbol s t then more w r else w) (world-empty ts s t)

-- the tables without rows
started-by : (c : Bool) (a : Table) (v w : Table) → v ≡ record { default = at w []; rows = [] }
    → (if c then record { default = at a []; rows = [] } else v) ≡ record { default = at (if c then a else w) []; rows = [] }
started-by true a v w h = refl
started-by false a v w h = h

pub started : (ts : List SymTable) (s : Sym) → world_of_tables (map start_table ts) s ≡ start (world_of_tables ts) s
started [] s = refl
started (x ∷ ts) s = started-by (is_symbol x.sym s) x.table (world_of_tables (map start_table ts) s) (world_of_tables ts s) (started ts s)

world-push_by : (c : Bool) (a v w t : Table) → (v ≡ w) ⊎ (v ≡ t) → ((if c then a else v) ≡ (if c then a else w)) ⊎ ((if c then a else v) ≡ t)
world-push_by true a v w t h = inl refl
world-push_by false a v w t h = h

world-last : (c : Bool) (a b : Table) → ((if c then a else b) ≡ b) ⊎ ((if c then a else b) ≡ a)
world-last true a b = inr refl
world-last false a b = inl refl

-- a table more is one symbol's, or none's
pub world-push : (ts : List SymTable) (t : SymTable) (s : Sym) → (world_of_tables (ts ++ t ∷ []) s ≡ world_of_tables ts s) ⊎ (world_of_tables (ts ++ t ∷ []) s ≡ t.table)
world-push [] t s = world-last (is_symbol t.sym s) t.table no_table
world-push (x ∷ ts) t s = world-push_by (is_symbol x.sym s) x.table (world_of_tables (ts ++ t ∷ []) s) (world_of_tables ts s) t.table (world-push ts t s)

pub set-row_pushed : (ts : List SymTable) (p : ℕ) (d : SymTable) (r : Row) → p < length ts → slice_set ts p (table_with_row (get_or ts p d) r) ≡ row_pushed ts p r
set-row_pushed [] p d r h = absurd (omega arith)
set-row_pushed (t ∷ ts) zero d r h = refl
set-row_pushed (t ∷ ts) (suc p) d r h = ap (λ l. t ∷ l) (set-row_pushed ts p d r (omega arith))
