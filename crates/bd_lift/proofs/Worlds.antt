-- In the world of the case each symbol with rows has the values of its table.
use Rattle.std.proofs.Common.{◌≡◌, ℕ, zero, suc, ◌+◌, ◌<◌, Bool, false, List, [], ◌∷◌, length, map, Contains, refl, ap, sym, ◌∙◌, subst, arith}
use Rattle.std.specs.Prelude.{slice_index_or}
use Rattle.bd_model.specs.DesignView.{DesignView, PortView}
use Rattle.bd_model.specs.declared.design.Sort.{Sort}
use Rattle.bd_model.specs.declared.design.Sort.TheVariants as sort
use Rattle.bd_model.specs.declared.design.Entry as entry
use Rattle.bd_model.specs.declared.table.Scalar.{Scalar}
use Rattle.bd_model.specs.declared.table.Scalar.TheVariants as scalar
use Rattle.bd_model.specs.declared.table.Row.{Row}
use Rattle.bd_model.specs.declared.table.Table.{Table}
use Rattle.bd_model.specs.declared.case.Case.{Case}
use Rattle.bd_model.specs.Fits.{result_sort}
use Rattle.bd_model.specs.Table.{at}
use Rattle.bd_model.specs.Value.{scalar_word, truth}
use Rattle.bd_terms.specs.declared.node.Node.{Node}
use Rattle.bd_terms.specs.declared.node.Sym.{Sym}
use Rattle.bd_terms.specs.declared.node.Sym.TheVariants.{Function, Entry, Input, Address, Var}
use Rattle.bd_terms.specs.Graph.{Use}
use Rattle.bd_terms.proofs.Places.{AllByRecursion-get}
use Rattle.bd_symbolic.specs.World.{constant, value_table, world_of}
use Rattle.bd_function.specs.declared.flat.FlatRow.{FlatRow}
use Rattle.bd_function.specs.declared.flat.FlatSym.{FlatSym}
use Rattle.bd_function.specs.declared.symbol_tables.SymTable.{SymTable}
use Rattle.bd_function.specs.Flat.{row_of}
use Rattle.bd_function.specs.Tables.{default_of, sym_tables, table_with, world_of_tables}
use Rattle.bd_function.proofs.Tabling.{world_of_tables-own}
use Rattle.bd_prop.specs.declared.atom.Atom.{Atom}
use Rattle.bd_transitive.specs.declared.graph.Order.{Order}
use Rattle.bd_lift.specs.Lifted.{IsKnownRow, IsLifted}
use Rattle.bd_lift.specs.inner.First.{AreAlike}
use Rattle.bd_lift.specs.inner.Built.{IsBuilt, entry_value, function_table, has_no_row, scalar_as}
use Rattle.bd_lift.proofs.Numbered.{get-numbered}
use Rattle.bd_lift.proofs.Tables.{AreRowsOf, constant-alike, entry-alike, function-alike, sort_arity, sort_result, use-arity, use-sort}
use Rattle.bd_lift.proofs.FirstRows.{AreAlike-same, entry-enough, function-enough}
use Rattle.bd_lift.proofs.Known.{has-row, known-address, known-entry, known-function, known-input, known-rows, known-var}
use Rattle.bd_lift.proofs.Fitting.{IsSettled, entry-rows, has-enough, table_of-built}
use Rattle.bd_list.proofs.Membership.{Contains-none}

-- the values of a function at the first numbers
listed : (ℕ → ℕ) → ℕ → ℕ → List ℕ
listed f k zero = []
listed f k (suc n) = f k ∷ listed f (suc k) n

get-listed : (f : ℕ → ℕ) (k n i j : ℕ) → i < n → j ≡ k + i → slice_index_or (listed f k n) i 0 ≡ f j
unfolding listed
get-listed f k zero i j h e = absurd (omega (arith, h))
get-listed f k (suc n) zero j h e = let same : k ≡ j = omega (arith, e) in ap f same
get-listed f k (suc n) (suc i) j h e = get-listed f (suc k) n i j (omega (arith, h)) (omega (arith, e))

-- a bound of the addresses' numbers
sym_bound : Sym → ℕ
sym_bound (Address i) = suc i
sym_bound (Function i) = 0
sym_bound (Entry i) = 0
sym_bound (Input i) = 0
sym_bound (Var i) = 0

bound : List FlatSym → ℕ
bound [] = 0
bound (s ∷ syms) = sym_bound s.sym + bound syms

below-bound : (syms : List FlatSym) (s : FlatSym) (i : ℕ) → Contains syms s → s.sym ≡ Address i → i < bound syms
unfolding sym_bound bound
below-bound [] s i p e = absurd (Contains-none s p)
below-bound (t ∷ syms) s i (zero, b, x) e =
    let here : sym_bound t.sym ≡ suc i = ap (λ (z : FlatSym). sym_bound z.sym) x ∙ ap sym_bound e in omega (arith, here)
below-bound (t ∷ syms) s i (suc k, b, x) e = let rest = below-bound syms s i (k, omega arith, x) e in omega (arith, rest)

input-alike : (s : Sort) (rows : List Row) → (s ≡ sort.Memory → ⊥) → AreRowsOf (sort_arity s) (sort_result s) rows → has_no_row rows ≡ false → (args : List ℕ)
    → at (constant (scalar_as s (default_of rows))) args ≡ at (table_with rows) args
input-alike sort.Bool rows m h n args = constant-alike sort.Bool sort.Bool rows h n refl args
input-alike sort.Word rows m h n args = constant-alike sort.Word sort.Word rows h n refl args
input-alike sort.Memory rows m h n args = absurd (m refl)

module _ (d : DesignView) (nodes : List Node) (syms : List FlatSym) (order : Order) (atoms : List (Atom × Bool)) (classes : List ℕ) (v : ℕ → Scalar) (s : IsSettled d nodes syms order atoms classes v)
    (tables : List SymTable) (alike : AreAlike (sym_tables v nodes syms) tables) (c : Case) (b : IsBuilt d (length order.vertices) (world_of_tables tables) c.interp c.state c.inputs) where
  -- the decoded addresses
  addresses : List ℕ
  addresses = listed (λ i. scalar_word (world_of_tables (sym_tables v nodes syms) (Address i)).default) 0 (bound syms)

  rows-by : (h : FlatSym) → Contains syms h → (r : FlatRow) → (k : IsKnownRow d nodes h r) → (arity : ℕ) (z : Sort) → k.applied.arity ≡ arity → k.applied.sort ≡ z → AreRowsOf arity z (map (row_of v nodes) h.rows)
  rows-by h p r k arity z e f =
      subst (λ a. AreRowsOf a z (map (row_of v nodes) h.rows)) e
      (subst (λ y. AreRowsOf k.applied.arity y (map (row_of v nodes) h.rows)) f (known-rows d v nodes syms s.sorts s.known h p k.applied k.known k.same))

  -- a symbol's own table is as the case has it
  alike-by : (h : FlatSym) → Contains syms h → (r : FlatRow) → Contains h.rows r → (k : Sym) → h.sym ≡ k → world_of_tables (sym_tables v nodes syms) k ≡ table_with (map (row_of v nodes) h.rows) → (args : List ℕ)
      → at (world_of c.interp c.state c.inputs addresses k) args ≡ at (world_of_tables (sym_tables v nodes syms) k) args
  unfolding addresses
  alike-by h p r q (Function f) e own args =
      let k = s.known.each h p r q in
      let y = known-function d k.applied f k.known (k.same ∙ e) in
      let rows = rows-by h p r k y.0.arity (result_sort y.0) (ap (λ (u : Use). u.arity) y.2) (ap (λ (u : Use). u.sort) y.2) in
      ap (λ t. at t args) (table_of-built d nodes syms order atoms classes v s tables alike c.interp b.functions f y.0 y.1)
      ∙ function-enough (length order.vertices) f y.0 _ _ (has-enough d nodes syms order atoms classes v s tables alike (Function f)) args
      ∙ ap (λ t. at (function_table (length order.vertices) f y.0 t) args) own
      ∙ function-alike (length order.vertices) f y.0 (map (row_of v nodes) h.rows) rows (has-row v nodes h.rows r q) args
      ∙ ap (λ t. at t args) (sym own)
  alike-by h p r q (Entry i) e own args =
      let k = s.known.each h p r q in
      let x = known-entry d k.applied i k.known (k.same ∙ e) in
      let rows = rows-by h p r k (sort_arity x.0.sort) (sort_result x.0.sort) (ap (λ (u : Use). u.arity) x.2 ∙ use-arity (Entry i) x.0.sort) (ap (λ (u : Use). u.sort) x.2 ∙ use-sort (Entry i) x.0.sort) in
      let held : slice_index_or c.state i (truth false) ≡ entry_value x.0.sort (world_of_tables tables (Entry i)) =
      ap (λ l. slice_index_or l i (truth false)) b.entries
      ∙ get-numbered (λ m (z : entry.Entry). entry_value z.sort (world_of_tables tables (Entry m))) 0 d.pipe.entries i i x.0 (truth false) x.1 (omega arith) in
      ap (λ z. at (value_table z) args) held
      ∙ entry-enough x.0.sort _ _ (has-enough d nodes syms order atoms classes v s tables alike (Entry i)) (entry-rows d nodes syms order atoms classes v s i x.0 x.1) args
      ∙ ap (λ t. at (value_table (entry_value x.0.sort t)) args) own
      ∙ entry-alike x.0.sort (map (row_of v nodes) h.rows) rows (has-row v nodes h.rows r q) args
      ∙ ap (λ t. at t args) (sym own)
  alike-by h p r q (Input i) e own args =
      let k = s.known.each h p r q in
      let x = known-input d k.applied i k.known (k.same ∙ e) in
      let rows = rows-by h p r k (sort_arity x.0.sort) (sort_result x.0.sort) (ap (λ (u : Use). u.arity) x.2 ∙ use-arity (Input i) x.0.sort) (ap (λ (u : Use). u.sort) x.2 ∙ use-sort (Input i) x.0.sort) in
      let held : slice_index_or c.inputs i (scalar.Bool false) ≡ scalar_as x.0.sort (world_of_tables (sym_tables v nodes syms) (Input i)).default =
      ap (λ l. slice_index_or l i (scalar.Bool false)) b.ports
      ∙ get-numbered (λ m (z : PortView). scalar_as z.sort (world_of_tables tables (Input m)).default) 0 d.pipe.ports i i x.0 (scalar.Bool false) x.1 (omega arith)
      ∙ ap (scalar_as x.0.sort) (has-enough d nodes syms order atoms classes v s tables alike (Input i)).default in
      ap (λ z. at (constant z) args) (held ∙ ap (λ (t : Table). scalar_as x.0.sort t.default) own)
      ∙ input-alike x.0.sort (map (row_of v nodes) h.rows) (AllByRecursion-get (λ (p : PortView). p.sort ≡ sort.Memory → ⊥) d.pipe.ports i x.0 s.lawful.inputs x.1) rows (has-row v nodes h.rows r q) args
      ∙ ap (λ t. at t args) (sym own)
  alike-by h p r q (Address i) e own args =
      let k = s.known.each h p r q in
      let u = known-address d k.applied i k.known (k.same ∙ e) in
      let rows = rows-by h p r k 0 sort.Word (ap (λ (z : Use). z.arity) u) (ap (λ (z : Use). z.sort) u) in
      let held : slice_index_or addresses i 0 ≡ scalar_word (world_of_tables (sym_tables v nodes syms) (Address i)).default =
      get-listed (λ m. scalar_word (world_of_tables (sym_tables v nodes syms) (Address m)).default) 0 (bound syms) i i (below-bound syms h i p e) (omega arith) in
      ap (λ n. at (constant (scalar.Word n)) args) (held ∙ ap (λ (t : Table). scalar_word t.default) own)
      ∙ constant-alike sort.Word sort.Word (map (row_of v nodes) h.rows) rows (has-row v nodes h.rows r q) refl args
      ∙ ap (λ t. at t args) (sym own)
  alike-by h p r q (Var i) e own args = let k = s.known.each h p r q in absurd (known-var d k.applied i k.known (k.same ∙ e))

  pub built-lifted-alike : IsLifted nodes syms order atoms c
  built-lifted-alike = record {
    values = v;
    decoded = record { classes = classes; are = s.are; by = s.by };
    addresses = addresses;
    alike = λ h p r q args. alike-by h p r q h.sym refl (world_of_tables-own v nodes syms s.flat.once h p) args;
  }

-- so it is in that of all rows
pub built-lifted : (d : DesignView) (nodes : List Node) (syms : List FlatSym) (order : Order) (atoms : List (Atom × Bool)) (classes : List ℕ) (v : ℕ → Scalar) → IsSettled d nodes syms order atoms classes v
    → (c : Case) → IsBuilt d (length order.vertices) (world_of_tables (sym_tables v nodes syms)) c.interp c.state c.inputs → IsLifted nodes syms order atoms c
built-lifted d nodes syms order atoms classes v s c b = built-lifted-alike d nodes syms order atoms classes v s (sym_tables v nodes syms) (AreAlike-same (sym_tables v nodes syms)) c b
