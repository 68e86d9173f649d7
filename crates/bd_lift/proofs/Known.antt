-- The rows of known symbols, and the tables that they make.
use Rattle.std.proofs.Common.{◌≡◌, ℕ, ◌⊎◌, inl, inr, Bool, true, false, if◌then◌else◌, List, [], ◌∷◌, length, map, slice_get, Option, Some, None, Contains, refl, ap, sym, ◌∙◌, arith}
use Rattle.std.proofs.lemmas.Option.{same_Some}
use Rattle.bd_model.specs.DesignView.{DesignView, PortView}
use Rattle.bd_model.specs.declared.design.Sort.{Sort}
use Rattle.bd_model.specs.declared.design.Sort.TheVariants as sort
use Rattle.bd_model.specs.declared.design.Symbol.{Symbol}
use Rattle.bd_model.specs.declared.design.Entry as entry
use Rattle.bd_model.specs.declared.table.Scalar.{Scalar}
use Rattle.bd_model.specs.Fits.{result_sort, scalar_sort}
use Rattle.bd_model.specs.Value.{no_table}
use Rattle.bd_terms.specs.declared.node.Node.{Node}
use Rattle.bd_terms.specs.declared.node.Sym.{Sym}
use Rattle.bd_terms.specs.declared.node.Sym.TheVariants.{Function, Entry, Input, Address, Var}
use Rattle.bd_terms.specs.Graph.{Use}
use Rattle.bd_symbolic.specs.DesignSymbols.{declared_use, entry_use, function_use, port_use, sort_use}
use Rattle.bd_function.specs.declared.flat.FlatRow.{FlatRow}
use Rattle.bd_function.specs.declared.flat.FlatSym.{FlatSym}
use Rattle.bd_function.specs.Flat.{HaveSorts, row_of}
use Rattle.bd_function.specs.Tables.{is_symbol, sym_table, sym_tables, table_with, world_of_tables}
use Rattle.bd_function.proofs.Applying.{Contains-later}
use Rattle.bd_function.proofs.Tabling.{is_symbol-same}
use Rattle.bd_function.proofs.Taking.{same-length}
use Rattle.bd_lift.specs.Lifted.{AreKnown, IsKnown}
use Rattle.bd_lift.specs.inner.Built.{has_no_row}
use Rattle.bd_lift.proofs.Tables.{AreRowsOf}
use Rattle.bd_list.proofs.Membership.{Contains-none}

-- a symbol has one arity and sort
pub same-use : (d : DesignView) (a b : Use) → IsKnown d a → IsKnown d b → a.symbol ≡ b.symbol → a ≡ b
same-use d a b (inl p) (inl q) e = same_Some a b (sym p ∙ ap (declared_use d) e ∙ q)
same-use d a b (inl p) (inr q) e =
    let address : a.symbol ≡ Address q.0 = e ∙ ap (λ (u : Use). u.symbol) q.1 in
    let bad : Some a ≡ None = sym p ∙ ap (declared_use d) address in cc
same-use d a b (inr p) (inl q) e =
    let address : b.symbol ≡ Address p.0 = sym e ∙ ap (λ (u : Use). u.symbol) p.1 in
    let bad : Some b ≡ None = sym q ∙ ap (declared_use d) address in cc
same-use d a b (inr p) (inr q) e =
    let is : Address p.0 ≡ Address q.0 = sym (ap (λ (u : Use). u.symbol) p.1) ∙ e ∙ ap (λ (u : Use). u.symbol) q.1 in
    p.1 ∙ ap (λ s. record { symbol = s; arity = 0; sort = sort.Word }) is ∙ sym q.1

by-function : (u : Use) (f : ℕ) (o : Option Symbol) → function_use f o ≡ Some u → (y : Symbol) × (o ≡ Some y) × (u ≡ record { symbol = Function f; arity = y.arity; sort = result_sort y })
by-function u f (Some y) h = (y, refl, sym (same_Some _ u h))
by-function u f None h = cc

by-entry : (u : Use) (i : ℕ) (o : Option entry.Entry) → entry_use i o ≡ Some u → (x : entry.Entry) × (o ≡ Some x) × (u ≡ sort_use (Entry i) x.sort)
by-entry u i (Some x) h = (x, refl, sym (same_Some _ u h))
by-entry u i None h = cc

by-port : (u : Use) (i : ℕ) (o : Option PortView) → port_use i o ≡ Some u → (p : PortView) × (o ≡ Some p) × (u ≡ sort_use (Input i) p.sort)
by-port u i (Some p) h = (p, refl, sym (same_Some _ u h))
by-port u i None h = cc

-- the declaration of a known symbol
pub known-function : (d : DesignView) (u : Use) (f : ℕ) → IsKnown d u → u.symbol ≡ Function f → (y : Symbol) × (slice_get d.symbols f ≡ Some y) × (u ≡ record { symbol = Function f; arity = y.arity; sort = result_sort y })
known-function d u f (inl p) e = by-function u f (slice_get d.symbols f) (sym (ap (declared_use d) e) ∙ p)
known-function d u f (inr p) e = let bad : Address p.0 ≡ Function f = sym (ap (λ (x : Use). x.symbol) p.1) ∙ e in cc

pub known-entry : (d : DesignView) (u : Use) (i : ℕ) → IsKnown d u → u.symbol ≡ Entry i → (x : entry.Entry) × (slice_get d.pipe.entries i ≡ Some x) × (u ≡ sort_use (Entry i) x.sort)
known-entry d u i (inl p) e = by-entry u i (slice_get d.pipe.entries i) (sym (ap (declared_use d) e) ∙ p)
known-entry d u i (inr p) e = let bad : Address p.0 ≡ Entry i = sym (ap (λ (x : Use). x.symbol) p.1) ∙ e in cc

pub known-input : (d : DesignView) (u : Use) (i : ℕ) → IsKnown d u → u.symbol ≡ Input i → (p : PortView) × (slice_get d.pipe.ports i ≡ Some p) × (u ≡ sort_use (Input i) p.sort)
known-input d u i (inl p) e = by-port u i (slice_get d.pipe.ports i) (sym (ap (declared_use d) e) ∙ p)
known-input d u i (inr p) e = let bad : Address p.0 ≡ Input i = sym (ap (λ (x : Use). x.symbol) p.1) ∙ e in cc

pub known-address : (d : DesignView) (u : Use) (i : ℕ) → IsKnown d u → u.symbol ≡ Address i → u ≡ record { symbol = Address i; arity = 0; sort = sort.Word }
known-address d u i (inl p) e = let bad : Some u ≡ None = sym p ∙ ap (declared_use d) e in cc
known-address d u i (inr p) e =
    let is : Address p.0 ≡ Address i = sym (ap (λ (x : Use). x.symbol) p.1) ∙ e in p.1 ∙ ap (λ s. record { symbol = s; arity = 0; sort = sort.Word }) is

pub known-var : (d : DesignView) (u : Use) (i : ℕ) → IsKnown d u → u.symbol ≡ Var i → ⊥
known-var d u i (inl p) e = let bad : Some u ≡ None = sym p ∙ ap (declared_use d) e in cc
known-var d u i (inr p) e = let bad : Address p.0 ≡ Var i = sym (ap (λ (x : Use). x.symbol) p.1) ∙ e in cc

rows-of : (v : ℕ → Scalar) (nodes : List Node) (arity : ℕ) (s : Sort) (rows : List FlatRow) → ((r : FlatRow) → Contains rows r → (length r.args ≡ arity) × (scalar_sort (v r.var) ≡ s))
    → AreRowsOf arity s (map (row_of v nodes) rows)
rows-of v nodes arity s [] h = tt
rows-of v nodes arity s (r ∷ rows) h =
    let here = h r (0, omega arith, refl) in
    (record { arity_is = same-length _ r.args ∙ here.0; sorted = here.1 }, rows-of v nodes arity s rows (λ q p. h q (Contains-later r rows q p)))

-- the rows of a known symbol have its arity and sort
pub known-rows : (d : DesignView) (v : ℕ → Scalar) (nodes : List Node) (syms : List FlatSym) → HaveSorts v nodes → AreKnown d nodes syms → (s : FlatSym) → Contains syms s → (u : Use) → IsKnown d u → u.symbol ≡ s.sym
    → AreRowsOf u.arity u.sort (map (row_of v nodes) s.rows)
known-rows d v nodes syms sorts known s p u k e = rows-of v nodes u.arity u.sort s.rows (λ r q.
    let row = known.each s p r q in
    let is = same-use d row.applied u row.known k (row.same ∙ sym e) in
    (row.arity ∙ ap (λ (x : Use). x.arity) is, sorts.sorted r.var row.applied.sort row.variable ∙ ap (λ (x : Use). x.sort) is))

pub has-row : (v : ℕ → Scalar) (nodes : List Node) (rows : List FlatRow) (r : FlatRow) → Contains rows r → has_no_row (map (row_of v nodes) rows) ≡ false
has-row v nodes [] r p = absurd (Contains-none r p)
has-row v nodes (q ∷ rows) r p = refl

-- a symbol's table is none, or that of its entry
pub record IsFound (v : ℕ → Scalar) (nodes : List Node) (syms : List FlatSym) (k : Sym) : Type 0 where
  pub holder : FlatSym
  pub listed : Contains syms holder
  pub same : holder.sym ≡ k
  pub table : world_of_tables (sym_tables v nodes syms) k ≡ table_with (map (row_of v nodes) holder.rows)

found_more : (v : ℕ → Scalar) (nodes : List Node) (t : FlatSym) (syms : List FlatSym) (k : Sym) (b : Bool) → is_symbol t.sym k ≡ b → (world_of_tables (sym_tables v nodes syms) k ≡ no_table) ⊎ IsFound v nodes syms k
    → (world_of_tables (sym_tables v nodes (t ∷ syms)) k ≡ no_table) ⊎ IsFound v nodes (t ∷ syms) k
found_more v nodes t syms k true e rest = inr (record {
  holder = t;
  listed = (0, omega arith, refl);
  same = is_symbol-same t.sym k e;
  table = ap (λ b. if b then (sym_table v nodes t).table else world_of_tables (sym_tables v nodes syms) k) e;
})
found_more v nodes t syms k false e rest =
    let pass : world_of_tables (sym_tables v nodes (t ∷ syms)) k ≡ world_of_tables (sym_tables v nodes syms) k =
    ap (λ b. if b then (sym_table v nodes t).table else world_of_tables (sym_tables v nodes syms) k) e in
    elim rest [
      | inl h ↦ inl (pass ∙ h)
      | inr h ↦ inr (record { holder = h.holder; listed = Contains-later t syms h.holder h.listed; same = h.same; table = pass ∙ h.table })
    ]

pub found : (v : ℕ → Scalar) (nodes : List Node) (syms : List FlatSym) (k : Sym) → (world_of_tables (sym_tables v nodes syms) k ≡ no_table) ⊎ IsFound v nodes syms k
found v nodes [] k = inl refl
found v nodes (t ∷ syms) k = found_more v nodes t syms k (is_symbol t.sym k) refl (found v nodes syms k)
