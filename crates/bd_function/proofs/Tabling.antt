-- The tables of rows keep the first ones.
use Rattle.std.proofs.Common.{◌≡◌, ℕ, zero, suc, ◌<◌, Bool, true, false, if◌then◌else◌, List, [], ◌∷◌, length, map, slice_get, Some, Contains, nat_eq, refl, ap, sym, ◌∙◌, arith, eq-eqb}
use Rattle.std.proofs.lemmas.Bool.{eqb-true, false≢true}
use Rattle.std.proofs.lemmas.Option.{slice_get-get_or}
use lib.Pointwise.{pointwise}
use Rattle.bd_model.specs.declared.table.Scalar.{Scalar}
use Rattle.bd_model.specs.declared.table.Scalar.TheVariants as scalar
use Rattle.bd_model.specs.Table.{at, row_value}
use Rattle.bd_terms.specs.declared.node.Sym.{Sym}
use Rattle.bd_terms.specs.declared.node.Sym.TheVariants.{Function, Entry, Input, Address, Var}
use Rattle.bd_terms.specs.declared.node.Node.{Node}
use Rattle.bd_function.specs.declared.flat.FlatRow.{FlatRow}
use Rattle.bd_function.specs.declared.flat.FlatSym.{FlatSym}
use Rattle.bd_function.specs.Flat.{IsFlat, KeepsFirst, arguments, row_of}
use Rattle.bd_function.specs.Tables.{default_of, is_symbol, sym_table, sym_tables, world_of_tables}
use Rattle.bd_function.proofs.Applying.{pointwise-same}
use Rattle.bd_list.proofs.Membership.{Contains-none}

pub is_symbol-self : (s : Sym) → is_symbol s s ≡ true
is_symbol-self (Function a) = eq-eqb a a refl
is_symbol-self (Entry a) = eq-eqb a a refl
is_symbol-self (Input a) = eq-eqb a a refl
is_symbol-self (Address a) = eq-eqb a a refl
is_symbol-self (Var a) = eq-eqb a a refl

pub is_symbol-same : (a b : Sym) → is_symbol a b ≡ true → a ≡ b
is_symbol-same (Function a) (Function b) h = ap Function (eqb-true a b h)
is_symbol-same (Entry a) (Entry b) h = ap Entry (eqb-true a b h)
is_symbol-same (Input a) (Input b) h = ap Input (eqb-true a b h)
is_symbol-same (Address a) (Address b) h = ap Address (eqb-true a b h)
is_symbol-same (Var a) (Var b) h = ap Var (eqb-true a b h)
is_symbol-same (Function x) (Entry y) h = absurd (false≢true h)
is_symbol-same (Function x) (Input y) h = absurd (false≢true h)
is_symbol-same (Function x) (Address y) h = absurd (false≢true h)
is_symbol-same (Function x) (Var y) h = absurd (false≢true h)
is_symbol-same (Entry x) (Function y) h = absurd (false≢true h)
is_symbol-same (Entry x) (Input y) h = absurd (false≢true h)
is_symbol-same (Entry x) (Address y) h = absurd (false≢true h)
is_symbol-same (Entry x) (Var y) h = absurd (false≢true h)
is_symbol-same (Input x) (Function y) h = absurd (false≢true h)
is_symbol-same (Input x) (Entry y) h = absurd (false≢true h)
is_symbol-same (Input x) (Address y) h = absurd (false≢true h)
is_symbol-same (Input x) (Var y) h = absurd (false≢true h)
is_symbol-same (Address x) (Function y) h = absurd (false≢true h)
is_symbol-same (Address x) (Entry y) h = absurd (false≢true h)
is_symbol-same (Address x) (Input y) h = absurd (false≢true h)
is_symbol-same (Address x) (Var y) h = absurd (false≢true h)
is_symbol-same (Var x) (Function y) h = absurd (false≢true h)
is_symbol-same (Var x) (Entry y) h = absurd (false≢true h)
is_symbol-same (Var x) (Input y) h = absurd (false≢true h)
is_symbol-same (Var x) (Address y) h = absurd (false≢true h)

pub is_symbol-other : (a b : Sym) → (a ≡ b → ⊥) → is_symbol a b ≡ false
is_symbol-other a b h = tested (is_symbol a b) refl
  where
    tested : (t : Bool) → is_symbol a b ≡ t → t ≡ false
    tested true e = absurd (h (is_symbol-same a b e))
    tested false e = refl

-- no symbol has two entries
abbrev pub HasOnce : List FlatSym → Type 0
HasOnce syms = (i j : ℕ) (s t : FlatSym) → slice_get syms i ≡ Some s → slice_get syms j ≡ Some t → s.sym ≡ t.sym → i ≡ j

once_rest : (s : FlatSym) (syms : List FlatSym) → HasOnce (s ∷ syms) → HasOnce syms
once_rest s syms h i j x y p q e = let same : suc i ≡ suc j = h (suc i) (suc j) x y p q e in omega (arith, same)

-- the world of the tables gives a symbol its own
pub world_of_tables-own : (v : ℕ → Scalar) (nodes : List Node) (syms : List FlatSym) → HasOnce syms → (s : FlatSym) → Contains syms s → world_of_tables (sym_tables v nodes syms) s.sym ≡ (sym_table v nodes s).table
world_of_tables-own v nodes [] once s p = absurd (Contains-none s p)
world_of_tables-own v nodes (t ∷ syms) once s (zero, b, e) =
    let test : is_symbol t.sym s.sym ≡ true = ap (λ (x : FlatSym). is_symbol t.sym x.sym) (sym e) ∙ is_symbol-self t.sym in
    ap (λ z. if z then (sym_table v nodes t).table else world_of_tables (sym_tables v nodes syms) s.sym) test ∙ ap (λ (x : FlatSym). (sym_table v nodes x).table) e
world_of_tables-own v nodes (t ∷ syms) once s (suc k, b, e) =
    let inside : k < length syms = omega (arith, b) in
    let there : slice_get syms k ≡ Some s = slice_get-get_or syms k s inside ∙ ap Some e in
    let test : is_symbol t.sym s.sym ≡ false = is_symbol-other t.sym s.sym (λ x. let bad : zero ≡ suc k = once zero (suc k) t s refl there x in absurd (omega (arith, bad))) in
    ap (λ z. if z then (sym_table v nodes t).table else world_of_tables (sym_tables v nodes syms) s.sym) test
    ∙ world_of_tables-own v nodes syms (once_rest t syms once) s (k, inside, e)

if-rest : (t : Bool) (x y z : Scalar) → y ≡ z → (if t then x else y) ≡ (if t then x else z)
if-rest true x y z h = refl
if-rest false x y z h = h

-- at a row's arguments the value at others doesn't count
row_value-there : (v : ℕ → Scalar) (nodes : List Node) (rows : List FlatRow) (r : FlatRow) (d e : Scalar) → Contains rows r
    → row_value (map (row_of v nodes) rows) (arguments v nodes r) d ≡ row_value (map (row_of v nodes) rows) (arguments v nodes r) e
row_value-there v nodes [] r d e p = absurd (Contains-none r p)
row_value-there v nodes (q ∷ rows) r d e (zero, b, x) =
    let test : pointwise nat_eq (arguments v nodes q) (arguments v nodes r) ≡ true = ap (λ z. pointwise nat_eq (arguments v nodes z) (arguments v nodes r)) x ∙ pointwise-same (arguments v nodes r) in
    ap (λ t. if t then v q.var else row_value (map (row_of v nodes) rows) (arguments v nodes r) d) test
    ∙ sym (ap (λ t. if t then v q.var else row_value (map (row_of v nodes) rows) (arguments v nodes r) e) test)
row_value-there v nodes (q ∷ rows) r d e (suc k, b, x) =
    if-rest (pointwise nat_eq (arguments v nodes q) (arguments v nodes r)) (v q.var) _ _ (row_value-there v nodes rows r d e (k, omega arith, x))

-- so the first rows are kept in that world
pub tables-KeepsFirst : (v : ℕ → Scalar) (nodes : List Node) (root : ℕ) (syms : List FlatSym) → IsFlat nodes root syms → KeepsFirst (world_of_tables (sym_tables v nodes syms)) v nodes syms
tables-KeepsFirst v nodes root syms f = record {
  first = λ s p r q.
      row_value-there v nodes s.rows r (scalar.Bool false) (default_of (map (row_of v nodes) s.rows)) q
      ∙ ap (λ t. at t (arguments v nodes r)) (sym (world_of_tables-own v nodes syms f.once s p));
}
