-- Rows by rising variable.
use Rattle.std.proofs.Common.{◌≡◌, ℕ, ◌<◌, ◌≤◌, ◌+◌, List, [], ◌∷◌, ◌++◌, length, get_or, Some, slice_get, sym, ◌∙◌, subst, inl, inr, zero, suc, arith}
use Rattle.std.proofs.lemmas.Bool.{cases_order}
use Rattle.std.specs.List.{flat_map}
use Rattle.bd_prop.specs.declared.node.PropNode.{PropNode}
use Rattle.bd_prop.specs.declared.node.PropNode.TheVariants.{True, Atom as OfAtom, Not, And, Or, Ite, Tree}
use Rattle.bd_prop.specs.Form.{node_at}
use Rattle.bd_cnf.specs.Literal.{Literal}
use Rattle.bd_tseitin.specs.declared.row.AtomVar.{AtomVar}
use Rattle.bd_tseitin.specs.Rows.{AreApart}
use Rattle.bd_tseitin.specs.Form.{rows_of, rows_at}

-- each variable is above n and those before it
abbrev pub RowsRise : ℕ → List AtomVar → Type 0
RowsRise n [] = Unit {0}
RowsRise n (r ∷ rs) = (n < r.var) × RowsRise r.var rs

RowsRise-lower : (m n : ℕ) (rs : List AtomVar) → m ≤ n → RowsRise n rs → RowsRise m rs
RowsRise-lower m n [] h rise = tt
RowsRise-lower m n (r ∷ rs) h rise = (let first : n < r.var = rise.0 in omega arith, rise.1)

some_row : (r s : AtomVar) → Some r ≡ Some s → r ≡ s
some_row r s h = cc

row_above : (n : ℕ) (rs : List AtomVar) (i : ℕ) (r : AtomVar) → RowsRise n rs → slice_get rs i ≡ Some r → n < r.var
row_above n [] i r rise at = absurd cc
row_above n (s ∷ rs) zero r rise at = subst (λ (x : AtomVar). n < x.var) (some_row s r at) rise.0
row_above n (s ∷ rs) (suc i) r rise at = let first : n < s.var = rise.0 in let more : s.var < r.var = row_above s.var rs i r rise.1 at in omega arith

later_above : (n : ℕ) (rs : List AtomVar) (i j : ℕ) (r s : AtomVar) → RowsRise n rs → slice_get rs i ≡ Some r → slice_get rs j ≡ Some s → i < j → r.var < s.var
later_above n [] i j r s rise at_i at_j h = absurd cc
later_above n (x ∷ rs) zero zero r s rise at_i at_j h = absurd (omega arith)
later_above n (x ∷ rs) zero (suc j) r s rise at_i at_j h = subst (λ (y : AtomVar). y.var < s.var) (some_row x r at_i) (row_above x.var rs j s rise.1 at_j)
later_above n (x ∷ rs) (suc i) zero r s rise at_i at_j h = absurd (omega arith)
later_above n (x ∷ rs) (suc i) (suc j) r s rise at_i at_j h = later_above x.var rs i j r s rise.1 at_i at_j (omega arith)

-- so no variable has two rows
pub variables_apart : (n : ℕ) (rs : List AtomVar) → RowsRise n rs → AreApart (λ (r : AtomVar). r.var) rs
variables_apart n rs rise i j r s at_i at_j same =
    elim (cases_order i j) [
      | inl e ↦ e
      | inr (inl below) ↦ let up : r.var < s.var = later_above n rs i j r s rise at_i at_j below in absurd (omega arith)
      | inr (inr above) ↦ let up : s.var < r.var = later_above n rs j i s r rise at_j at_i above in absurd (omega arith)
    ]

-- the rows of gates that are numbered in order
pub RowsRise-flat : (nodes : List PropNode) (literal_of : ℕ → Literal) (gates : List ℕ) (n : ℕ) → ((k d : ℕ) → k < length gates → (literal_of (get_or gates k d)).var ≡ n + k + 1) → RowsRise n (flat_map (rows_at nodes literal_of) gates)
RowsRise-flat nodes literal_of [] n numbered = tt
RowsRise-flat nodes literal_of (g ∷ gs) n numbered =
    by (node_at nodes g) (RowsRise-flat nodes literal_of gs (n + 1) (λ k d h. numbered (suc k) d (omega arith) ∙ omega arith))
  where
    number : (literal_of g).var ≡ n + 1
    number = numbered 0 g (omega arith) ∙ omega arith

    lower : RowsRise (n + 1) (flat_map (rows_at nodes literal_of) gs) → RowsRise n (flat_map (rows_at nodes literal_of) gs)
    lower = RowsRise-lower n (n + 1) (flat_map (rows_at nodes literal_of) gs) (omega arith)

    by : (m : PropNode) → RowsRise (n + 1) (flat_map (rows_at nodes literal_of) gs) → RowsRise n (rows_of m (literal_of g).var ++ flat_map (rows_at nodes literal_of) gs)
    by (OfAtom a) rise = (omega (arith, number), subst (λ k. RowsRise k (flat_map (rows_at nodes literal_of) gs)) (sym number) rise)
    by True rise = lower rise
    by (Not b) rise = lower rise
    by (And b c) rise = lower rise
    by (Or b c) rise = lower rise
    by (Ite b c d) rise = lower rise
    by (Tree items) rise = lower rise
