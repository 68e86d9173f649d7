-- Rows that are put after others.
use Rattle.std.proofs.Common.{◌≡◌, true, ℕ, zero, suc, ◌<◌, List, [], ◌∷◌, ◌++◌, length, map, slice_get, slice_set, Some, Contains, get_or, refl, ap, sym, ◌∙◌, arith}
use Rattle.std.proofs.lemmas.Bool.{false≢true, eqb-true}
use Rattle.std.proofs.lemmas.Option.{none-some, same_Some}
use Rattle.bd_model.specs.declared.design.Sort.{Sort}
use Rattle.bd_terms.specs.declared.node.Sym.{Sym}
use Rattle.bd_terms.specs.declared.node.Sym.TheVariants.{Function, Entry, Input, Address, Var}
use Rattle.bd_terms.specs.contracts.node.SymPartialEq.TheImpl.{eq-value}
use Rattle.bd_terms.specs.declared.node.Node.{Node}
use Rattle.bd_terms.specs.Graph.{KeepsSymbol, Use, uses}
use Rattle.bd_function.specs.declared.flat.FlatRow.{FlatRow}
use Rattle.bd_function.specs.declared.flat.FlatSym.{FlatSym}
use Rattle.bd_function.specs.inner.Taken.{IsVariableBelow, with_row}

-- the symbol at the place with a row more
pub set-with_row : (ss : List FlatSym) (p : ℕ) (d : FlatSym) (r : FlatRow) → p < length ss
    → slice_set ss p (record { sym = (get_or ss p d).sym; rows = (get_or ss p d).rows ++ r ∷ [] }) ≡ with_row ss p r
set-with_row [] p d r h = absurd (omega arith)
set-with_row (s ∷ ss) zero d r h = refl
set-with_row (s ∷ ss) (suc p) d r h = ap (λ l. s ∷ l) (set-with_row ss p d r (omega arith))

-- the entry whose symbol is the one at the place
pub record Named (ss : List FlatSym) (p : ℕ) (k : Sym) : Type 0 where
  pub holder : FlatSym
  pub there : slice_get ss p ≡ Some holder
  pub same : holder.sym ≡ k

pub named-get : (ss : List FlatSym) (p : ℕ) (k : Sym) → slice_get (map (λ (s : FlatSym). s.sym) ss) p ≡ Some k → Named ss p k
named-get [] p k h = absurd (none-some k h)
named-get (s ∷ ss) zero k h = record { holder = s; there = refl; same = same_Some s.sym k h }
named-get (s ∷ ss) (suc p) k h = let n = named-get ss p k h in record { holder = n.holder; there = n.there; same = n.same }

number_of : Sym → ℕ
number_of (Var x) = x
number_of _ = 0

pub same-number : (x y : ℕ) → Var x ≡ Var y → x ≡ y
unfolding number_of
same-number x y e = ap number_of e

-- no graph over earlier variables applies a later one
pub KeepsSymbol-new : (nodes : List Node) (n : ℕ) (s : Sort) → ((u : Use) → Contains (uses nodes) u → IsVariableBelow n u) → KeepsSymbol nodes (Var n) 0 s
KeepsSymbol-new nodes n s h = record {
  keeps = λ u p e. let b = h u p in let same : b.number ≡ n = same-number b.number n (sym b.same ∙ e) in absurd (omega (arith, b.below));
}

pub named-push : (ss : List FlatSym) (k : Sym) → map (λ (s : FlatSym). s.sym) (ss ++ (record { sym = k; rows = [] }) ∷ []) ≡ map (λ (s : FlatSym). s.sym) ss ++ k ∷ []
named-push [] k = refl
named-push (s ∷ ss) k = ap (λ l. s.sym ∷ l) (named-push ss k)

-- symbols that compare as equal are the same
pub sym_same : (a b : Sym) → eq-value.it a b ≡ true → a ≡ b
sym_same (Function a) (Function b) h = ap Function (eqb-true a b h)
sym_same (Entry a) (Entry b) h = ap Entry (eqb-true a b h)
sym_same (Input a) (Input b) h = ap Input (eqb-true a b h)
sym_same (Address a) (Address b) h = ap Address (eqb-true a b h)
sym_same (Var a) (Var b) h = ap Var (eqb-true a b h)
sym_same (Function x) (Entry y) h = absurd (false≢true h)
sym_same (Function x) (Input y) h = absurd (false≢true h)
sym_same (Function x) (Address y) h = absurd (false≢true h)
sym_same (Function x) (Var y) h = absurd (false≢true h)
sym_same (Entry x) (Function y) h = absurd (false≢true h)
sym_same (Entry x) (Input y) h = absurd (false≢true h)
sym_same (Entry x) (Address y) h = absurd (false≢true h)
sym_same (Entry x) (Var y) h = absurd (false≢true h)
sym_same (Input x) (Function y) h = absurd (false≢true h)
sym_same (Input x) (Entry y) h = absurd (false≢true h)
sym_same (Input x) (Address y) h = absurd (false≢true h)
sym_same (Input x) (Var y) h = absurd (false≢true h)
sym_same (Address x) (Function y) h = absurd (false≢true h)
sym_same (Address x) (Entry y) h = absurd (false≢true h)
sym_same (Address x) (Input y) h = absurd (false≢true h)
sym_same (Address x) (Var y) h = absurd (false≢true h)
sym_same (Var x) (Function y) h = absurd (false≢true h)
sym_same (Var x) (Entry y) h = absurd (false≢true h)
sym_same (Var x) (Input y) h = absurd (false≢true h)
sym_same (Var x) (Address y) h = absurd (false≢true h)
