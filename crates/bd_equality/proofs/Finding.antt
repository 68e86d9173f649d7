-- The nodes that apply a symbol.
use Rattle.std.proofs.Common.{◌≡◌, ℕ, zero, suc, inl, inr, List, [], ◌∷◌, Some, Contains, slice_get, refl, ap, arith}
use Rattle.std.proofs.lemmas.List.Elements.{Contains-append_cases}
use Rattle.bd_model.specs.declared.design.Sort.TheVariants as sort
use Rattle.bd_terms.specs.declared.node.Sym.TheVariants.{Var, Entry}
use Rattle.bd_terms.specs.declared.node.Node.{Node}
use Rattle.bd_terms.specs.declared.node.Node.TheVariants.{True, Not, And, Or, Ite, Eq, App, Pred, Read, Write, Init}
use Rattle.bd_terms.specs.Graph.{Use, node_uses, uses}

-- a node that applies the use
pub record AppliesUse (nodes : List Node) (u : Use) : Type 0 where
  pub id : ℕ
  pub node : Node
  pub there : slice_get nodes id ≡ Some node
  pub applies : Contains (node_uses node) u

pub applies_use : (nodes : List Node) (u : Use) → Contains (uses nodes) u → AppliesUse nodes u
applies_use [] u (k, lt, e) = absurd (omega arith)
applies_use (n ∷ ns) u h = elim (Contains-append_cases (node_uses n) (uses ns) u h) [
  | inl q ↦ record { id = 0; node = n; there = refl; applies = q }
  | inr q ↦ let r = applies_use ns u q in record { id = suc r.id; node = r.node; there = r.there; applies = r.applies }
]

-- the arguments of a word's symbol
pub record IsApp (node : Node) (x : ℕ) : Type 0 where
  pub args : List ℕ
  pub is : node ≡ App (Var x) args

one : (a u : Use) → Contains (a ∷ []) u → a ≡ u
one a u (zero, lt, e) = e
one a u (suc k, lt, e) = absurd (omega arith)

sort_clash : sort.Bool ≡ sort.Word → ⊥
sort_clash e = cc

symbol_clash : (e x : ℕ) → Entry e ≡ Var x → ⊥
symbol_clash e x h = cc

pub app_of : (node : Node) (x : ℕ) → Contains (node_uses node) (record { symbol = Var x; arity = 0; sort = sort.Word }) → IsApp node x
app_of (App s args) x h = record { args = args; is = ap (λ t. App t args) (ap (λ u. u.symbol) (one _ _ h)) }
app_of (Pred s args) x h = absurd (sort_clash (ap (λ u. u.sort) (one _ _ h)))
app_of (Init e) x h = absurd (symbol_clash e x (ap (λ u. u.symbol) (one _ _ h)))
app_of True x (k, lt, e) = absurd (omega arith)
app_of (Not a) x (k, lt, e) = absurd (omega arith)
app_of (And a b) x (k, lt, e) = absurd (omega arith)
app_of (Or a b) x (k, lt, e) = absurd (omega arith)
app_of (Ite c a b) x (k, lt, e) = absurd (omega arith)
app_of (Eq a b) x (k, lt, e) = absurd (omega arith)
app_of (Read m a) x (k, lt, e) = absurd (omega arith)
app_of (Write m a d) x (k, lt, e) = absurd (omega arith)
