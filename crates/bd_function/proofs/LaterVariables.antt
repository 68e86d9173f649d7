-- A later variable changes no older denotation.
use Rattle.std.proofs.Common.{◌≡◌, ℕ, zero, suc, ◌<◌, ◌==◌, inl, inr, Bool, true, false, List, [], ◌∷◌, ◌++◌, map, Contains, nat_eq, refl, ap, sym, ◌∙◌, arith, eq-eqb, if◌then◌else◌}
use Rattle.std.specs.Cmp.{unsigned_Decides}
use Rattle.std.proofs.lemmas.Bool.{ne_eqb}
use Rattle.std.proofs.lemmas.Slice.Eq.{slice_eq-Decides}
use Rattle.std.proofs.lemmas.List.Elements.{Contains-append_cases, Contains-append_left, Contains-append_right}
use lib.Pointwise.{pointwise}
use Rattle.bd_list.specs.Grown.{grown}
use Rattle.bd_model.specs.declared.design.Sort.{Sort}
use Rattle.bd_model.specs.declared.table.Scalar.{Scalar}
use Rattle.bd_model.specs.Table.{at}
use Rattle.bd_model.specs.Fits.{scalar_sort}
use Rattle.bd_model.specs.Value.{scalar_truth, scalar_word}
use Rattle.bd_terms.specs.declared.node.Sym.{Sym}
use Rattle.bd_terms.specs.declared.node.Sym.TheVariants.{Var}
use Rattle.bd_terms.specs.declared.node.Node.{Node}
use Rattle.bd_terms.specs.declared.node.Node.TheVariants.{True, Not, And, Or, Ite, Eq, App, Pred, Read, Write, Init}
use Rattle.bd_terms.specs.Graph.{AddsUses, Use, node_uses, uses}
use Rattle.bd_terms.specs.Denotation.{World, Denoted, Contents, Truth, Word, at_place, node_value, values, word_of, words}
use Rattle.bd_function.specs.declared.flat.FlatRow.{FlatRow}
use Rattle.bd_function.specs.declared.flat.FlatSym.{FlatSym}
use Rattle.bd_function.specs.Flat.{under}
use Rattle.bd_function.specs.inner.Taken.{IsVariableBelow, use_of}
use Rattle.bd_function.proofs.Applying.{Contains-later, pointwise-same}
use Rattle.bd_function.proofs.Rows.{same-number}
use Rattle.bd_list.proofs.Membership.{first, Contains-none, Contains-one}

-- both worlds give these uses the same values at the same arguments
abbrev pub AgreeOn : World → World → List Use → Type 0
AgreeOn v w us = (u : Use) → Contains us u → (args : List ℕ) → at (v u.symbol) args ≡ at (w u.symbol) args

node_value-agree : (v w : World) (done : List Denoted) (node : Node) → AgreeOn v w (node_uses node) → node_value v done node ≡ node_value w done node
node_value-agree v w done True h = refl
node_value-agree v w done (Not a) h = refl
node_value-agree v w done (And a b) h = refl
node_value-agree v w done (Or a b) h = refl
node_value-agree v w done (Ite c a b) h = refl
node_value-agree v w done (Eq a b) h = refl
node_value-agree v w done (App s args) h = ap (λ x. Word (scalar_word x)) (h _ (first _ []) (map (λ a. word_of (at_place done a)) args))
node_value-agree v w done (Pred s args) h = ap (λ x. Truth (scalar_truth x)) (h _ (first _ []) (map (λ a. word_of (at_place done a)) args))
node_value-agree v w done (Read m a) h = refl
node_value-agree v w done (Write m a d) h = refl
node_value-agree v w done (Init e) h = λ i. contents (λ a. scalar_word (h _ (first _ []) (a ∷ []) i))
  where
    contents : (ℕ → ℕ) → Denoted
    contents m = Contents m

grown-agree : (v w : World) (nodes : List Node) (done : List Denoted) → AgreeOn v w (uses nodes) → grown (node_value v) done nodes ≡ grown (node_value w) done nodes
grown-agree v w [] done h = refl
grown-agree v w (n ∷ nodes) done h =
    let head : node_value v done n ≡ node_value w done n = node_value-agree v w done n (λ u p. h u (Contains-append_left (node_uses n) (uses nodes) u p)) in
    ap (λ d. grown (node_value v) (done ++ d ∷ []) nodes) head
    ∙ grown-agree v w nodes (done ++ node_value w done n ∷ []) (λ u p. h u (Contains-append_right (node_uses n) (uses nodes) u p))

-- so the nodes denote the same in both
pub values-agree : (v w : World) (nodes : List Node) → AgreeOn v w (uses nodes) → values v nodes ≡ values w nodes
values-agree v w nodes h = grown-agree v w nodes [] h

pub words-agree : (v w : World) (nodes : List Node) (args : List ℕ) → AgreeOn v w (uses nodes) → words v nodes args ≡ words w nodes args
words-agree v w nodes args h = ap (λ vs. map (λ a. word_of (at_place vs a)) args) (values-agree v w nodes h)

-- the values, with one of a variable in place of the one that it had
abbrev pub with_value : (ℕ → Scalar) → ℕ → Scalar → ℕ → Scalar
with_value v n x = λ m. if m == n then x else v m

pub with_value-same : (v : ℕ → Scalar) (n : ℕ) (x : Scalar) → with_value v n x n ≡ x
with_value-same v n x = ap (λ t. if t then x else v n) (eq-eqb n n refl)

pub with_value-other : (v : ℕ → Scalar) (n : ℕ) (x : Scalar) (m : ℕ) → m < n → with_value v n x m ≡ v m
with_value-other v n x m h = ap (λ t. if t then x else v m) (ne_eqb m n (λ e. absurd (omega (arith, h, e))))

-- a later variable's value counts for no earlier one
pub with_value-agree : (v : ℕ → Scalar) (n : ℕ) (x : Scalar) (us : List Use) → ((u : Use) → Contains us u → IsVariableBelow n u) → AgreeOn (under (with_value v n x)) (under v) us
with_value-agree v n x us h = λ u p args.
    let b = h u p in
    ap (λ s. at (under (with_value v n x) s) args) b.same ∙ with_value-other v n x b.number b.below ∙ sym (ap (λ s. at (under v s) args) b.same)

pub pointwise-equal : (xs ys : List ℕ) → pointwise nat_eq xs ys ≡ true → xs ≡ ys
pointwise-equal xs ys h = (slice_eq-Decides unsigned_Decides xs ys (pointwise nat_eq xs ys) refl).0 h
