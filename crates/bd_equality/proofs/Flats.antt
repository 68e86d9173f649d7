-- Formulas without functions: no term is a memory, and each word is an ite or a variable.
use Rattle.std.proofs.Common.{◌≡◌, ℕ, zero, suc, ◌<◌, if◌then◌else◌, Bool, true, false, List, [], ◌∷◌, length, slice_get, slice_index_or, None, Some, Contains, refl, ap, sym, ◌∙◌, subst, arith}
use Rattle.std.proofs.lemmas.Bool.{false≢true}
use Rattle.std.proofs.lemmas.Option.{none-some, slice_get-get_or}
use Rattle.bd_model.specs.declared.design.Sort.TheVariants as sort
use Rattle.bd_model.specs.declared.table.Scalar.{Scalar}
use Rattle.bd_model.specs.Value.{scalar_truth, scalar_word}
use Rattle.bd_terms.specs.declared.node.Sym.{Sym}
use Rattle.bd_terms.specs.declared.node.Sym.TheVariants.{Var, Function, Entry, Input, Address}
use Rattle.bd_terms.specs.declared.node.Node.{Node}
use Rattle.bd_terms.specs.declared.node.Node.TheVariants.{True, Not, And, Or, Ite, Eq, App, Pred, Read, Write, Init}
use Rattle.bd_terms.specs.Graph.{IsGraph, children, node_sort, sort_at, sorts, uses}
use Rattle.bd_terms.specs.Denotation.{Denoted, node_value, truth, truth_of, values, word, word_of}
use Rattle.bd_terms.proofs.Denotations.{denoted-get}
use Rattle.bd_terms.proofs.Graphs.{FitsSorts-get, sort_at-get}
use Rattle.bd_terms.proofs.Reaching.{children-below}
use Rattle.bd_terms.proofs.Symbols.{uses-get}
use Rattle.bd_function.specs.declared.flat.FlatSym.{FlatSym}
use Rattle.bd_function.specs.Flat.{IsFlat, is_variable, under}
use Rattle.bd_equality.specs.Encoding.{IsVariable}
use Rattle.bd_equality.specs.Made.{node_head, symbol_variable}
use Rattle.bd_equality.specs.inner.Means.{node_variable}
use Rattle.bd_list.proofs.Membership.{first, second}

sort_clash : sort.Bool ≡ sort.Word → ⊥
sort_clash e = cc

memory_clash : sort.Memory ≡ sort.Word → ⊥
memory_clash e = cc

word_of-if : (b : Bool) (x y : Denoted) → word_of (if b then x else y) ≡ (if b then word_of x else word_of y)
word_of-if true x y = refl
word_of-if false x y = refl

truth_of-if : (b : Bool) (x y : Denoted) → truth_of (if b then x else y) ≡ (if b then truth_of x else truth_of y)
truth_of-if true x y = refl
truth_of-if false x y = refl

module _ (nodes : List Node) (g : IsGraph nodes) (root : ℕ) (syms : List FlatSym) (flat : IsFlat nodes root syms) where
  -- a memory rests on a memory before it
  memory_node : (i : ℕ) (node : Node) → slice_get nodes i ≡ Some node → node_sort (sorts nodes) node ≡ sort.Memory
      → ((c : ℕ) → Contains (children node) c → sort_at nodes c ≡ sort.Memory → ⊥) → ⊥
  memory_node i (Ite c a b) there m none = none a (second c a (b ∷ [])) m
  memory_node i (Write m a d) there e none = none m (first m (a ∷ d ∷ [])) (FitsSorts-get nodes g i (Write m a d) there).0.sorted
  memory_node i (Init e) there m none = false≢true (flat.variables _ (uses-get nodes i (Init e) there _ (first _ [])))
  memory_node i True there m none = cc
  memory_node i (Not a) there m none = cc
  memory_node i (And a b) there m none = cc
  memory_node i (Or a b) there m none = cc
  memory_node i (Eq a b) there m none = cc
  memory_node i (App s args) there m none = cc
  memory_node i (Pred s args) there m none = cc
  memory_node i (Read a b) there m none = cc

  no_memory_below : (n i : ℕ) → i < n → i < length nodes → sort_at nodes i ≡ sort.Memory → ⊥
  no_memory_below zero i lt inside m = absurd (omega arith)
  no_memory_below (suc n) i lt inside m =
      let node = slice_index_or nodes i True in
      let there : slice_get nodes i ≡ Some node = slice_get-get_or nodes i True inside in
      memory_node i node there (sym (sort_at-get nodes g i node there) ∙ m)
      (λ c p. let below = children-below nodes g i node there c p in no_memory_below n c (omega (arith, below)) (omega (arith, below)))

  -- no term is a memory
  pub no_memory : (i : ℕ) → i < length nodes → sort_at nodes i ≡ sort.Memory → ⊥
  no_memory i inside m = no_memory_below (suc i) i (omega arith) inside m

  -- and so none reads one
  pub no_read : (i m a : ℕ) → slice_get nodes i ≡ Some (Read m a) → ⊥
  no_read i m a there = let fits = FitsSorts-get nodes g i (Read m a) there in no_memory m fits.0.inside fits.0.sorted

  -- the symbol of an application is a variable
  symbol_is : (s : Sym) → is_variable s ≡ true → s ≡ Var (symbol_variable s)
  symbol_is (Var x) h = refl
  symbol_is (Function f) h = absurd (false≢true h)
  symbol_is (Entry f) h = absurd (false≢true h)
  symbol_is (Input f) h = absurd (false≢true h)
  symbol_is (Address f) h = absurd (false≢true h)

  -- a word that is no ite is a variable
  pub word_is : (i : ℕ) (node : Node) → slice_get nodes i ≡ Some node → sort_at nodes i ≡ sort.Word → node_head (Some node) ≡ None
      → IsVariable nodes sort.Word (node_variable node) × ((v : ℕ → Scalar) → word (under v) nodes i ≡ scalar_word (v (node_variable node))) × ((s : Sym) × (args : List ℕ) × (node ≡ App s args))
  word_is i (App s args) there e none =
      let used = uses-get nodes i (App s args) there _ (first _ []) in
      let is : s ≡ Var (symbol_variable s) = symbol_is s (flat.variables _ used) in
      let plain : length args ≡ 0 = flat.plain _ used in (
        subst (λ t. Contains (uses nodes) (record { symbol = t; arity = 0; sort = sort.Word })) is
            (subst (λ n. Contains (uses nodes) (record { symbol = s; arity = n; sort = sort.Word })) plain used),
        λ v. ap word_of (denoted-get (under v) nodes g i (App s args) there)
            ∙ ap (λ t. word_of (node_value (under v) (values (under v) nodes) (App t args))) is,
        (s, args, refl),
      )
  word_is i (Read m a) there e none = absurd (no_read i m a there)
  word_is i (Ite c a b) there e none = absurd (none-some c (sym none))
  word_is i True there e none = absurd (sort_clash (sym (sort_at-get nodes g i True there) ∙ e))
  word_is i (Not a) there e none = absurd (sort_clash (sym (sort_at-get nodes g i (Not a) there) ∙ e))
  word_is i (And a b) there e none = absurd (sort_clash (sym (sort_at-get nodes g i (And a b) there) ∙ e))
  word_is i (Or a b) there e none = absurd (sort_clash (sym (sort_at-get nodes g i (Or a b) there) ∙ e))
  word_is i (Eq a b) there e none = absurd (sort_clash (sym (sort_at-get nodes g i (Eq a b) there) ∙ e))
  word_is i (Pred s args) there e none = absurd (sort_clash (sym (sort_at-get nodes g i (Pred s args) there) ∙ e))
  word_is i (Write m a d) there e none = absurd (memory_clash (sym (sort_at-get nodes g i (Write m a d) there) ∙ e))
  word_is i (Init f) there e none = absurd (memory_clash (sym (sort_at-get nodes g i (Init f) there) ∙ e))

  -- an application as a truth value is a variable
  pub pred_is : (i : ℕ) (s : Sym) (args : List ℕ) → slice_get nodes i ≡ Some (Pred s args)
      → IsVariable nodes sort.Bool (symbol_variable s) × ((v : ℕ → Scalar) → truth (under v) nodes i ≡ scalar_truth (v (symbol_variable s)))
  pred_is i s args there =
      let used = uses-get nodes i (Pred s args) there _ (first _ []) in
      let is : s ≡ Var (symbol_variable s) = symbol_is s (flat.variables _ used) in
      let plain : length args ≡ 0 = flat.plain _ used in (
        subst (λ t. Contains (uses nodes) (record { symbol = t; arity = 0; sort = sort.Bool })) is
            (subst (λ n. Contains (uses nodes) (record { symbol = s; arity = n; sort = sort.Bool })) plain used),
        λ v. ap truth_of (denoted-get (under v) nodes g i (Pred s args) there)
            ∙ ap (λ t. truth_of (node_value (under v) (values (under v) nodes) (Pred t args))) is,
      )

-- what terms denote, from what they stand over
module _ (nodes : List Node) (g : IsGraph nodes) where
  pub word_ite : (i c a b : ℕ) → slice_get nodes i ≡ Some (Ite c a b) → (v : ℕ → Scalar)
      → word (under v) nodes i ≡ (if truth (under v) nodes c then word (under v) nodes a else word (under v) nodes b)
  word_ite i c a b there v = ap word_of (denoted-get (under v) nodes g i (Ite c a b) there) ∙ word_of-if (truth (under v) nodes c) _ _

  pub truth_ite : (i c a b : ℕ) → slice_get nodes i ≡ Some (Ite c a b) → (v : ℕ → Scalar)
      → truth (under v) nodes i ≡ (if truth (under v) nodes c then truth (under v) nodes a else truth (under v) nodes b)
  truth_ite i c a b there v = ap truth_of (denoted-get (under v) nodes g i (Ite c a b) there) ∙ truth_of-if (truth (under v) nodes c) _ _

  pub truth_is : (i : ℕ) (node : Node) → slice_get nodes i ≡ Some node → (v : ℕ → Scalar)
      → truth (under v) nodes i ≡ truth_of (node_value (under v) (values (under v) nodes) node)
  truth_is i node there v = ap truth_of (denoted-get (under v) nodes g i node there)
